-- What is cut off is after the defined names.
use Rattle.std.proofs.Common.{ap, is_some, arith}
use Rattle.vsm_model.specs.Names.{word_of}
use Rattle.vsm_machine.proofs.Entries.{rows-kept, all-kept}
use Rattle.vsm_machine.proofs.names.NameTable.forget_undone.Goals as goal

pub returns-then-self-len-clause-rows : goal.returns-then-self-len-clause-rows
returns-then-self-len-clause-rows c =
    let t = c.args.self.now in
    rows-kept t.table.entries c.truncate.new.self.entries t.defined t.defined (omega arith) c.truncate.ensures.entries

pub returns-then-self-len-clause-others : goal.returns-then-self-len-clause-others
returns-then-self-len-clause-others c other =
    let t = c.args.self.now in
    ap (λ l. is_some (word_of l other)) (all-kept t.table.entries c.truncate.new.self.entries t.defined c.truncate.ensures.entries)
