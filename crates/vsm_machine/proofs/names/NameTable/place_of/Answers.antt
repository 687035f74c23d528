-- A name that is found among the defined ones has its place there; one that is found after them, or isn't, has none.
use Rattle.std.proofs.Common.{sym}
use Rattle.vsm_machine.specs.NameTable.{rows_of}
use Rattle.vsm_machine.specs.StepsBack.{none-defined}
use Rattle.vsm_machine.proofs.Entries.{front-place, front-lacks, front-none, none-is}
use Rattle.vsm_machine.proofs.names.NameTable.place_of.Goals as goal

pub returns-then-index-self : goal.returns-then-index-self
returns-then-index-self c =
    sym (front-place c.args.name.now c.args.self.now.table.entries c.args.self.now.defined c.in-Some.index (sym c.in-Some.ensures.index) c.if-index-self.true)

pub returns-else-index-self : goal.returns-else-index-self
returns-else-index-self c =
    let t = c.args.self.now in
    sym (none-defined (rows_of t) c.args.name.now.bytes
    (front-lacks c.args.name.now t.table.entries t.defined c.in-Some.index (sym c.in-Some.ensures.index) c.if-index-self.false))

pub returns-in-None : goal.returns-in-None
returns-in-None c =
    let t = c.args.self.now in
    sym (none-defined (rows_of t) c.args.name.now.bytes
    (front-none c.args.name.now t.table.entries t.defined (none-is _ (sym c.in-None.ensures.found))))
