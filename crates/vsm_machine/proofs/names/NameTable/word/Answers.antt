-- A name that is found among the defined ones stands for its word; one that is found after them, or isn't, for none.
use Rattle.std.proofs.Common.{◌∙◌, sym}
use Rattle.vsm_machine.proofs.Entries.{front-found, front-lacks, front-none}
use Rattle.vsm_machine.proofs.names.NameTable.word.Goals as goal

pub returns-then-index-self : goal.returns-then-index-self
returns-then-index-self c =
    c.in-Some.ensures.value
    ∙ sym (front-found c.args.name.now c.args.self.now.table.entries c.args.self.now.defined c.in-Some.index (sym c.in-Some.ensures.index) c.if-index-self.true)

pub returns-else-index-self : goal.returns-else-index-self
returns-else-index-self c =
    sym (front-lacks c.args.name.now c.args.self.now.table.entries c.args.self.now.defined c.in-Some.index (sym c.in-Some.ensures.index) c.if-index-self.false)

pub returns-in-None : goal.returns-in-None
returns-in-None c = sym (front-none c.args.name.now c.args.self.now.table.entries c.args.self.now.defined (sym c.in-None.ensures.value))
