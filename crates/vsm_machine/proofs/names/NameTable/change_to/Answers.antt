use Rattle.std.proofs.Common.{ap, refl, sym}
use Rattle.vsm_machine.specs.NameChanges.{define}
use Rattle.vsm_machine.proofs.Entries.{defined-length}
use Rattle.vsm_machine.proofs.names.NameTable.change_to.Goals as goal

pub returns-in-Some : goal.returns-in-Some
returns-in-Some c = rw (← c.in-Some.ensures) refl

pub returns-in-None : goal.returns-in-None
returns-in-None c =
    rw (← c.in-None.ensures) (ap (λ place. define place c.args.name.now.bytes c.args.word) (sym (defined-length c.args.self.now)))
