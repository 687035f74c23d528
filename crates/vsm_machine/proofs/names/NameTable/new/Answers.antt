use Rattle.std.proofs.Common.{refl}
use Rattle.vsm_machine.proofs.names.NameTable.new.Goals as goal

pub returns-clause-none : goal.returns-clause-none
returns-clause-none c = λ name. rw c.new.ensures.empty refl
