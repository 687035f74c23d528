use Rattle.std.proofs.Common.{refl}
use Rattle.cell_pool.proofs.label.form_of.Goals as goal

pub returns-in-Some-clause-secondary : goal.returns-in-Some-clause-secondary
returns-in-Some-clause-secondary c = refl
