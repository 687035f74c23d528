use Rattle.std.proofs.Common.{ap}
use Rattle.macro_statements.specs.Detach.{detach_with}
use Rattle.macro_statements.proofs.detach.detach_by.Goals as goal

pub returns-in-Some : goal.returns-in-Some
returns-in-Some c = ap detach_with c.in-Some.ensures
