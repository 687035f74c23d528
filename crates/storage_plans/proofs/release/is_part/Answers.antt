use Rattle.std.proofs.Common.{arith}
use Rattle.storage_plans.proofs.FreeSides.{part_of}
use Rattle.storage_plans.proofs.release.is_part.Goals as goal

pub returns-then-area-run : goal.returns-then-area-run
returns-then-area-run c =
    part_of c.in-Some.area c.args.free c.args.run.start c.args.run.len c.in-Some.is (omega (arith, c.if-run-eq0.false)) c.if-area-run.true
