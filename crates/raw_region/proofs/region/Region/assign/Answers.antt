use Rattle.std.proofs.Common.{Some, ap}
use Rattle.raw_region.specs.Frames.{PageFrame, zeros}
use Rattle.raw_region.proofs.PageSteps.{updated_behind}
use Rattle.raw_region.proofs.region.Region.assign.Goals as goal

pub returns-clause-updates : goal.returns-clause-updates
returns-clause-updates c =
    updated_behind c.args.self.now c.take_zeros-held.new.self c.enter.new.self c.args.page (Some c.take_zeros-held.result.bytes) (Some zeros) c.take_zeros-held.ensures.pages c.enter.ensures.updates (ap (λ (f : PageFrame). Some f.bytes) c.take_zeros-held.ensures.held)
