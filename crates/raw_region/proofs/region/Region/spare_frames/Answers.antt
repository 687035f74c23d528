use Rattle.std.proofs.Common.{ap}
use Rattle.raw_region.specs.Pages.{Pages}
use Rattle.raw_region.proofs.region.Region.spare_frames.Goals as goal

pub returns : goal.returns
returns c = ap (λ (s : Pages). s.spare) c.self.view_is
