use Rattle.std.proofs.Common.{◌≡◌, [], take}
use Rattle.std.specs.Prelude.{fold}
use Rattle.explain_areas.specs.Keeps.{held, turned, with_area}
use Rattle.explain_areas.proofs.keeps.pages_kept.Given as goal

abbrev pub invariant-loop-area : goal.invariant-loop-area
invariant-loop-area l = turned l.pages.items ≡ held (fold with_area [] (take l.area-index l.areas))
