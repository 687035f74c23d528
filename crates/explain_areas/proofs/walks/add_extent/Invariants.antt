use Rattle.std.proofs.Common.{◌-◌, ◌≡◌, ◌+◌, ◌*◌, ◌≤◌, ℕ, List, Option, reverse}
use Rattle.explain_areas.specs.Areas.{areas_to}
use Rattle.explain_areas.specs.Ahead.{IsFreeFrom, AreLinesOf}
use Rattle.explain_areas.specs.declared.parts.LineArea.{LineArea as AreaIn}
use Rattle.explain_areas.proofs.walks.add_extent.Given as goal

abbrev pub invariant-loop-area : goal.invariant-loop-area
invariant-loop-area l = record {
  from : 512 * l.fn.extent.start ≤ l.at;
  within : l.at ≤ 512 * (l.fn.extent.start + l.fn.extent.len);
  place : IsFreeFrom l.storage l.subpool l.place l.at;
  areas : (f : ℕ → Option ℕ) (others : List AreaIn) → AreLinesOf l.lines l.storage l.subpool f
      → reverse l.fn.areas.items ≡ areas_to l.subpool f (512 * l.fn.extent.start) others
      → reverse l.areas.items ≡ areas_to l.subpool f l.at others;
}

abbrev pub decreases-loop-area : goal.decreases-loop-area
decreases-loop-area l = l.end - l.at
