use Rattle.std.proofs.Common.{◌-◌, ◌≡◌, ◌<◌, ◌≤◌, ℕ, List, Option, reverse}
use Rattle.explain_areas.specs.Areas.{areas_to}
use Rattle.explain_standing.specs.NumberMaps.{number_in}
use Rattle.explain_areas.specs.declared.parts.LineArea.{LineArea as AreaIn}
use Rattle.explain_areas.proofs.parts.add_taken.Given as goal

abbrev pub invariant-loop-at : goal.invariant-loop-at
invariant-loop-at l = record {
  from : l.first ≤ l.at;
  within : l.at ≤ l.end;
  areas : (f : ℕ → Option ℕ) (others : List AreaIn)
      → ((d : ℕ) → l.first ≤ d → d < l.end → f d ≡ number_in l.lines d)
      → reverse l.fn.areas.items ≡ areas_to l.subpool f l.first others
      → reverse l.areas.items ≡ areas_to l.subpool f l.at others;
}

abbrev pub decreases-loop-at : goal.decreases-loop-at
decreases-loop-at l = l.end - l.at
