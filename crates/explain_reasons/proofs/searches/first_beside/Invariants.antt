use Rattle.std.proofs.Common.{◌≡◌, ℕ, ◌+◌, ◌-◌, ◌^◌, ◌<◌, ◌≤◌, false}
use Rattle.storage_core.specs.Meaning.{state_of}
use Rattle.explain_reasons.specs.Searches.{is_beside}
use Rattle.explain_reasons.proofs.searches.first_beside.Given as goal

abbrev pub invariant-loop-at : goal.invariant-loop-at
invariant-loop-at l = record {
  from : l.fn.area.start ≤ l.at;
  near : l.at ≤ 2 ^ 31;
  none : (d : ℕ) → l.fn.area.start ≤ d → d < l.at → is_beside (state_of l.storage) l.subpool d ≡ false;
}

abbrev pub decreases-loop-at : goal.decreases-loop-at
decreases-loop-at l = l.fn.area.start + l.fn.area.len - l.at
