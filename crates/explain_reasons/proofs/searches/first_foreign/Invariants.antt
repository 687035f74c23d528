use Rattle.std.proofs.Common.{◌≡◌, ℕ, ◌+◌, ◌-◌, ◌^◌, ◌<◌, ◌≤◌, false}
use Rattle.vsm_model.specs.Releasing.{is_foreign}
use Rattle.storage_core.specs.Meaning.{settings_of, state_of}
use Rattle.explain_reasons.proofs.searches.first_foreign.Given as goal

abbrev pub invariant-loop-at : goal.invariant-loop-at
invariant-loop-at l = record {
  from : l.fn.area.start ≤ l.at;
  near : l.at ≤ 2 ^ 31;
  none : (d : ℕ) → l.fn.area.start ≤ d → d < l.at → is_foreign (settings_of l.storage) (state_of l.storage) l.subpool d ≡ false;
}

abbrev pub decreases-loop-at : goal.decreases-loop-at
decreases-loop-at l = l.fn.area.start + l.fn.area.len - l.at
