use Rattle.std.proofs.Common.{◌≡◌, ◌≤◌, ◌<◌, ◌/◌, ℕ, false}
use Rattle.explain_standing.specs.NumberMaps.{number_in}
use Rattle.explain_findings.specs.Stores.{is_unset, line_kept}
use Rattle.explain_findings.proofs.stores.unset_at.Given as goal

abbrev pub invariant-loop-at : goal.invariant-loop-at
invariant-loop-at l =
    record {
      line : l.its.line ≡ line_kept l.carried l.its.word;
      set : (k : ℕ) → l.address ≤ k → k < l.at → is_unset (line_kept l.carried (k / 4)) (number_in l.stored k) ≡ false;
    }
