use Rattle.std.proofs.Common.{◌≡◌, ◌≤◌, ◌<◌, ℕ, true}
use Rattle.storage_core.specs.Meaning.{state_of}
use Rattle.explain_findings.specs.Homes.{home_at, same_home}
use Rattle.explain_standing.specs.NumberMaps.{number_in}
use Rattle.explain_findings.proofs.accesses.first_outside.Given as goal

abbrev pub invariant-loop-at : goal.invariant-loop-at
invariant-loop-at l = (k : ℕ) → l.word ≤ k → k < l.at → same_home l.first (home_at (state_of l.storage) (number_in l.lines) k) ≡ true
