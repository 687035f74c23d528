use Rattle.std.proofs.Common.{◌≡◌, true, not}
use Rattle.vsm_model.specs.Search.{all_pass, holds}
use Rattle.vsm_model.specs.Subpools.{same_subpool}
use Rattle.storage_changes.specs.Meaning.{model_of}
use Rattle.storage_swap.specs.Storage.{state_of}
use Rattle.storage_plans.proofs.release.has_others.Given as goal

abbrev pub invariant-loop-k : goal.invariant-loop-k
invariant-loop-k l =
    all_pass (λ page. not (holds (λ p. not (same_subpool l.subpool p)) ((model_of (state_of l.storage)).pages page))) l.pages.start l.k ≡ true
