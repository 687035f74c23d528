use Rattle.std.proofs.Common.{◌≡◌, false, take}
use Rattle.std.specs.List.{list_any}
use Rattle.vsm_model.specs.Passing.{is_anothers}
use Rattle.storage_changes.specs.Meaning.{model_of}
use Rattle.storage_swap.specs.Storage.{state_of}
use Rattle.task_plans.proofs.numbers.some_is_anothers.Given as goal

abbrev pub invariant-loop-k : goal.invariant-loop-k
invariant-loop-k l = list_any (is_anothers (model_of (state_of l.storage))) (take l.k l.numbers.items) ≡ false
