use Rattle.std.proofs.Common.{◌≡◌, ℕ, ◌-◌, ◌<◌, ◌++◌, false, List, length, drop, slice_index_or}
use Rattle.vsm_model.specs.Search.{is_in}
use Rattle.vsm_model.specs.Passing.{is_bad_list}
use Rattle.task_plans.proofs.numbers.has_bad_number.Given as goal

-- the numbers that were looked at are allowed, and only they were seen
abbrev pub invariant-loop-k : goal.invariant-loop-k
invariant-loop-k l =
    let both : List ℕ = l.given.items ++ l.shared.items in record {
      fine : is_bad_list (drop (length both - l.k) both) ≡ false;
      seen : (n : ℕ) → n < 128 → slice_index_or l.behind n false ≡ is_in (drop (length both - l.k) both) n;
      long : length l.behind ≡ 128;
    }
