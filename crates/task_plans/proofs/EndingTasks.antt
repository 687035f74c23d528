-- The tasks that end, gathered in ascending order.
use Rattle.std.proofs.Common.{◌≡◌, ℕ, ◌+◌, ◌-◌, ◌<◌, ◌≤◌, Bool, true, false, List, [], ◌∷◌, ◌++◌, sym, ◌∙◌, ap, arith}
use Rattle.std.specs.Prelude.{filter, if◌then◌else◌}
use Rattle.std.specs.List.{range_with_len}
use Rattle.std.proofs.lemmas.List.{append-nil, append_assoc}
use Rattle.task_plans.proofs.Rests.{passes_first, run_next}

module _ (ends : ℕ → Bool) (xs all : List ℕ) (task : ℕ) where
  abbrev pub AreGathered : Type 0
  AreGathered = xs ++ filter ends (range_with_len task (65 - task)) ≡ all

  module _ (low : task < 65) (so : AreGathered) where
    abbrev later : List ℕ
    later = range_with_len (task + 1) (65 - (task + 1))

    pub one_ends : ends task ≡ true → (xs ++ task ∷ []) ++ filter ends later ≡ all
    one_ends e =
        append_assoc xs (task ∷ []) (filter ends later)
        ∙ ap (λ ys. xs ++ ys) (sym (ap (filter ends) (run_next task 65 low) ∙ passes_first ends task later e)) ∙ so

    pub one_stays : ends task ≡ false → xs ++ filter ends later ≡ all
    one_stays e =
        ap (λ ys. xs ++ ys) (sym (ap (filter ends) (run_next task 65 low) ∙ ap (λ (b : Bool). if b then task ∷ filter ends later else filter ends later) e)) ∙ so

  pub all_gathered : 65 ≤ task → AreGathered → xs ≡ all
  all_gathered high so =
      let none : 65 - task ≡ 0 = omega (arith, high) in
      sym (append-nil xs) ∙ sym (ap (λ (n : ℕ). xs ++ filter ends (range_with_len task n)) none) ∙ so
