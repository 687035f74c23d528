-- What tasks see from a place on, as the place moves on.
use Rattle.std.proofs.Common.{◌≡◌, ℕ, zero, suc, ◌+◌, ◌-◌, ◌<◌, ◌≤◌, inl, inr, Option, Some, None, IsSome, List, [], ◌∷◌, ◌++◌, length, get_or, drop, refl, sym, ◌∙◌, ap, subst, arith}
use Rattle.std.specs.Prelude.{option_map}
use Rattle.std.specs.List.{flat_map, filter_map, cons_option, range_with_len}
use Rattle.std.proofs.Math.Seq.{drop-cons}
use Rattle.std.proofs.lemmas.Bool.{cases_lt}
use Rattle.std.proofs.lemmas.List.{drop_all}
use Rattle.subpool_set.proofs.OrderLemmas.{given_none, numbers_are}
use Rattle.storage_changes.specs.State.{StorageState}
use Rattle.storage_changes.specs.Ending.{SightRow, ended_below, row_at, rows_at, seen_by_these}
use Rattle.task_plans.specs.declared.ended.EndOfTasks.{EndOfTasks}
use Rattle.task_plans.specs.declared.sights.SightPlace.{SightPlace}
use Rattle.task_plans.specs.Sights.{tasks_below, rows_from, rows_behind, seen_left, IsEnding}
use Rattle.task_plans.proofs.Rests.{run_next}

-- the place of a number at which this many tasks were asked
abbrev pub asked_for : ℕ → ℕ → SightPlace
asked_for number asked = record { number = number; asked = asked }

-- above the last possible number, nobody sees a subpool
pub high_none : (f : ℕ → ℕ → Option ℕ) → ((task n : ℕ) → IsSome (f task n) → (1 ≤ task) × (task ≤ 64) × (n ≤ 127)) → (task n : ℕ) → 128 ≤ n → f task n ≡ None
high_none f range task n high = go (f task n) refl where
  go : (o : Option ℕ) → f task n ≡ o → f task n ≡ None
  go None e = e
  go (Some owner) e =
      let P : Option ℕ → Type 0 = λ o. IsSome o in
      let r = range task n (subst P (sym e) refl) in
      absurd (omega (arith, r.2, high))

-- what ends stays so over a storage whose state is the same
pub still_ends : (ending : EndOfTasks) (m k : StorageState) → k ≡ m → IsEnding m ending → IsEnding k ending
still_ends ending m k e h = let P : StorageState → Type 0 = λ x. IsEnding x ending in subst P (sym e) h

module _ (m : StorageState) (top : ℕ) where
  abbrev those : List ℕ
  those = tasks_below m top

  -- one more task is asked
  asks : (number asked : ℕ) → asked < length those
      → rows_from m top (asked_for number asked) ≡ cons_option (row_at m.subpools number (get_or those asked 0)) (rows_from m top (asked_for number (asked + 1)))
  asks number asked less =
      let next : suc asked ≡ asked + 1 = omega arith in
      ap (filter_map (row_at m.subpools number)) (drop-cons those asked 0 less)
      ∙ ap (λ (k : ℕ). cons_option (row_at m.subpools number (get_or those asked 0)) (rows_from m top (asked_for number k))) next

  -- and it sees none, or one
  pub rows_pass : (number asked task : ℕ) → asked < length those → get_or those asked 0 ≡ task → m.subpools.sight task number ≡ None
      → rows_from m top (asked_for number asked) ≡ rows_from m top (asked_for number (asked + 1))
  rows_pass number asked task less is none =
      asks number asked less
      ∙ ap (λ (o : Option ℕ). cons_option (option_map (λ owner. (record { number = number; owner = owner }, get_or those asked 0)) o) (rows_from m top (asked_for number (asked + 1))))
      (ap (λ (t : ℕ). m.subpools.sight t number) is ∙ none)

  pub rows_meet : (number asked task owner : ℕ) → asked < length those → get_or those asked 0 ≡ task → m.subpools.sight task number ≡ Some owner
      → rows_from m top (asked_for number asked) ≡ (record { number = number; owner = owner }, task) ∷ rows_from m top (asked_for number (asked + 1))
  rows_meet number asked task owner less is some =
      asks number asked less
      ∙ ap (λ (t : ℕ). cons_option (row_at m.subpools number t) (rows_from m top (asked_for number (asked + 1)))) is
      ∙ ap (λ (o : Option ℕ). cons_option (option_map (λ owner. (record { number = number; owner = owner }, task)) o) (rows_from m top (asked_for number (asked + 1)))) some

  pub rows_done : (number asked : ℕ) → length those ≤ asked → rows_from m top (asked_for number asked) ≡ []
  rows_done number asked high = ap (filter_map (row_at m.subpools number)) (drop_all asked those high)

  pub seen_whole : seen_left m top (asked_for 0 0) ≡ seen_by_these m.subpools (ended_below m.tasks.parents top)
  seen_whole = sym (ap (flat_map (rows_at m.subpools those)) (numbers_are 128 refl ∙ run_next 0 128 (omega arith)))

  -- at a number where no task sees a subpool
  none_at : (number : ℕ) (ts : List ℕ) → ((task : ℕ) → m.subpools.sight task number ≡ None) → filter_map (row_at m.subpools number) ts ≡ []
  none_at number ts none =
      given_none (row_at m.subpools number) (λ task. ap (option_map (λ owner. (record { number = number; owner = owner }, task))) (none task)) ts

  none_behind : (len first : ℕ) → ((task n : ℕ) → first ≤ n → m.subpools.sight task n ≡ None) → flat_map (rows_at m.subpools those) (range_with_len first len) ≡ []
  none_behind zero first none = refl
  none_behind (suc len) first none =
      ap (λ (rows : List SightRow). rows ++ flat_map (rows_at m.subpools those) (range_with_len (first + 1) len)) (none_at first those (λ task. none task first (omega arith)))
      ∙ none_behind len (first + 1) (λ task n more. none task n (omega (arith, more)))

  -- from a number on at which no task sees one
  pub seen_done : (number asked : ℕ) → ((task n : ℕ) → number ≤ n → m.subpools.sight task n ≡ None) → seen_left m top (asked_for number asked) ≡ []
  seen_done number asked none =
      ap (λ (rows : List SightRow). rows ++ rows_behind m top number) (none_at number (drop asked those) (λ task. none task number (omega arith)))
      ∙ none_behind (128 - (number + 1)) (number + 1) (λ task n more. none task n (omega (arith, more)))

  behind_is : (number : ℕ) → ((task n : ℕ) → 128 ≤ n → m.subpools.sight task n ≡ None) → rows_behind m top number ≡ seen_left m top (asked_for (number + 1) 0)
  behind_is number none =
      elim (cases_lt (number + 1) 128) [
        | inl less ↦ ap (flat_map (rows_at m.subpools those)) (run_next (number + 1) 128 less)
        | inr last ↦
            let nothing : 128 - (number + 1) ≡ 0 = omega (arith, last) in
            ap (λ (len : ℕ). flat_map (rows_at m.subpools those) (range_with_len (number + 1) len)) nothing
            ∙ sym (seen_done (number + 1) 0 (λ task n more. none task n (omega (arith, last, more))))
      ]

  -- a number is passed if no other task that ends sees one
  pub seen_passes : (number asked : ℕ) → ((task n : ℕ) → 128 ≤ n → m.subpools.sight task n ≡ None) → rows_from m top (asked_for number asked) ≡ []
      → seen_left m top (asked_for number asked) ≡ seen_left m top (asked_for (number + 1) 0)
  seen_passes number asked none rest = ap (λ (rows : List SightRow). rows ++ rows_behind m top number) rest ∙ behind_is number none

  pub seen_meets : (place next : SightPlace) (row : SightRow) → next.number ≡ place.number → rows_from m top place ≡ row ∷ rows_from m top next
      → seen_left m top place ≡ row ∷ seen_left m top next
  seen_meets place next row at is =
      ap (λ (rows : List SightRow). rows ++ rows_behind m top place.number) is
      ∙ ap (λ (number : ℕ). row ∷ (rows_from m top next ++ rows_behind m top number)) (sym at)
