-- What tasks that end see: each of their rows occurs once, and the subpools that they own are among them.
use Rattle.std.proofs.Common.{◌≡◌, ℕ, ◌<◌, ◌≤◌, Bool, true, false, ◌&&◌, ◌==◌, Option, Some, None, List, refl, sym, ◌∙◌, ap, arith, true≢false}
use Rattle.std.specs.Prelude.{filter, option_map}
use Rattle.std.specs.List.{list_any}
use Rattle.std.proofs.lemmas.Bool.{and_left, and_right, and_parts, and_from, ne_eqb, eqb-true, eq-eqb, false_from_ne_true}
use Rattle.vsm_model.specs.declared.Subpool.{Subpool}
use Rattle.vsm_model.specs.Search.{holds, is_in}
use Rattle.vsm_model.specs.Subpools.{same_subpool}
use Rattle.subpool_set.specs.Pools.{tasks, numbers}
use Rattle.subpool_set.proofs.SharedLemmas.{any_of_range}
use Rattle.subpool_storage.specs.Subpools.{Subpools, is_there}
use Rattle.storage_changes.specs.Laws.{CanBe}
use Rattle.storage_changes.proofs.Cases.{same-self}
use Rattle.service_laws.proofs.Options.{none_some, same_some, held}
use Rattle.storage_changes.specs.Ending.{SightRow, row_at, rows_at, ending_tasks, seen_by_these, is_own, owned_by_these}
use Rattle.storage_changes.proofs.EndEach.{Each, Apart, each_all, each_so, each_flat, each_map, each_filter, each_given, apart_flat, apart_map, apart_filter, apart_passing, apart_given}
use Rattle.storage_changes.proofs.EndEach.{range_ascends, any_flat, any_given, any_map, any_filter}

-- the second one is another subpool than the first
abbrev pub IsAnother : Subpool → Subpool → Type 0
IsAnother p q = same_subpool q p ≡ false

-- the subpool is in the list
abbrev pub is_listed : List Subpool → Subpool → Bool
is_listed ps q = list_any (λ p. same_subpool q p) ps

-- the row of a task and a number
abbrev pub is_row : ℕ → ℕ → ℕ → ℕ → Bool
is_row task number t n = (t == task) && (n == number)

-- the second row is another than the first
abbrev pub IsOtherRow : SightRow → SightRow → Type 0
IsOtherRow row other = is_row row.1 row.0.number other.1 other.0.number ≡ false

pub in_tasks : (task : ℕ) → 1 ≤ task → task ≤ 64 → list_any (λ k. k == task) tasks ≡ true
unfolding tasks
in_tasks task low high = any_of_range (λ k. k == task) task 64 1 (eq-eqb task task refl) low (omega (arith, high))

in_numbers : (number : ℕ) → number ≤ 127 → list_any (λ k. k == number) numbers ≡ true
unfolding numbers
in_numbers number high = any_of_range (λ k. k == number) number 128 0 (eq-eqb number number refl) (omega arith) (omega (arith, high))

pub tasks_ascend : Apart (λ j k. j < k) tasks
unfolding tasks
tasks_ascend = range_ascends 1 64

numbers_ascend : Apart (λ j k. j < k) numbers
unfolding numbers
numbers_ascend = range_ascends 0 128

-- The task ends, and sees the subpool.
pub record IsSeen (m : Subpools) (ended : List ℕ) (row : SightRow) : Type 0 where
  pub ends : is_in ended row.1 ≡ true
  pub sees : m.sight row.1 row.0.number ≡ Some row.0.owner

module _ (m : Subpools) where
  at_is : (number task : ℕ) (row : SightRow) → row_at m number task ≡ Some row → (row.1 ≡ task) × (row.0.number ≡ number) × (m.sight task number ≡ Some row.0.owner)
  at_is number task row e = go (m.sight task number) refl e where
    go : (o : Option ℕ) → m.sight task number ≡ o → ◌≡◌ {A = Option SightRow} (option_map (λ owner. (record { number = number; owner = owner }, task)) o) (Some row)
        → (row.1 ≡ task) × (row.0.number ≡ number) × (m.sight task number ≡ Some row.0.owner)
    go None at e = absurd (none_some row e)
    go (Some owner) at e =
        let p : Subpool = record { number = number; owner = owner } in
        let is : ◌≡◌ {A = SightRow} (p, task) row = same_some (p, task) row e in
        (sym (ap (λ (r : SightRow). r.1) is), sym (ap (λ (r : SightRow). r.0.number) is), at ∙ ap (λ (r : SightRow). Some r.0.owner) is)

  module _ (ended : List ℕ) where
    abbrev those : List ℕ
    those = ending_tasks ended

    abbrev IsRowAt : ℕ → SightRow → Type 0
    IsRowAt number row = (row.0.number ≡ number) × IsSeen m ended row

    its_rows : (number : ℕ) → Each (IsRowAt number) (rows_at m those number)
    its_rows number =
        each_given (λ task. is_in ended task ≡ true) (IsRowAt number) (row_at m number) those
        (λ task row ends e. let (same, at, sees) = at_is number task row e in
        (at, record { ends = ap (is_in ended) same ∙ ends; sees = (λ i. m.sight (same i) (at i)) ∙ sees }))
        (each_filter (λ task. Unit {0}) (λ task. is_in ended task ≡ true) (is_in ended) tasks (λ task ends _. ends) (each_all (λ task. Unit {0}) tasks (λ _. tt)))

    its_rows_apart : (number : ℕ) → Apart IsOtherRow (rows_at m those number)
    its_rows_apart number =
        apart_given IsOtherRow (λ j k. j < k) (row_at m number) those
        (λ j k x y less at is.
        let first = (at_is number j x at).0 in
        let second = (at_is number k y is).0 in
        and_left (y.1 == x.1) (y.0.number == x.0.number) (ne_eqb y.1 x.1 (λ same. absurd (omega (arith, less, first, second, same)))))
        (apart_filter (λ j k. j < k) (is_in ended) tasks tasks_ascend)

    rows_apart : (j k : ℕ) → j < k → Each (λ x. Each (IsOtherRow x) (rows_at m those k)) (rows_at m those j)
    rows_apart j k less =
        each_so (IsRowAt j) (λ x. Each (IsOtherRow x) (rows_at m those k)) (rows_at m those j)
        (λ x first. each_so (IsRowAt k) (IsOtherRow x) (rows_at m those k)
        (λ y second.
        let at = first.0 in
        let is = second.0 in
        and_right (y.1 == x.1) (y.0.number == x.0.number) (ne_eqb y.0.number x.0.number (λ same. absurd (omega (arith, less, at, is, same)))))
        (its_rows k))
        (its_rows j)

    pub seen_have : Each (IsSeen m ended) (seen_by_these m ended)
    seen_have =
        each_flat (IsSeen m ended) (rows_at m those) numbers
        (each_all (λ number. Each (IsSeen m ended) (rows_at m those number)) numbers
        (λ number. each_so (IsRowAt number) (IsSeen m ended) (rows_at m those number) (λ row its. its.1) (its_rows number)))

    pub seen_are_apart : Apart IsOtherRow (seen_by_these m ended)
    seen_are_apart =
        apart_flat IsOtherRow (λ j k. j < k) (rows_at m those) numbers rows_apart
        (each_all (λ number. Apart IsOtherRow (rows_at m those number)) numbers its_rows_apart) numbers_ascend

    -- a row of theirs that passes is among them
    pub seen_list : (f : SightRow → Bool) (task : ℕ) (p : Subpool) → (1 ≤ task) × (task ≤ 64) → p.number ≤ 127 → is_in ended task ≡ true → m.sight task p.number ≡ Some p.owner
        → f (p, task) ≡ true → list_any f (seen_by_these m ended) ≡ true
    seen_list f task p range high ends sees passes =
        any_flat f (λ j. j == p.number) (rows_at m those) numbers
        (λ j is. any_given f (λ k. k == task) (row_at m j) those
        (λ k at.
        let its = eqb-true k task at in
        let number = eqb-true j p.number is in
        let same : row_at m j k ≡ row_at m p.number task = λ i. row_at m (number i) (its i) in
        ((p, task), same ∙ ap (option_map (λ owner. (record { number = p.number; owner = owner }, task))) sees, passes))
        (any_filter (λ k. k == task) (λ k. k == task) (is_in ended) tasks (λ k same. (ap (is_in ended) (eqb-true k task same) ∙ ends, same)) (in_tasks task range.0 range.1)))
        (in_numbers p.number high)

    pub owned_have : Each (λ p. (is_in ended p.owner ≡ true) × (is_there m p ≡ true)) (owned_by_these m ended)
    owned_have =
        each_map (λ p. (is_in ended p.owner ≡ true) × (is_there m p ≡ true)) (λ row. row.0) (filter is_own (seen_by_these m ended))
        (each_filter (IsSeen m ended) (λ row. (is_in ended row.0.owner ≡ true) × (is_there m row.0 ≡ true)) is_own (seen_by_these m ended)
        (λ row own is.
        let same = eqb-true row.0.owner row.1 own in (
          ap (is_in ended) same ∙ is.ends,
          ap (λ task. holds (λ owner. owner == row.0.owner) (m.sight task row.0.number)) same ∙ ap (holds (λ owner. owner == row.0.owner)) is.sees ∙ eq-eqb row.0.owner row.0.owner refl,
        ))
        seen_have)

    pub owned_are_apart : Apart IsAnother (owned_by_these m ended)
    owned_are_apart =
        apart_map IsAnother (λ x y. IsOtherRow x y × (is_own x ≡ true) × (is_own y ≡ true)) (λ row. row.0) (filter is_own (seen_by_these m ended))
        (λ x y both. false_from_ne_true (same_subpool y.0 x.0) (λ same.
        let parts = and_parts (y.0.number == x.0.number) (y.0.owner == x.0.owner) same in
        let its = sym (eqb-true y.0.owner y.1 both.2) ∙ eqb-true y.0.owner x.0.owner parts.1 ∙ eqb-true x.0.owner x.1 both.1 in
        true≢false (sym (and_from (y.1 == x.1) (y.0.number == x.0.number) (eq-eqb y.1 x.1 its) parts.0) ∙ both.0)))
        (apart_passing IsOtherRow is_own (seen_by_these m ended) seen_are_apart)

    pub owned_list : (p : Subpool) → CanBe p → is_there m p ≡ true → is_in ended p.owner ≡ true → is_listed (owned_by_these m ended) p ≡ true
    owned_list p can there ends =
        let (owner, at, is) = held (λ owner. owner == p.owner) (m.sight p.owner p.number) there in
        any_map (same_subpool p) (λ row. row.0) (filter is_own (seen_by_these m ended))
        ∙ any_filter (λ row. same_subpool p row.0) (λ row. same_subpool p row.0 && is_own row) is_own (seen_by_these m ended)
        (λ row both. let parts = and_parts (same_subpool p row.0) (is_own row) both in (parts.1, parts.0))
        (seen_list (λ row. same_subpool p row.0 && is_own row) p.owner p (can.1, can.2) can.0 ends (at ∙ ap Some (eqb-true owner p.owner is))
        (and_from (same_subpool p p) (p.owner == p.owner) (same-self p) (eq-eqb p.owner p.owner refl)))
