-- The pages that an area empties are a run.
use Rattle.std.proofs.Common.{◌≡◌, ℕ, ◌+◌, ◌-◌, ◌<◌, ◌≤◌, Bool, true, false, not, ◌&&◌, if◌then◌else◌, Some, refl, sym, ◌∙◌, ap, arith, inl, inr, true≢false}
use Rattle.std.specs.Prelude.{◌/◌, ◌*◌, ◌^◌}
use Rattle.std.proofs.lemmas.Bool.{and_parts, and_from, cases_lt, true_from_ne_false, not-false, cases_eq}
use Rattle.run_set.specs.Runs.{Run, inside}
use Rattle.vsm_model.specs.declared.Subpool.{Subpool}
use Rattle.vsm_model.specs.declared.limits.Settings.{Settings}
use Rattle.vsm_model.specs.Regions.{pages_for}
use Rattle.vsm_model.specs.Search.{holds, all_pass}
use Rattle.vsm_model.specs.Subpools.{same_subpool}
use Rattle.vsm_model.specs.Releasing.{is_idle}
use Rattle.vsm_model.proofs.Least.{all_pass_at, all_pass_from}
use Rattle.storage_changes.specs.State.{StorageState}
use Rattle.storage_changes.specs.Meaning.{subpool_of, is_taken, IsSound}
use Rattle.storage_changes.proofs.Cases.{same-self}
use Rattle.storage_changes.specs.StorageActions.{run_of, first_emptied, past_emptied, emptied_pages}
use Rattle.storage_changes.specs.StorageLaws.{EmptiedPagesAreARun}
use Rattle.storage_changes.proofs.ActionCases.{belongs_is, inside_in, in_inside, not_inside, outside, is_idle_at, idle_from, same_answers}

-- one of two numbers that follow each other
first_true : (b : Bool) (n : ℕ) → (if b then n else n + 1) ≤ n → b ≡ true
first_true true n low = refl
first_true false n low = absurd (omega (arith, low))

first_bounds : (b : Bool) (n : ℕ) → (n ≤ (if b then n else n + 1)) × ((if b then n else n + 1) ≤ n + 1)
first_bounds true n = (omega arith, omega arith)
first_bounds false n = (omega arith, omega arith)

past_true : (b : Bool) (n j : ℕ) → j < (if b then n else n - 1) → n ≤ j + 1 → b ≡ true
past_true true n j high last = refl
past_true false n j high last = absurd (omega (arith, high, last))

past_bound : (b : Bool) (n : ℕ) → (if b then n else n - 1) ≤ n
past_bound true n = omega arith
past_bound false n = omega arith

module _ (settings : Settings) (m : StorageState) (p : Subpool) (d count : ℕ) (sound : IsSound settings m) (more : 0 < count) (high : d + count ≤ 2 ^ 29)
    (held : (k : ℕ) → inside k (run_of d count) ≡ true → (m.subpools.pages p (k / 512) ≡ true) × (m.subpools.free p k ≡ false)) where
  abbrev area : Run
  area = run_of d count

  abbrev taken : ℕ → Bool
  taken k = is_taken m.subpools (subpool_of m.subpools (k / 512)) k

  abbrev left : ℕ → Bool
  left k = not (inside k area) && taken k

  abbrev last : ℕ
  last = pages_for (d + count)

  abbrev front : Bool
  front = all_pass (m.subpools.free p) (512 * (d / 512)) (d - 512 * (d / 512))

  abbrev back : Bool
  back = all_pass (m.subpools.free p) (d + count) (512 * last - (d + count))

  abbrev from : ℕ
  from = first_emptied m.subpools p d

  abbrev past : ℕ
  past = past_emptied m.subpools p (d + count)

  -- a page of the run has a doubleword of the area, and so belongs to the subpool,
  its : (j : ℕ) → from ≤ j → j < past → subpool_of m.subpools j ≡ Some p
  its j low less =
      let begins = (first_bounds front (d / 512)).0 in
      let ends = past_bound back last in
      elim (cases_lt (512 * j) d) [
        | inl below ↦
            let is : d / 512 ≡ j = omega (arith, below, low, begins) in
            ap (subpool_of m.subpools) (sym is) ∙ sound.named p (d / 512) (held d (in_inside d count d (omega arith) (omega (arith, more)))).0
        | inr above ↦
            let is : (512 * j) / 512 ≡ j = omega arith in
            ap (subpool_of m.subpools) (sym is)
            ∙ sound.named p ((512 * j) / 512) (held (512 * j) (in_inside d count (512 * j) above (omega (arith, less, ends)))).0
      ]

  -- has no other doubleword that is taken,
  free_beside : (j k : ℕ) → from ≤ j → j < past → k / 512 ≡ j → inside k area ≡ false → m.subpools.free p k ≡ true
  free_beside j k low less at other =
      let begins = (first_bounds front (d / 512)).0 in
      let ends = past_bound back last in
      elim (cases_lt k d) [
        | inl below ↦
            let all : front ≡ true = first_true front (d / 512) (omega (arith, low, at, below)) in
            all_pass_at (m.subpools.free p) (512 * (d / 512)) (d - 512 * (d / 512)) k all (omega (arith, low, at, begins)) (omega (arith, below))
        | inr above ↦
            let behind : d + count ≤ k = outside d count k other above in
            let all : back ≡ true = past_true back last j less (omega (arith, at, behind)) in
            all_pass_at (m.subpools.free p) (d + count) (512 * last - (d + count)) k all behind (omega (arith, at, less, ends))
      ]

  not_left : (j k : ℕ) (b : Bool) → inside k area ≡ b → from ≤ j → j < past → k / 512 ≡ j → (not b && taken k) ≡ false
  not_left j k true own low less at = refl
  not_left j k false other low less at =
      ap (λ i. is_taken m.subpools (subpool_of m.subpools i) k) at
      ∙ ap (λ o. is_taken m.subpools o k) (its j low less)
      ∙ ap not (free_beside j k low less at other)

  -- so that it is emptied
  emptied : (j : ℕ) → inside j (run_of from (past - from)) ≡ true → (holds (same_subpool p) (subpool_of m.subpools j) && is_idle left j) ≡ true
  emptied j own =
      let at = inside_in from (past - from) j own in
      let less : j < past = omega (arith, at.0, at.1) in
      and_from (holds (same_subpool p) (subpool_of m.subpools j)) (is_idle left j)
      (ap (holds (same_subpool p)) (its j at.0 less) ∙ same-self p)
      (idle_from left j (λ k is. not_left j k (inside k area) refl at.0 less is))

  -- and a page that is emptied
  module _ (j : ℕ) (own : subpool_of m.subpools j ≡ Some p) (idle : is_idle left j ≡ true) where
    -- has a doubleword of the area,
    touched : (k : ℕ) × (inside k area ≡ true) × (k / 512 ≡ j)
    touched =
        let (k, at, is) = sound.well_formed.pages.has_taken j p own in
        (k, true_from_ne_false (inside k area) (λ other. true≢false (sym is ∙ ap (λ b. not b && taken k) (sym other) ∙ is_idle_at left j k idle at)), at)

    free_there : (k : ℕ) → k / 512 ≡ j → inside k area ≡ false → m.subpools.free p k ≡ true
    free_there k at other =
        not-false (m.subpools.free p k)
        (ap (λ o. is_taken m.subpools o k) (sym (ap (subpool_of m.subpools) at ∙ own)) ∙ ap (λ b. not b && taken k) (sym other) ∙ is_idle_at left j k idle at)

    -- and isn't before the run
    not_before : (b : Bool) → front ≡ b → (if b then d / 512 else d / 512 + 1) ≤ j
    not_before true e = let (k, own, at) = touched in let in_it = inside_in d count k own in omega (arith, in_it.0, at)
    not_before false e =
        let (k, own, at) = touched in
        let in_it = inside_in d count k own in
        elim (cases_eq (d / 512) j) [
          | inl is ↦ absurd (true≢false (sym (all_pass_from (m.subpools.free p) (512 * (d / 512)) (d - 512 * (d / 512))
              (λ i low less. free_there i (omega (arith, is, low, less)) (not_inside d count i (λ begins _. omega (arith, begins, low, less))))) ∙ e))
          | inr other ↦ omega (arith, in_it.0, at, other)
        ]

    -- nor after it
    not_behind : (b : Bool) → back ≡ b → j < (if b then last else last - 1)
    not_behind true e = let (k, own, at) = touched in let in_it = inside_in d count k own in omega (arith, in_it.1, at)
    not_behind false e =
        let (k, own, at) = touched in
        let in_it = inside_in d count k own in
        elim (cases_eq (last - 1) j) [
          | inl is ↦ absurd (true≢false (sym (all_pass_from (m.subpools.free p) (d + count) (512 * last - (d + count))
              (λ i low less. free_there i (omega (arith, is, low, less, more)) (not_inside d count i (λ _ ends. omega (arith, ends, low))))) ∙ e))
          | inr other ↦ omega (arith, in_it.1, at, other)
        ]

  in_run : (j : ℕ) → (holds (same_subpool p) (subpool_of m.subpools j) && is_idle left j) ≡ true → inside j (run_of from (past - from)) ≡ true
  in_run j e =
      let parts = and_parts (holds (same_subpool p) (subpool_of m.subpools j)) (is_idle left j) e in
      let own = belongs_is p (subpool_of m.subpools j) parts.0 in
      let low : from ≤ j = not_before j own parts.1 front refl in
      let less : j < past = not_behind j own parts.1 back refl in
      in_inside from (past - from) j low (omega (arith, low, less))

  below_line : from + (past - from) ≤ 2 ^ 20
  below_line =
      let begins = (first_bounds front (d / 512)).1 in
      let ends = past_bound back last in
      omega (arith, begins, ends, high, more)

pub emptied_pages_are_a_run : EmptiedPagesAreARun
emptied_pages_are_a_run settings m p d count sound more high held = (
  λ j. same_answers (inside j (emptied_pages m.subpools p d count)) (holds (same_subpool p) (subpool_of m.subpools j) && is_idle (left settings m p d count sound more high held) j)
      (emptied settings m p d count sound more high held j) (in_run settings m p d count sound more high held j),
  below_line settings m p d count sound more high held,
)
