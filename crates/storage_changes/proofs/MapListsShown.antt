-- The extents and the free areas of a subpool are those of the plain machine, and end in the regions.
use Rattle.std.proofs.Common.{◌≡◌, ℕ, zero, suc, ◌+◌, ◌*◌, ◌<◌, ◌≤◌, inl, inr, Bool, true, false, ◌&&◌, List, [], ◌∷◌, ◌++◌, map, Option, Some, None, refl, sym, ap, ◌∙◌, arith, subst}
use Rattle.std.specs.Prelude.{◌/◌, ◌^◌, slice_get}
use Rattle.std.proofs.lemmas.Bool.{false_from_ne_true}
use Rattle.run_set.specs.Runs.{Run}
use Rattle.vsm_model.specs.declared.Subpool.{Subpool}
use Rattle.vsm_model.specs.declared.limits.Settings.{Settings}
use Rattle.vsm_model.specs.Regions.{within, high_region, settings_valid}
use Rattle.vsm_model.specs.Runs.{runs}
use Rattle.vsm_model.specs.Search.{holds}
use Rattle.vsm_model.specs.Subpools.{same_subpool}
use Rattle.vsm_model.specs.Areas as plain
use Rattle.subpool_storage.specs.Extents.{run_in, extents, free_areas}
use Rattle.storage_changes.specs.State.{StorageState}
use Rattle.storage_changes.specs.Meaning.{subpool_of, model_of, IsSound}
use Rattle.storage_changes.proofs.MeaningLemmas.{free_storage_is_free}
use Rattle.storage_changes.specs.MapLists.{pair_of, ExtentsAreShown, FreeAreasAreShown, ExtentsEndInRegions, FreeAreasEndInRegions}
use Rattle.storage_changes.proofs.MapRunLists.{Between, between_wider, between_longer, runs_between, runs_agree, two_ranges}
use Rattle.storage_changes.proofs.MapRanges.{InEither, sizes, is_within, page_is, page_within, free_within}

-- the runs of only what passes in two ranges, with a number between them and one after them
pub parted : (f : ℕ → Bool) (a n b m top : ℕ) → a + n < b → b + m < top → ((k : ℕ) → f k ≡ true → InEither a n b m k) → runs f 0 top ≡ runs f a n ++ runs f b m
parted f a n b m top gap room only = two_ranges f a n b m top gap room
    (λ k high. fails k (λ h. either k h (λ low far. omega (arith, low, high)) (λ low far. omega (arith, low, high, gap))))
    (λ k low high. fails k (λ h. either k h (λ near far. omega (arith, low, far)) (λ near far. omega (arith, near, high))))
    (λ k low. fails k (λ h. either k h (λ near far. omega (arith, low, far, gap)) (λ near far. omega (arith, low, far))))
  where
    either : (k : ℕ) → InEither a n b m k → (a ≤ k → k < a + n → ⊥) → (b ≤ k → k < b + m → ⊥) → ⊥
    either k (inl h) u v = u h.0 h.1
    either k (inr h) u v = v h.0 h.1

    fails : (k : ℕ) → (InEither a n b m k → ⊥) → f k ≡ false
    fails k h = false_from_ne_true (f k) (λ e. h (only k e))

-- a number of a range passes with the range's test as it does without
inside_alone : (b c d : Bool) → b ≡ true → c ≡ d → (b && c) ≡ d
inside_alone true c d e h = h
inside_alone false c d e h = absurd (let no : false ≡ true = e in cc)

pub as_runs : (xs : List (ℕ × ℕ)) → map pair_of (map run_in xs) ≡ xs
as_runs [] = refl
as_runs (x ∷ xs) = ap (λ (z : List (ℕ × ℕ)). x ∷ z) (as_runs xs)

pub append_nil : (xs : List (ℕ × ℕ)) → xs ++ [] ≡ xs
append_nil [] = refl
append_nil (x ∷ xs) = ap (λ (z : List (ℕ × ℕ)). x ∷ z) (append_nil xs)

module _ (settings : Settings) (m : StorageState) (p : Subpool) (valid : settings_valid settings ≡ true) (sound : IsSound settings m) where
  -- the runs of its pages and of its free doublewords, by region
  pub page_runs : (top : ℕ) → top ≡ 2 ^ 29
      → runs (m.subpools.pages p) 0 top ≡ runs (m.subpools.pages p) 6 (settings.low_k / 4) ++ runs (m.subpools.pages p) 32768 (settings.high_k / 4)
  page_runs top e =
      let most = sizes settings valid in
      let low : settings.low_k / 4 ≤ 4090 = most.0 in
      let high : settings.high_k / 4 ≤ 393216 = most.1 in
      parted (m.subpools.pages p) 6 (settings.low_k / 4) 32768 (settings.high_k / 4) top (omega (arith, low)) (omega (arith, high, e)) (page_within settings m sound p)

  pub free_runs : (top : ℕ) → top ≡ 2 ^ 29
      → runs (m.subpools.free p) 0 top
      ≡ runs (m.subpools.free p) (512 * 6) (512 * (settings.low_k / 4)) ++ runs (m.subpools.free p) (512 * 32768) (512 * (settings.high_k / 4))
  free_runs top e =
      let most = sizes settings valid in
      let low : settings.low_k / 4 ≤ 4090 = most.0 in
      let high : settings.high_k / 4 ≤ 393216 = most.1 in
      parted (m.subpools.free p) (512 * 6) (512 * (settings.low_k / 4)) (512 * 32768) (512 * (settings.high_k / 4)) top (omega (arith, low)) (omega (arith, high, e)) (free_within settings m sound p)

  -- the plain machine's runs of a region
  plain_pages : (first count : ℕ) → plain.extents (model_of m) p (record { first = first; count = count }) ≡ runs (m.subpools.pages p) first count
  plain_pages first count =
      runs_agree (λ k. within (record { first = first; count = count }) k && holds (same_subpool p) (subpool_of m.subpools k)) (m.subpools.pages p) first count
      (λ k low high. inside_alone (within (record { first = first; count = count }) k) (holds (same_subpool p) (subpool_of m.subpools k)) (m.subpools.pages p k)
      (is_within first count k low high) (page_is settings m sound p k))

  plain_free : (first count : ℕ) → plain.free_areas (model_of m) p (record { first = first; count = count }) ≡ runs (m.subpools.free p) (512 * first) (512 * count)
  plain_free first count =
      runs_agree (λ d. within (record { first = first; count = count }) (d / 512) && plain.is_free (model_of m) p d) (m.subpools.free p) (512 * first) (512 * count)
      (λ d low high. inside_alone (within (record { first = first; count = count }) (d / 512)) (plain.is_free (model_of m) p d) (m.subpools.free p d)
      (is_within first count (d / 512) (omega (arith, low)) (omega (arith, high))) (free_storage_is_free settings m sound p d))

pub extents_are_shown : ExtentsAreShown
unfolding extents
extents_are_shown settings m p valid sound =
    ap (λ (z : List (ℕ × ℕ)). z ++ (plain.extents (model_of m) p (high_region settings) ++ [])) (plain_pages settings m p valid sound 6 (settings.low_k / 4))
    ∙ ap (λ (z : List (ℕ × ℕ)). runs (m.subpools.pages p) 6 (settings.low_k / 4) ++ z)
    (append_nil (plain.extents (model_of m) p (high_region settings)) ∙ plain_pages settings m p valid sound 32768 (settings.high_k / 4))
    ∙ sym (as_runs (runs (m.subpools.pages p) 0 (2 ^ 29)) ∙ page_runs settings m p valid sound (2 ^ 29) refl)

pub free_areas_are_shown : FreeAreasAreShown
unfolding free_areas
free_areas_are_shown settings m p valid sound =
    ap (λ (z : List (ℕ × ℕ)). z ++ (plain.free_areas (model_of m) p (high_region settings) ++ [])) (plain_free settings m p valid sound 6 (settings.low_k / 4))
    ∙ ap (λ (z : List (ℕ × ℕ)). runs (m.subpools.free p) (512 * 6) (512 * (settings.low_k / 4)) ++ z)
    (append_nil (plain.free_areas (model_of m) p (high_region settings)) ∙ plain_free settings m p valid sound 32768 (settings.high_k / 4))
    ∙ sym (as_runs (runs (m.subpools.free p) 0 (2 ^ 29)) ∙ free_runs settings m p valid sound (2 ^ 29) refl)

-- what is in a list whose runs end at a number ends there too
ends_by : (low high top : ℕ) (xs : List (ℕ × ℕ)) (i : ℕ) (r : Run) → high < top → Between low high xs → slice_get (map run_in xs) i ≡ Some r → r.start + r.len < top
ends_by low high top [] i r less h e = absurd (let no : ◌≡◌ {A = Option Run} None (Some r) = e in cc)
ends_by low high top (x ∷ xs) zero r less h e =
    let is : run_in x ≡ r = cc in
    let ends : x.0 + x.1 ≤ high = h.2 in
    let P : Run → Type 0 = λ z. z.start + z.len < top in
    subst P is (omega (arith, less, ends))
ends_by low high top (x ∷ xs) (suc i) r less h e = ends_by low high top xs i r less h.3 e

two_between : (low mid high : ℕ) (xs ys : List (ℕ × ℕ)) → low ≤ mid → mid ≤ high → Between low mid xs → Between mid high ys → Between low high (xs ++ ys)
two_between low mid high [] ys early late h k = between_wider low mid high ys early k
two_between low mid high (x ∷ xs) ys early late h k =
    (h.0, h.1, let ends : x.0 + x.1 ≤ mid = h.2 in omega (arith, ends, late), two_between low mid high xs ys early late h.3 k)

-- runs of two ranges end by the end of the second
pub ends_of_two : (f : ℕ → Bool) (a n b m top : ℕ) (i : ℕ) (r : Run) (xs : List (ℕ × ℕ)) → a + n < b → b + m < top → xs ≡ runs f a n ++ runs f b m
    → slice_get (map run_in xs) i ≡ Some r → r.start + r.len < top
ends_of_two f a n b m top i r xs gap room e at =
    let P : List (ℕ × ℕ) → Type 0 = Between a (b + m) in
    let first : Between a b (runs f a n) = between_longer a (a + n) b (runs f a n) (omega (arith, gap)) (runs_between f a n) in
    let both : Between a (b + m) (runs f a n ++ runs f b m) = two_between a b (b + m) (runs f a n) (runs f b m) (omega (arith, gap)) (omega arith) first (runs_between f b m) in
    ends_by a (b + m) top xs i r room (subst P (sym e) both) at

pub extents_end_in_regions : ExtentsEndInRegions
unfolding extents
extents_end_in_regions settings m p i r valid sound at =
    let most = sizes settings valid in
    let low : settings.low_k / 4 ≤ 4090 = most.0 in
    let high : settings.high_k / 4 ≤ 393216 = most.1 in
    ends_of_two (m.subpools.pages p) 6 (settings.low_k / 4) 32768 (settings.high_k / 4) (2 ^ 20) i r (runs (m.subpools.pages p) 0 (2 ^ 29))
    (omega (arith, low)) (omega (arith, high)) (page_runs settings m p valid sound (2 ^ 29) refl) at

pub free_areas_end_in_regions : FreeAreasEndInRegions
unfolding free_areas
free_areas_end_in_regions settings m p i r valid sound at =
    let most = sizes settings valid in
    let low : settings.low_k / 4 ≤ 4090 = most.0 in
    let high : settings.high_k / 4 ≤ 393216 = most.1 in
    ends_of_two (m.subpools.free p) (512 * 6) (512 * (settings.low_k / 4)) (512 * 32768) (512 * (settings.high_k / 4)) (2 ^ 29) i r (runs (m.subpools.free p) 0 (2 ^ 29))
    (omega (arith, low)) (omega (arith, high)) (free_runs settings m p valid sound (2 ^ 29) refl) at
