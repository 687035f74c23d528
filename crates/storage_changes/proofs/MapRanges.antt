-- The pages and the free doublewords of a subpool lie in the two regions.
use Rattle.std.proofs.Common.{◌≡◌, ℕ, ◌+◌, ◌*◌, ◌<◌, ◌≤◌, ◌⊎◌, inl, inr, Bool, true, false, ◌&&◌, ◌||◌, nat_le, nat_lt, Option, Some, None, refl, sym, ap, ◌∙◌, arith}
use Rattle.std.specs.Prelude.{◌/◌, ◌%◌, ◌==◌}
use Rattle.std.proofs.lemmas.Bool.{and_parts, and_from, leb-true, ltb-true, le-leb, lt-ltb, false_from_ne_true}
use Rattle.vsm_model.specs.declared.Subpool.{Subpool}
use Rattle.vsm_model.specs.declared.limits.Settings.{Settings}
use Rattle.vsm_model.specs.Regions.{within, in_a_region, low_region, high_region, settings_valid, size_valid}
use Rattle.vsm_model.specs.Search.{holds}
use Rattle.vsm_model.specs.Subpools.{same_subpool}
use Rattle.storage_changes.specs.State.{StorageState}
use Rattle.storage_changes.specs.Meaning.{subpool_of, IsSound}
use Rattle.storage_changes.proofs.Cases.{same-self, same-is}
use Rattle.storage_changes.proofs.MeaningLemmas.{named_pages_are_there}

-- how many pages the regions may have
pub sizes : (settings : Settings) → settings_valid settings ≡ true → (settings.low_k / 4 ≤ 4090) × (settings.high_k / 4 ≤ 393216)
sizes settings valid =
    let parts = and_parts (size_valid 16360 settings.low_k && size_valid 1572864 settings.high_k) (nat_le 1 settings.history && nat_le settings.history 65536) valid in
    let both = and_parts (size_valid 16360 settings.low_k) (size_valid 1572864 settings.high_k) parts.0 in
    let low = leb-true settings.low_k 16360 (most 16360 settings.low_k both.0) in
    let high = leb-true settings.high_k 1572864 (most 1572864 settings.high_k both.1) in
    (omega (arith, low), omega (arith, high))
  where
    most : (top size : ℕ) → size_valid top size ≡ true → nat_le size top ≡ true
    most top size e = middle (nat_le 4 size) (nat_le size top) (size % 4 == 0) e where
      middle : (a b c : Bool) → (a && b && c) ≡ true → b ≡ true
      middle true true c h = refl
      middle true false c h = h
      middle false b c h = absurd (let no : false ≡ true = h in cc)

pub within_is : (first count k : ℕ) → within (record { first = first; count = count }) k ≡ true → (first ≤ k) × (k < first + count)
within_is first count k e =
    let parts = and_parts (nat_le first k) (nat_lt k (first + count)) e in
    (leb-true first k parts.0, ltb-true k (first + count) parts.1)

pub is_within : (first count k : ℕ) → first ≤ k → k < first + count → within (record { first = first; count = count }) k ≡ true
is_within first count k low high = and_from (nat_le first k) (nat_lt k (first + count)) (le-leb first k low) (lt-ltb k (first + count) high)

-- a number is one of two ranges
abbrev pub InEither : ℕ → ℕ → ℕ → ℕ → ℕ → Type 0
InEither a n b m k = ((a ≤ k) × (k < a + n)) ⊎ ((b ≤ k) × (k < b + m))

pub either_region : (settings : Settings) (k : ℕ) → in_a_region settings k ≡ true → InEither 6 (settings.low_k / 4) 32768 (settings.high_k / 4) k
either_region settings k e = go (within (high_region settings) k) (within (low_region settings) k) refl refl e where
  go : (a b : Bool) → within (high_region settings) k ≡ a → within (low_region settings) k ≡ b → (a || (b || false)) ≡ true
      → InEither 6 (settings.low_k / 4) 32768 (settings.high_k / 4) k
  go true b high low h = inr (within_is 32768 (settings.high_k / 4) k high)
  go false true high low h = inl (within_is 6 (settings.low_k / 4) k low)
  go false false high low h = absurd (let no : false ≡ true = h in cc)

module _ (settings : Settings) (m : StorageState) (sound : IsSound settings m) (p : Subpool) where
  -- the plain machine says of a page what the subpool's own pages say
  pub page_is : (page : ℕ) → holds (same_subpool p) (subpool_of m.subpools page) ≡ m.subpools.pages p page
  page_is page = go (subpool_of m.subpools page) refl where
    not_its : (o : Option Subpool) → subpool_of m.subpools page ≡ o → (o ≡ Some p → ⊥) → m.subpools.pages p page ≡ false
    not_its o e other = false_from_ne_true (m.subpools.pages p page) (λ h. other (sym e ∙ sound.named p page h))

    go : (o : Option Subpool) → subpool_of m.subpools page ≡ o → holds (same_subpool p) o ≡ m.subpools.pages p page
    go None e = sym (not_its None e (λ s. cc))
    go (Some q) e = at (same_subpool p q) refl where
      at : (b : Bool) → same_subpool p q ≡ b → same_subpool p q ≡ m.subpools.pages p page
      at true h = h ∙ sym (ap (λ (x : Subpool). m.subpools.pages x page) (same-is p q h) ∙ (named_pages_are_there m.subpools page).0 q e)
      at false h =
          h
          ∙ sym (not_its (Some q) e (λ s. (let same : q ≡ p = cc in
          let k : true ≡ false = sym (same-self p) ∙ ap (λ (x : Subpool). same_subpool p x) (sym same) ∙ h in cc)))

  pub page_within : (page : ℕ) → m.subpools.pages p page ≡ true → InEither 6 (settings.low_k / 4) 32768 (settings.high_k / 4) page
  page_within page e = either_region settings page (sound.well_formed.pages.in_region page p (sound.named p page e))

  pub free_within : (d : ℕ) → m.subpools.free p d ≡ true
      → InEither (512 * 6) (512 * (settings.low_k / 4)) (512 * 32768) (512 * (settings.high_k / 4)) d
  free_within d e = go (page_within (d / 512) (sound.free p d e)) where
    go : InEither 6 (settings.low_k / 4) 32768 (settings.high_k / 4) (d / 512)
        → InEither (512 * 6) (512 * (settings.low_k / 4)) (512 * 32768) (512 * (settings.high_k / 4)) d
    go (inl h) = inl (omega (arith, h.0), omega (arith, h.1))
    go (inr h) = inr (omega (arith, h.0), omega (arith, h.1))
