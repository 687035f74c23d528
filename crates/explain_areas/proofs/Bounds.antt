-- The pages and the free storage of a subpool, where they can be.
use Rattle.std.proofs.Common.{◌≡◌, ℕ, ◌+◌, ◌-◌, ◌*◌, ◌/◌, ◌^◌, ◌<◌, ◌≤◌, Bool, true, false, Option, None, List, refl, sym, ap, ◌∙◌, arith}
use Rattle.std.proofs.Props.{props}
use mathlib.Core.Logic.{∥∥₁_elim}
use Rattle.std.specs.Prelude.{nat_lt}
use Rattle.run_set.specs.Runs.{Run, AreRunsOf}
use Rattle.vsm_model.specs.declared.Subpool.{Subpool}
use Rattle.service_laws.proofs.Places.{page_is_low}
use Rattle.subpool_storage.specs.Extents.{extents, free_areas}
use Rattle.subpool_storage.proofs.ExtentLemmas.{extents_are_runs, free_areas_are_runs}
use Rattle.storage_core.specs.declared.storage.Storage.{Storage}
use Rattle.storage_core.specs.Meaning.{state_in_place, settings_of}
use Rattle.explain_areas.specs.Ahead.{IsNext}
use Rattle.explain_areas.specs.Areas.{areas_to}
use Rattle.explain_areas.specs.declared.parts.LineArea.{LineArea}
use Rattle.explain_areas.proofs.Joining.{none_on}

pub is_false : (b : Bool) → (b ≡ true → ⊥) → b ≡ false
is_false true never = absurd (never refl)
is_false false never = refl

pub both_ways : (b : Bool) → b ≡ true → b ≡ false → ⊥
both_ways b is other = let e : true ≡ false = sym is ∙ other in cc

module _ (s : Storage) (p : Subpool) where
  page_low : (k : ℕ) → (state_in_place s).subpools.pages p k ≡ true → k < 2 ^ 20
  page_low k own =
      ∥∥₁_elim s.held.sound (hlevel props)
      (λ sound. let low = page_is_low (settings_of s) k s.held.valid (sound.well_formed.pages.in_region k p (sound.named p k own)) in omega (arith, low))

  pub free_in_page : (d : ℕ) → (state_in_place s).subpools.free p d ≡ true → (state_in_place s).subpools.pages p (d / 512) ≡ true
  free_in_page d own = ∥∥₁_elim s.held.sound (hlevel props) (λ sound. sound.free p d own)

  pub not_free : (d : ℕ) → (state_in_place s).subpools.pages p (d / 512) ≡ false → (state_in_place s).subpools.free p d ≡ false
  not_free d none = is_false ((state_in_place s).subpools.free p d) (λ own. both_ways ((state_in_place s).subpools.pages p (d / 512)) (free_in_page d own) none)

  pub pages_are_runs : AreRunsOf (extents (state_in_place s).subpools p) ((state_in_place s).subpools.pages p)
  pages_are_runs =
      extents_are_runs (state_in_place s).subpools p
      (λ k high. is_false ((state_in_place s).subpools.pages p k) (λ own. let low = page_low k own in omega (arith, low, high)))

  pub free_are_runs : AreRunsOf (free_areas (state_in_place s).subpools p) ((state_in_place s).subpools.free p)
  free_are_runs =
      free_areas_are_runs (state_in_place s).subpools p
      (λ d high. is_false ((state_in_place s).subpools.free p d) (λ own. let low = page_low (d / 512) (free_in_page d own) in omega (arith, low, high)))

-- Areas stay the same where no doubleword has a line.
pub same_to : (p : Subpool) (f : ℕ → Option ℕ) (others : List LineArea) (low high : ℕ) → low ≤ high → ((d : ℕ) → low ≤ d → d < high → f d ≡ None) →
    areas_to p f high others ≡ areas_to p f low others
same_to p f others low high on none =
    let e : high ≡ low + (high - low) = omega (arith, on) in
    ap (λ k. areas_to p f k others) e ∙ none_on p f others low (high - low) (λ d from to. none d from (omega (arith, to, e)))

-- A free area that begins before the end of an extent ends there at most.
pub ends_within : (s : Storage) (p : Subpool) (low : ℕ) (r : Run) (e : ℕ) → IsNext ((state_in_place s).subpools.free p) low r → r.start < 512 * e →
    (state_in_place s).subpools.pages p e ≡ false → r.start + r.len ≤ 512 * e
ends_within s p low r e next begins past = go (nat_lt (512 * e) (r.start + r.len)) refl where
  page : (512 * e) / 512 ≡ e
  page = omega arith

  go : (b : Bool) → nat_lt (512 * e) (r.start + r.len) ≡ b → r.start + r.len ≤ 512 * e
  go true is =
      let beyond : 512 * e < r.start + r.len = grind (arith, is) in
      let own = free_in_page s p (512 * e) (next.within (512 * e) (omega (arith, begins)) beyond) in
      absurd (both_ways ((state_in_place s).subpools.pages p e) (ap ((state_in_place s).subpools.pages p) (sym page) ∙ own) past)
  go false is = grind (arith, is)
