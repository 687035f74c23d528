-- Where a fullword is, and pages that no subpool has.
use Rattle.std.proofs.Common.{◌≡◌, ◌≤◌, ◌<◌, ◌-◌, ◌^◌, ◌/◌, ℕ, true, false, Option, Some, None, refl, sym, ap, ◌∙◌, arith}
use Rattle.std.proofs.Props.{props}
use mathlib.Core.Logic.{∥∥₁_elim}
use Rattle.vsm_model.specs.declared.Subpool.{Subpool}
use Rattle.vsm_model.specs.Areas.{is_free}
use Rattle.service_laws.proofs.Words.{low_page}
use Rattle.storage_changes.proofs.MeaningLemmas.{free_storage_is_free}
use Rattle.storage_core.specs.declared.storage.Storage.{Storage}
use Rattle.storage_core.specs.Meaning.{settings_of, state_in_place, state_of}
use Rattle.explain_findings.specs.Homes.{home_at, home_on, same_home}
use Rattle.explain_findings.specs.declared.homes.Home.{Home}
use Rattle.explain_findings.specs.declared.homes.Home.TheVariants as home

never_same : (h : Home) → same_home h home.Unassigned ≡ true → ⊥
never_same home.Unassigned e = let no : false ≡ true = e in cc
never_same (home.Free p) e = let no : false ≡ true = e in cc
never_same (home.Area p l) e = let no : false ≡ true = e in cc
never_same (home.Cell name start) e = let no : false ≡ true = e in cc
never_same (home.FreeCell name) e = let no : false ≡ true = e in cc
never_same (home.PastCells name) e = let no : false ≡ true = e in cc

module _ (s : Storage) where
  pub free_in_place : (p : Subpool) (d : ℕ) → (state_in_place s).subpools.free p d ≡ is_free (state_of s) p d
  free_in_place p d = ∥∥₁_elim s.held.sound (hlevel props) (λ sound. sym (free_storage_is_free (settings_of s) (state_in_place s) sound p d))

  page_low : (k : ℕ) (p : Subpool) → (state_of s).pages k ≡ Some p → k < 425984
  page_low k p own = ∥∥₁_elim s.held.sound (hlevel props) (λ sound. low_page (settings_of s) k s.held.valid (sound.well_formed.pages.in_region k p own))

  -- no page is there
  pub high_unassigned : (lines : ℕ → Option ℕ) (word : ℕ) → 2 ^ 30 - 1 ≤ word → home.Unassigned ≡ home_at (state_of s) lines word
  high_unassigned lines word high = go ((state_of s).pages (word / 1024)) refl where
    go : (o : Option Subpool) → (state_of s).pages (word / 1024) ≡ o → home.Unassigned ≡ home_at (state_of s) lines word
    go None e = sym (ap (home_on (state_of s) lines word) e)
    go (Some p) e = absurd (let low = page_low (word / 1024) p e in omega (arith, low))

  -- what is in the same area or cell as something has a page
  pub same_is_low : (first : Home) (lines : ℕ → Option ℕ) (word : ℕ) → same_home first (home_at (state_of s) lines word) ≡ true → word < 2 ^ 30 - 1
  same_is_low first lines word same = go ((state_of s).pages (word / 1024)) refl where
    go : (o : Option Subpool) → (state_of s).pages (word / 1024) ≡ o → word < 2 ^ 30 - 1
    go None e = absurd (never_same first (sym (ap (λ o. same_home first (home_on (state_of s) lines word o)) e) ∙ same))
    go (Some p) e = let low = page_low (word / 1024) p e in omega (arith, low)
