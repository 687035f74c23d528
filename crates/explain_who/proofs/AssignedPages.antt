-- A page is assigned exactly if it has bytes.
use Rattle.std.proofs.Common.{◌≡◌, ℕ, ◌/◌, Bool, true, false, ◌&&◌, if◌then◌else◌, List, Some, None, is_some, refl, sym}
use Rattle.std.proofs.Props.{props}
use mathlib.Core.Logic.{∥∥₁_elim}
use Rattle.storage_changes.specs.State.{StorageState}
use Rattle.storage_changes.specs.Meaning.{model_of, IsSound}
use Rattle.vsm_model.specs.Bytes.{bytes_from, load}
use Rattle.vsm_model.specs.State.{State}
use Rattle.vsm_model.specs.declared.Subpool.{Subpool}
use Rattle.vsm_model.specs.declared.limits.Settings.{Settings}

pub assigned_with_bytes : (settings : Settings) (m : StorageState) → ∥ IsSound settings m ∥₁ → (a : ℕ) → is_some ((model_of m).bytes a) ≡ is_some ((model_of m).pages (a / 4096))
assigned_with_bytes settings m sound a = ∥∥₁_elim sound (hlevel props) (λ h. h.well_formed.pages.has_bytes a)

pub loaded : (s : State) (a : ℕ) (bytes : List ℕ) → load s a 1 ≡ Some bytes → is_some (s.bytes a) ≡ true
loaded s a bytes = go (is_some (s.bytes a)) (bytes_from s a 1) where
  go : (b : Bool) (xs : List ℕ) → (if b && true then Some xs else None) ≡ Some bytes → b ≡ true
  go true xs e = refl
  go false xs e = cc

pub not_loaded : (s : State) (a : ℕ) → load s a 1 ≡ None → is_some (s.bytes a) ≡ false
not_loaded s a = go (is_some (s.bytes a)) (bytes_from s a 1) where
  go : (b : Bool) (xs : List ℕ) → (if b && true then Some xs else None) ≡ None → b ≡ false
  go true xs e = cc
  go false xs e = refl

-- A page that a subpool has is of this subpool.
pub page_of : (settings : Settings) (m : StorageState) → ∥ IsSound settings m ∥₁ → (p : Subpool) (page : ℕ) → m.subpools.pages p page ≡ true → Some p ≡ (model_of m).pages page
page_of settings m sound p page has = ∥∥₁_elim sound (hlevel props) (λ h. sym (h.named p page has))
