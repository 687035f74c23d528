-- Free storage in place, and on the plain machine.
use Rattle.std.proofs.Common.{◌≡◌, ℕ, sym}
use Rattle.std.proofs.Props.{props}
use mathlib.Core.Logic.{∥∥₁_elim}
use Rattle.storage_changes.specs.State.{StorageState}
use Rattle.storage_changes.specs.Meaning.{model_of, IsSound}
use Rattle.storage_changes.proofs.MeaningLemmas.{free_storage_is_free}
use Rattle.vsm_model.specs.Areas.{is_free}
use Rattle.vsm_model.specs.declared.Subpool.{Subpool}
use Rattle.vsm_model.specs.declared.limits.Settings.{Settings}

pub free_in_place_is_free : (settings : Settings) (m : StorageState) (p : Subpool) → ∥ IsSound settings m ∥₁ → (d : ℕ) → m.subpools.free p d ≡ is_free (model_of m) p d
free_in_place_is_free settings m p sound d = ∥∥₁_elim sound (hlevel props) (λ h. sym (free_storage_is_free settings m h p d))
