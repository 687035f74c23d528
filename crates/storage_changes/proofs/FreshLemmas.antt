-- By cases over what is said of one page.
use Rattle.std.proofs.Common.{◌≡◌, ℕ, Bool, true, false, not, ◌&&◌, Option, Some, None, is_some, refl}
use Rattle.run_set.specs.Runs.{inside}
use Rattle.vsm_model.specs.declared.Subpool.{Subpool}
use Rattle.vsm_model.specs.declared.limits.Settings.{Settings}
use Rattle.vsm_model.specs.Regions.{in_a_region}
use Rattle.storage_changes.specs.State.{StorageState}
use Rattle.storage_changes.specs.Meaning.{subpool_of, IsSound}
use Rattle.storage_changes.specs.Fresh.{FreshIsNew}

bools : (i u v r a b : Bool) → u ≡ (r && not a) → v ≡ (r && not b) → (i ≡ true → u ≡ true) → (i ≡ true → v ≡ false)
    → (u ≡ true → v ≡ false → i ≡ true) → (b ≡ true → r ≡ true) → i ≡ (not a && b)
bools true u v true false true hu hv p q s t = refl
bools true u v true true b hu hv p q s t = let x : u ≡ true = p refl in cc
bools true u v true false false hu hv p q s t = let x : v ≡ false = q refl in cc
bools true u v false a b hu hv p q s t = let x : u ≡ true = p refl in cc
bools false u v r true b hu hv p q s t = refl
bools false u v r false false hu hv p q s t = refl
bools false u v true false true hu hv p q s t = let x : false ≡ true = s hu hv in cc
bools false u v false false true hu hv p q s t = let x : false ≡ true = t refl in cc

assigned_in : (settings : Settings) (n : StorageState) → IsSound settings n → (page : ℕ)
    → is_some (subpool_of n.subpools page) ≡ true → in_a_region settings page ≡ true
assigned_in settings n k page some = go (subpool_of n.subpools page) refl some where
  go : (o : Option Subpool) → subpool_of n.subpools page ≡ o → is_some o ≡ true → in_a_region settings page ≡ true
  go None e h = cc
  go (Some p) e h = k.well_formed.pages.in_region page p e

pub fresh_is_new : FreshIsNew
fresh_is_new settings m n run km kn p q s page =
    bools (inside page run) (m.unassigned page) (n.unassigned page) (in_a_region settings page)
    (is_some (subpool_of m.subpools page)) (is_some (subpool_of n.subpools page)) (km.rest page) (kn.rest page)
    (p page) (q page) (s page) (assigned_in settings n kn page)
