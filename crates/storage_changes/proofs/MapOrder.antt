-- The sharers and the subpools of the plain machine, in order, are those of the storage in place.
use Rattle.std.proofs.Common.{◌≡◌, ℕ, zero, suc, ◌+◌, Bool, true, false, ◌&&◌, ◌==◌, not, List, [], ◌∷◌, ◌++◌, Option, Some, None, refl, sym, ap, ◌∙◌}
use Rattle.std.specs.Prelude.{if◌then◌else◌, filter, flat_map}
use Rattle.std.specs.List.{range_with_len, filter_map, cons_option}
use Rattle.vsm_model.specs.declared.Subpool.{Subpool}
use Rattle.vsm_model.specs.declared.limits.Settings.{Settings}
use Rattle.vsm_model.specs.Search.{holds}
use Rattle.vsm_model.specs.CellPools.{cells_from}
use Rattle.vsm_model.specs.Map.{subpool_lines}
use Rattle.subpool_set.specs.Pools.{is_owner, sees, tasks, numbers}
use Rattle.subpool_set.proofs.OrderLemmas.{tasks_are, numbers_are, flat_same}
use Rattle.subpool_storage.specs.Subpools.{Subpools, is_there}
use Rattle.subpool_storage.specs.Order.{subpool_at}
use Rattle.storage_changes.specs.State.{StorageState}
use Rattle.storage_changes.specs.Meaning.{model_of}
use Rattle.storage_changes.proofs.Cases.{cond-out}
use Rattle.storage_changes.specs.MapLists.{SharersAreShown, SubpoolsAreShown}

-- numbers a one apart are those of a range
cells_are : (a n : ℕ) → cells_from 1 a n ≡ range_with_len a n
cells_are a zero = refl
cells_are a (suc n) = ap (λ (z : List ℕ). a ∷ z) (cells_are (a + 1) n)

owner_is : (owner : ℕ) (o : Option ℕ) (b : Bool) → (not b && holds (λ x. x == owner) o) ≡ (is_owner owner o && not b)
owner_is owner None true = refl
owner_is owner None false = refl
owner_is owner (Some o) b = turned (not b) (o == owner) where
  turned : (c d : Bool) → (c && d) ≡ (d && c)
  turned true true = refl
  turned true false = refl
  turned false true = refl
  turned false false = refl

sharers_among : (f : ℕ → ℕ → Option ℕ) (number owner n : ℕ) → n ≡ 64
    → filter (λ t. not (t == owner) && holds (λ o. o == owner) (f t number)) (cells_from 1 1 n)
    ≡ filter (λ t. sees f number owner t && not (t == owner)) tasks
sharers_among f number owner n e =
    ap (filter (λ t. not (t == owner) && holds (λ o. o == owner) (f t number))) (cells_are 1 n ∙ sym (tasks_are n e))
    ∙ ap (λ (passes : ℕ → Bool). filter passes tasks) (λ i t. owner_is owner (f t number) (t == owner) i)

pub sharers_are_shown : SharersAreShown
sharers_are_shown m number owner = sharers_among m.subpools.sight number owner 64 refl

-- lists of what lists have
module _ {B C : Type 0} where
  flat_append : (f : B → List C) (xs ys : List B) → flat_map f (xs ++ ys) ≡ flat_map f xs ++ flat_map f ys
  flat_append f [] ys = refl
  flat_append f (x ∷ xs) ys = ap (λ (z : List C). f x ++ z) (flat_append f xs ys) ∙ assoc (f x) (flat_map f xs) (flat_map f ys) where
    assoc : (us vs ws : List C) → us ++ (vs ++ ws) ≡ (us ++ vs) ++ ws
    assoc [] vs ws = refl
    assoc (u ∷ us) vs ws = ap (λ (z : List C). u ∷ z) (assoc us vs ws)

  flat_flat : {A : Type 0} (f : B → List C) (g : A → List B) (xs : List A) → flat_map f (flat_map g xs) ≡ flat_map (λ x. flat_map f (g x)) xs
  flat_flat f g [] = refl
  flat_flat f g (x ∷ xs) = flat_append f (g x) (flat_map g xs) ∙ ap (λ (z : List C). flat_map f (g x) ++ z) (flat_flat f g xs)

-- the lines of what exists, or none
module _ {C : Type 0} (m : Subpools) (lines : ℕ → ℕ → List C) (none : (number owner : ℕ) → is_there m (record { number = number; owner = owner }) ≡ false → lines number owner ≡ []) where
  abbrev shown : Subpool → List C
  shown p = lines p.number p.owner

  each_owner : (number : ℕ) (ts : List ℕ) → flat_map (lines number) ts ≡ flat_map shown (filter_map (λ o. subpool_at m number o) ts)
  each_owner number [] = refl
  each_owner number (t ∷ ts) = go (is_there m (record { number = number; owner = t })) refl (each_owner number ts) where
    go : (b : Bool) → is_there m (record { number = number; owner = t }) ≡ b
        → flat_map (lines number) ts ≡ flat_map shown (filter_map (λ o. subpool_at m number o) ts)
        → lines number t ++ flat_map (lines number) ts
        ≡ flat_map shown (cons_option (subpool_at m number t) (filter_map (λ o. subpool_at m number o) ts))
    go true e rest =
        ap (λ (z : List C). lines number t ++ z) rest
        ∙ sym (ap (λ (b : Bool). flat_map shown (cons_option (if b then Some (record { number = number; owner = t }) else None) (filter_map (λ o. subpool_at m number o) ts))) e)
    go false e rest =
        ap (λ (z : List C). z ++ flat_map (lines number) ts) (none number t e) ∙ rest
        ∙ sym (ap (λ (b : Bool). flat_map shown (cons_option (if b then Some (record { number = number; owner = t }) else None) (filter_map (λ o. subpool_at m number o) ts))) e)

  pub in_order : (n k : ℕ) → n ≡ 128 → k ≡ 64
      → flat_map (λ number. flat_map (lines number) (cells_from 1 1 k)) (cells_from 1 0 n)
      ≡ flat_map shown (flat_map (λ number. filter_map (λ o. subpool_at m number o) tasks) numbers)
  in_order n k e h =
      ap (flat_map (λ number. flat_map (lines number) (cells_from 1 1 k))) (cells_are 0 n ∙ sym (numbers_are n e))
      ∙ flat_same (λ number. flat_map (lines number) (cells_from 1 1 k)) (λ number. flat_map shown (filter_map (λ o. subpool_at m number o) tasks))
      (λ number. ap (flat_map (lines number)) (cells_are 1 k ∙ sym (tasks_are k h)) ∙ each_owner number tasks) numbers
      ∙ sym (flat_flat shown (λ number. filter_map (λ o. subpool_at m number o) tasks) numbers)

no_lines : (settings : Settings) (m : StorageState) (number owner : ℕ) → is_there m.subpools (record { number = number; owner = owner }) ≡ false
    → subpool_lines settings (model_of m) number owner ≡ []
no_lines settings m number owner e =
    cond-out (is_there m.subpools (record { number = number; owner = owner })) _ [] e

pub subpools_are_shown : SubpoolsAreShown
subpools_are_shown settings m = in_order m.subpools (subpool_lines settings (model_of m)) (no_lines settings m) 128 64 refl refl
