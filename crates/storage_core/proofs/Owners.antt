-- The owner of a page, by the subpools that exist, in order.
use Rattle.std.proofs.Common.{◌≡◌, ℕ, zero, suc, ◌+◌, ◌<◌, ◌≤◌, Bool, true, false, ◌||◌, List, Option, Some, None, inl, inr, refl, sym, ap, subst, ◌∙◌, arith, true≢false, if◌then◌else◌}
use Rattle.std.proofs.Props.{props}
use Rattle.std.proofs.lemmas.Bool.{cases_lt}
use Rattle.std.proofs.lemmas.List.Folds.{list_any-append}
use Rattle.std.specs.List.{list_any, flat_map, filter_map, cons_option, range_with_len}
use mathlib.Core.Logic.{∥∥₁_elim}
use Rattle.vsm_model.specs.declared.Subpool.{Subpool}
use Rattle.subpool_set.proofs.OrderLemmas.{numbers_are, tasks_are}
use Rattle.subpool_set.specs.Pools.{tasks}
use Rattle.subpool_storage.specs.Order.{subpool_at, subpools_in_order}
use Rattle.subpool_storage.specs.Subpools.{is_there}
use Rattle.storage_changes.specs.Meaning.{IsSound, subpool_of}
use Rattle.storage_changes.proofs.MeaningLemmas.{named_pages_are_there}
use Rattle.storage_core.specs.Meaning.{settings_of, state_in_place}
use Rattle.storage_core.specs.declared.storage.Storage.{Storage}

-- One of two passes, or either.
or_first : (a b : Bool) → a ≡ true → (a || b) ≡ true
or_first a b e = ap (λ (z : Bool). z || b) e

or_second : (a b : Bool) → b ≡ true → (a || b) ≡ true
or_second true b e = refl
or_second false b e = e

-- what one number of a range gives passes, and so one of all that they give
module _ {A : Type 0} (g : A → Bool) where
  any_of : (f : ℕ → List A) (x : ℕ) → list_any g (f x) ≡ true → (n a : ℕ) → a ≤ x → x < a + n → list_any g (flat_map f (range_with_len a n)) ≡ true
  any_of f x e zero a low high = absurd (omega (arith, low, high))
  any_of f x e (suc n) a low high =
      let rest = flat_map f (range_with_len (a + 1) n) in
      list_any-append g (f a) rest ∙ elim (cases_lt a x) [
        | inl later ↦ or_second (list_any g (f a)) (list_any g rest) (any_of f x e n (a + 1) (omega (arith, later)) (omega (arith, high)))
        | inr here ↦ (let is : x ≡ a = omega (arith, here, low) in or_first (list_any g (f a)) (list_any g rest) (subst (λ k. list_any g (f k) ≡ true) is e))
      ]

  any_given : (h : ℕ → Option A) (x : ℕ) (y : A) → h x ≡ Some y → g y ≡ true → (n a : ℕ) → a ≤ x → x < a + n → list_any g (filter_map h (range_with_len a n)) ≡ true
  any_given h x y given e zero a low high = absurd (omega (arith, low, high))
  any_given h x y given e (suc n) a low high = elim (cases_lt a x) [
    | inl later ↦ among (h a) (any_given h x y given e n (a + 1) (omega (arith, later)) (omega (arith, high)))
    | inr here ↦ (let is : x ≡ a = omega (arith, here, low) in
        subst (λ o. list_any g (cons_option o (filter_map h (range_with_len (a + 1) n))) ≡ true) (sym (ap h (sym is) ∙ given)) (or_first (g y) _ e))
  ] where
    among : (o : Option A) → list_any g (filter_map h (range_with_len (a + 1) n)) ≡ true → list_any g (cons_option o (filter_map h (range_with_len (a + 1) n))) ≡ true
    among None e = e
    among (Some z) e = or_second (g z) _ e

module _ (s : Storage) (page : ℕ) where
  abbrev pub has : Subpool → Bool
  has p = (state_in_place s).subpools.pages p page

  pub its_owner : (p : Subpool) → has p ≡ true → Some p ≡ subpool_of (state_in_place s).subpools page
  its_owner p is = ∥∥₁_elim s.held.sound (hlevel props) (λ h. sym (h.named p page is))

  -- the subpool of a page is one of those that exist
  in_order : IsSound (settings_of s) (state_in_place s) → (p : Subpool) → subpool_of (state_in_place s).subpools page ≡ Some p
      → list_any has (subpools_in_order (state_in_place s).subpools) ≡ true
  in_order h p e =
      let m = (state_in_place s).subpools in
      let there : is_there m p ≡ true = h.well_formed.pages.has_subpool page p e in
      let owner = h.well_formed.tasks.numbered p.owner (h.well_formed.sight.owner_is_task p.number p.owner there) in
      let number = h.well_formed.sight.is_private p.number p.owner there in
      let is : has p ≡ true = (named_pages_are_there m page).0 p e in
      let given : subpool_at m p.number p.owner ≡ Some p = ap (λ (b : Bool). if b then Some p else None) there in
      let of_number = any_given has (λ o. subpool_at m p.number o) p.owner p given is 64 1 owner.0 (omega (arith, owner.1)) in
      subst (λ ns. list_any has (flat_map (λ n. filter_map (λ o. subpool_at m n o) tasks) ns) ≡ true) (sym (numbers_are 128 refl))
      (any_of has (λ n. filter_map (λ o. subpool_at m n o) tasks) p.number
      (subst (λ ts. list_any has (filter_map (λ o. subpool_at m p.number o) ts) ≡ true) (sym (tasks_are 64 refl)) of_number) 128 0 (omega arith) (omega (arith, number)))

  none_has : IsSound (settings_of s) (state_in_place s) → list_any has (subpools_in_order (state_in_place s).subpools) ≡ false
      → (o : Option Subpool) → subpool_of (state_in_place s).subpools page ≡ o → None ≡ o
  none_has h none None e = refl
  none_has h none (Some p) e = absurd (true≢false (sym (in_order h p e) ∙ none))

  -- no subpool that exists has the page
  pub no_owner : list_any has (subpools_in_order (state_in_place s).subpools) ≡ false → None ≡ subpool_of (state_in_place s).subpools page
  no_owner none = ∥∥₁_elim s.held.sound (hlevel props) (λ h. none_has h none (subpool_of (state_in_place s).subpools page) refl)
