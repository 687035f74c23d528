-- The subpools that tasks own are names under which empty ones can be parked.
use Rattle.std.proofs.Common.{◌≡◌, ℕ, ◌≤◌, true, false, ◌==◌, IsSome, is_some, List, [], ◌∷◌, All, AllPairs, ◌∙◌, ap, arith}
use Rattle.std.proofs.lemmas.Bool.{both_ways, false_from_ne_true}
use Rattle.std.proofs.lemmas.List.Elements.{All-cons, All-nil}
use Rattle.std.proofs.lemmas.List.Kept.{AllPairs-cons}
use Rattle.vsm_model.specs.declared.Subpool.{Subpool}
use Rattle.vsm_model.specs.Search.{is_in}
use Rattle.vsm_model.specs.Subpools.{same_subpool}
use Rattle.subpool_storage.specs.Subpools.{Subpools, is_there}
use Rattle.storage_changes.specs.Laws.{CanBe}
use Rattle.storage_changes.proofs.Cases.{same-is, same-self}
use Rattle.storage_changes.specs.Names.{AreNames}
use Rattle.service_laws.proofs.Options.{held}
use Rattle.storage_changes.specs.Ending.{owned_by_these}
use Rattle.storage_changes.proofs.EndEach.{Each, Apart, each_so}
use Rattle.storage_changes.proofs.EndSubpools.{IsAnother, owned_have, owned_are_apart}

all_of : {A : Type 0} (P : A → Type 0) (xs : List A) → Each P xs → All P xs
all_of P [] e = All-nil P
all_of P (x ∷ xs) e = All-cons P x xs e.0 (all_of P xs e.1)

pairs_of : {A : Type 0} (R S : A → A → Type 0) → ((x y : A) → R x y → S x y) → (xs : List A) → Apart R xs → AllPairs S xs
pairs_of R S so [] a = λ i j d less below. absurd (omega (arith, below))
pairs_of R S so (x ∷ xs) a =
    AllPairs-cons S x xs (all_of (S x) xs (each_so (R x) (S x) xs (λ y. so x y) a.0)) (pairs_of R S so xs a.1)

other : (p q : Subpool) → IsAnother p q → same_subpool p q ≡ false
other p q another =
    false_from_ne_true (same_subpool p q) (λ same. both_ways (same_subpool q p) another (ap (same_subpool q) (same-is p q same) ∙ same-self q))

-- if whatever sees a subpool is a task, at a number of private storage
module _ (m : Subpools) (range : (task number : ℕ) → IsSome (m.sight task number) → (1 ≤ task) × (task ≤ 64) × (number ≤ 127)) (ended : List ℕ) where
  can_be : (p : Subpool) → is_there m p ≡ true → CanBe p
  can_be p there =
      let (owner, at, _) = held (λ owner. owner == p.owner) (m.sight p.owner p.number) there in
      let its = range p.owner p.number (ap is_some at) in
      (its.2, its.0, its.1)

  each_is : (P : Subpool → Type 0) → ((p : Subpool) → CanBe p → P p) → All P (owned_by_these m ended)
  each_is P so =
      all_of P (owned_by_these m ended)
      (each_so (λ p. (is_in ended p.owner ≡ true) × (is_there m p ≡ true)) P (owned_by_these m ended) (λ p its. so p (can_be p its.1)) (owned_have m ended))

  pub owned_are_names : AreNames (owned_by_these m ended)
  owned_are_names = record {
    owners = each_is (λ p. (1 ≤ p.owner) × (p.owner ≤ 64)) (λ p can. (can.1, can.2));
    numbers = each_is (λ p. p.number ≤ 127) (λ p can. can.0);
    once = pairs_of IsAnother (λ p q. same_subpool p q ≡ false) other (owned_by_these m ended) (owned_are_apart m ended);
  }
