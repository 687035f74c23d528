-- At most one of all subpools in order has a page, or a free doubleword.
use Rattle.std.proofs.Common.{◌≡◌, ℕ, zero, suc, ◌+◌, ◌<◌, ◌≤◌, inl, inr, Bool, true, false, ◌&&◌, not, if◌then◌else◌, List, [], ◌∷◌, Option, Some, None, is_some, refl, sym, ap, ◌∙◌, arith}
use Rattle.std.specs.Prelude.{◌/◌}
use Rattle.std.specs.List.{range_with_len, filter_map, cons_option}
use Rattle.std.proofs.lemmas.Bool.{cases_eq, false_from_ne_true}
use Rattle.vsm_model.specs.declared.Subpool.{Subpool}
use Rattle.vsm_model.specs.declared.limits.Settings.{Settings}
use Rattle.subpool_set.specs.Pools.{tasks, numbers}
use Rattle.subpool_set.proofs.OrderLemmas.{tasks_are, numbers_are}
use Rattle.subpool_storage.specs.Subpools.{Subpools, is_there}
use Rattle.subpool_storage.specs.Order.{subpool_at, subpools_in_order}
use Rattle.storage_changes.specs.State.{StorageState}
use Rattle.storage_changes.specs.Meaning.{subpool_of, is_taken, IsSound}
use Rattle.storage_changes.specs.Laws.{CanBe}
use Rattle.storage_changes.proofs.Cases.{not-not}
use Rattle.storage_changes.proofs.MeaningLemmas.{named_pages_are_there}
use Rattle.storage_changes.specs.MapTotals.{sum_of}
use Rattle.storage_changes.proofs.MapSums.{one_if, sum_none, sum_same, sum_flat}

-- what counts of a value that may be there
abbrev value : {A : Type 0} → (A → ℕ) → Option A → ℕ
value count None = 0
value count (Some x) = count x

module _ {A : Type 0} where
  sum_given : (count : A → ℕ) (h : ℕ → Option A) (ts : List ℕ) → sum_of count (filter_map h ts) ≡ sum_of (λ t. value count (h t)) ts
  sum_given count h [] = refl
  sum_given count h (t ∷ ts) = go (h t) (sum_given count h ts) where
    go : (o : Option A) → sum_of count (filter_map h ts) ≡ sum_of (λ t. value count (h t)) ts
        → sum_of count (cons_option o (filter_map h ts)) ≡ value count o + sum_of (λ t. value count (h t)) ts
    go None e = omega (arith, e)
    go (Some x) e = ap (λ (z : ℕ). count x + z) e

-- a sum in which only one number of a range counts
module _ (f : ℕ → ℕ) where
  sum_behind : (n a : ℕ) → ((t : ℕ) → a ≤ t → f t ≡ 0) → sum_of f (range_with_len a n) ≡ 0
  sum_behind zero a none = refl
  sum_behind (suc n) a none = omega (arith, none a (omega arith), sum_behind n (a + 1) (λ t low. none t (omega (arith, low))))

  sum_single : (x : ℕ) → ((t : ℕ) → (t ≡ x → ⊥) → f t ≡ 0) → (n a : ℕ) → a ≤ x → x < a + n → sum_of f (range_with_len a n) ≡ f x
  sum_single x other zero a low high = absurd (omega (arith, low, high))
  sum_single x other (suc n) a low high = elim (cases_eq a x) [
    | inl is ↦ (let here : f a ≡ f x = ap f is in omega (arith, here, sum_behind n (a + 1) (λ t far. other t (λ e. omega (arith, e, far, is)))))
    | inr ne ↦ omega (arith, other a ne, sum_single x other n (a + 1) (omega (arith, low, ne)) (omega (arith, high)))
  ]

  sum_tasks : (x k : ℕ) → k ≡ 64 → ((t : ℕ) → (t ≡ x → ⊥) → f t ≡ 0) → 1 ≤ x → x ≤ 64 → sum_of f tasks ≡ f x
  sum_tasks x k e other low high = ap (sum_of f) (tasks_are k e) ∙ sum_single x other k 1 low (omega (arith, high, e))

  sum_numbers : (x k : ℕ) → k ≡ 128 → ((t : ℕ) → (t ≡ x → ⊥) → f t ≡ 0) → x ≤ 127 → sum_of f numbers ≡ f x
  sum_numbers x k e other high = ap (sum_of f) (numbers_are k e) ∙ sum_single x other k 0 (omega arith) (omega (arith, high, e))

-- Of a test that one subpool passes at most, those that exist and pass are one, or none.
module _ (m : Subpools) (p : Subpool) (g : Subpool → Bool) (can : CanBe p) (there : is_there m p ≡ true) (only : (q : Subpool) → g q ≡ true → q ≡ p) where
  abbrev counted : ℕ → ℕ → ℕ
  counted number owner = value (λ q. one_if (g q)) (subpool_at m number owner)

  counts_not : (number owner : ℕ) → (◌≡◌ {A = Subpool} (record { number = number; owner = owner }) p → ⊥) → counted number owner ≡ 0
  counts_not number owner other = go (is_there m (record { number = number; owner = owner })) where
    fails : g (record { number = number; owner = owner }) ≡ false
    fails = false_from_ne_true (g (record { number = number; owner = owner })) (λ e. other (only (record { number = number; owner = owner }) e))

    go : (b : Bool) → value (λ q. one_if (g q)) (if b then Some (record { number = number; owner = owner }) else None) ≡ 0
    go true = ap one_if fails
    go false = refl

  counts : counted p.number p.owner ≡ one_if (g p)
  counts = ap (λ (b : Bool). value (λ q. one_if (g q)) (if b then Some p else None)) there

  pub one_counts : sum_of (λ q. one_if (g q)) (subpools_in_order m) ≡ one_if (g p)
  one_counts =
      sum_flat (λ q. one_if (g q)) (λ number. filter_map (λ owner. subpool_at m number owner) tasks) numbers
      ∙ sum_same (λ number. sum_of (λ q. one_if (g q)) (filter_map (λ owner. subpool_at m number owner) tasks)) (λ number. sum_of (counted number) tasks)
      (λ number. sum_given (λ q. one_if (g q)) (λ owner. subpool_at m number owner) tasks) numbers
      ∙ sum_numbers (λ number. sum_of (counted number) tasks) p.number 128 refl
      (λ number ne. sum_none (counted number) (λ owner. counts_not number owner (λ e. ne (ap (λ (q : Subpool). q.number) e))) tasks) can.0
      ∙ sum_tasks (counted p.number) p.owner 64 refl (λ owner ne. counts_not p.number owner (λ e. ne (ap (λ (q : Subpool). q.owner) e))) can.1 can.2
      ∙ counts

module _ (settings : Settings) (m : StorageState) (sound : IsSound settings m) where
  -- a subpool with a page exists, and is a possible one
  has_page : (p : Subpool) (page : ℕ) → subpool_of m.subpools page ≡ Some p → is_there m.subpools p ≡ true
  has_page p page e = sound.well_formed.pages.has_subpool page p e

  can_be : (p : Subpool) → is_there m.subpools p ≡ true → CanBe p
  can_be p there =
      let owner = sound.well_formed.tasks.numbered p.owner (sound.well_formed.sight.owner_is_task p.number p.owner there) in
      (sound.well_formed.sight.is_private p.number p.owner there, owner.0, owner.1)

  -- a page is assigned if it's a page of one of the subpools
  pub page_counts : (page : ℕ) → one_if (is_some (subpool_of m.subpools page)) ≡ sum_of (λ q. one_if (m.subpools.pages q page)) (subpools_in_order m.subpools)
  page_counts page = go (subpool_of m.subpools page) refl where
    nobodys : subpool_of m.subpools page ≡ None → (q : Subpool) → m.subpools.pages q page ≡ false
    nobodys e q = false_from_ne_true (m.subpools.pages q page) (λ h. (let both : Some q ≡ None = sym (sound.named q page h) ∙ e in cc))

    go : (o : Option Subpool) → subpool_of m.subpools page ≡ o → one_if (is_some o) ≡ sum_of (λ q. one_if (m.subpools.pages q page)) (subpools_in_order m.subpools)
    go None e = sym (sum_none (λ q. one_if (m.subpools.pages q page)) (λ q. ap one_if (nobodys e q)) (subpools_in_order m.subpools))
    go (Some p) e =
        let has : m.subpools.pages p page ≡ true = (named_pages_are_there m.subpools page).0 p e in
        sym (one_counts m.subpools p (λ q. m.subpools.pages q page) (can_be p (has_page p page e)) (has_page p page e) (λ q h. sound.apart q p page h has) ∙ ap one_if has)

  -- and a doubleword of an assigned page is free if it's in the free storage of one of them
  pub free_counts : (d : ℕ) → one_if (is_some (subpool_of m.subpools (d / 512)) && not (is_taken m.subpools (subpool_of m.subpools (d / 512)) d))
      ≡ sum_of (λ q. one_if (m.subpools.free q d)) (subpools_in_order m.subpools)
  free_counts d = go (subpool_of m.subpools (d / 512)) refl where
    nobodys : subpool_of m.subpools (d / 512) ≡ None → (q : Subpool) → m.subpools.free q d ≡ false
    nobodys e q = false_from_ne_true (m.subpools.free q d) (λ h. (let both : Some q ≡ None = sym (sound.named q (d / 512) (sound.free q d h)) ∙ e in cc))

    go : (o : Option Subpool) → subpool_of m.subpools (d / 512) ≡ o → one_if (is_some o && not (is_taken m.subpools o d)) ≡ sum_of (λ q. one_if (m.subpools.free q d)) (subpools_in_order m.subpools)
    go None e = sym (sum_none (λ q. one_if (m.subpools.free q d)) (λ q. ap one_if (nobodys e q)) (subpools_in_order m.subpools))
    go (Some p) e =
        let has : m.subpools.pages p (d / 512) ≡ true = (named_pages_are_there m.subpools (d / 512)).0 p e in
        ap one_if (not-not (m.subpools.free p d))
        ∙ sym (one_counts m.subpools p (λ q. m.subpools.free q d) (can_be p (has_page p (d / 512) e)) (has_page p (d / 512) e) (λ q h. sound.apart q p (d / 512) (sound.free q d h) has))
