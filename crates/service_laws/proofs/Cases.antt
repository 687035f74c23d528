-- Cases of tests, optional values and runs of numbers.
use Rattle.std.proofs.Common.{◌≡◌, ℕ, zero, suc, ◌+◌, ◌<◌, ◌≤◌, Bool, true, false, not, ◌&&◌, nat_le, nat_lt, ◌==◌, if◌then◌else◌, Option, Some, None, is_some, refl, sym, ◌∙◌, ap, arith, inl, inr, true≢false}
use Rattle.std.proofs.lemmas.Bool.{and_parts, and_from, eqb-true, eq-eqb, leb-true, ltb-true, le-leb, lt-ltb, cases_Bool, not-false, not-true}
use Rattle.vsm_model.specs.declared.Subpool.{Subpool}
use Rattle.vsm_model.specs.Search.{holds, all_pass, some_pass}
use Rattle.vsm_model.specs.Regions.{among}
use Rattle.vsm_model.specs.Subpools.{same_subpool}
use Rattle.vsm_model.proofs.Least.{all_pass_at}

pub same_some : {A : Type 0} (x y : A) → Some x ≡ Some y → x ≡ y
same_some x y e = cc

pub none_some : {A : Type 0} (y : A) → ◌≡◌ {A = Option A} None (Some y) → ⊥
none_some y e = cc

pub some_from : {A : Type 0} (o : Option A) → is_some o ≡ true → (x : A) × (o ≡ Some x)
some_from None e = absurd (true≢false (sym e))
some_from (Some x) e = (x, refl)

pub none_from : {A : Type 0} (o : Option A) → is_some o ≡ false → o ≡ None
none_from None e = refl
none_from (Some x) e = absurd (true≢false e)

-- a test of an optional value that holds is one of a value
pub held : {A : Type 0} (f : A → Bool) (o : Option A) → holds f o ≡ true → (x : A) × (o ≡ Some x) × (f x ≡ true)
held f None e = absurd (true≢false (sym e))
held f (Some x) e = (x, refl, e)

pub same_is : (p q : Subpool) → same_subpool p q ≡ true → q ≡ p
same_is p q e =
    let parts = and_parts (p.number == q.number) (p.owner == q.owner) e in
    let number = eqb-true p.number q.number parts.0 in
    let owner = eqb-true p.owner q.owner parts.1 in
    λ i. record { number = sym number i; owner = sym owner i }

pub same_self : (p : Subpool) → same_subpool p p ≡ true
same_self p = and_from (p.number == p.number) (p.owner == p.owner) (eq-eqb p.number p.number refl) (eq-eqb p.owner p.owner refl)

-- an optional subpool is this one
pub belongs_is : (p : Subpool) (o : Option Subpool) → holds (same_subpool p) o ≡ true → o ≡ Some p
belongs_is p o e = let (q, at, is) = held (same_subpool p) o e in at ∙ ap (λ q. Some q) (same_is p q is)

pub belongs_from : (p : Subpool) (o : Option Subpool) → o ≡ Some p → holds (same_subpool p) o ≡ true
belongs_from p o e = ap (holds (same_subpool p)) e ∙ same_self p

pub among_in : (a n k : ℕ) → among a n k ≡ true → (a ≤ k) × (k < a + n)
among_in a n k e = let parts = and_parts (nat_le a k) (nat_lt k (a + n)) e in (leb-true a k parts.0, ltb-true k (a + n) parts.1)

pub in_among : (a n k : ℕ) → a ≤ k → k < a + n → among a n k ≡ true
in_among a n k low high = and_from (nat_le a k) (nat_lt k (a + n)) (le-leb a k low) (lt-ltb k (a + n) high)

-- what holds if a test chooses the first value, and if it chooses the second
pub chosen : {A : Type 0} (b : Bool) (x y z : A) (P : Type 0) → (if b then x else y) ≡ z → (b ≡ true → x ≡ z → P) → (b ≡ false → y ≡ z → P) → P
chosen true x y z P e f g = f refl e
chosen false x y z P e f g = g refl e

pub is_some_of : {A : Type 0} (b : Bool) (x y : Option A) → (b ≡ true → is_some x ≡ true) → (b ≡ false → is_some y ≡ true) → is_some (if b then x else y) ≡ true
is_some_of true x y f g = f refl
is_some_of false x y f g = g refl

pub both_some : {A B : Type 0} (b : Bool) (x y : Option A) (u v : Option B) → is_some x ≡ is_some u → is_some y ≡ is_some v → is_some (if b then x else y) ≡ is_some (if b then u else v)
both_some true x y u v e f = e
both_some false x y u v e f = f

-- a run that doesn't pass has a number that doesn't
pub all_pass_witness : (f : ℕ → Bool) (a n : ℕ) → all_pass f a n ≡ false → (k : ℕ) × (a ≤ k) × (k < a + n) × (f k ≡ false)
all_pass_witness f a zero e = absurd (true≢false e)
all_pass_witness f a (suc n) e =
    elim (cases_Bool (f a)) [
      | inl here ↦
          let (k, low, high, at) = all_pass_witness f (suc a) n (sym (ap (λ b. b && all_pass f (suc a) n) here) ∙ e) in
          (k, omega arith, omega arith, at)
      | inr here ↦ (a, omega arith, omega arith, here)
    ]

-- if none of a run passes, each doesn't
pub none_pass_at : (f : ℕ → Bool) (a n k : ℕ) → some_pass f a n ≡ false → among a n k ≡ true → f k ≡ false
none_pass_at f a n k e is =
    let place = among_in a n k is in
    not-true (f k) (all_pass_at (λ k. not (f k)) a n k (not-false (all_pass (λ k. not (f k)) a n) e) place.0 place.1)

pub some_pass_witness : (f : ℕ → Bool) (a n : ℕ) → some_pass f a n ≡ true → (k : ℕ) × (among a n k ≡ true) × (f k ≡ true)
some_pass_witness f a n e =
    let (k, low, high, at) = all_pass_witness (λ k. not (f k)) a n (not-true (all_pass (λ k. not (f k)) a n) e) in
    (k, in_among a n k low high, not-false (f k) at)
