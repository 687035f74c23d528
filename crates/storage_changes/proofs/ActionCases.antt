-- Cases of tests, optional values, subpools and runs.
use Rattle.std.proofs.Common.{◌≡◌, ℕ, ◌+◌, ◌<◌, ◌≤◌, Bool, true, false, not, ◌&&◌, ◌||◌, nat_le, nat_lt, Option, Some, None, is_some, IsSome, refl, sym, ◌∙◌, ap, arith, inl, inr, true≢false}
use Rattle.std.proofs.lemmas.Bool.{and_parts, and_from, leb-true, ltb-true, le-leb, lt-ltb, cases_lt, false_from_ne_true, not-true}
use Rattle.std.specs.Prelude.{◌/◌, ◌*◌}
use Rattle.run_set.specs.Runs.{inside}
use Rattle.vsm_model.specs.declared.Subpool.{Subpool}
use Rattle.vsm_model.specs.Search.{holds}
use Rattle.vsm_model.specs.Releasing.{is_idle}
use Rattle.vsm_model.proofs.Least.{all_pass_at, all_pass_from}
use Rattle.vsm_model.specs.Subpools.{same_subpool}
use Rattle.storage_changes.proofs.Cases.{same-self, same-is}

pub none_some : {A : Type 0} (y : A) → ◌≡◌ {A = Option A} None (Some y) → ⊥
none_some y e = cc

pub none_from : {A : Type 0} (o : Option A) → is_some o ≡ false → o ≡ None
none_from None e = refl
none_from (Some x) e = absurd (true≢false e)

pub is_none_some : {A : Type 0} (o : Option A) → o ≡ None → IsSome o → ⊥
is_none_some None e h = cc
is_none_some (Some x) e h = cc

-- where a test for a subpool and another test meet
pub at_self : (p : Subpool) (b : Bool) → b ≡ true → (same_subpool p p && b) ≡ true
at_self p b e = and_from (same_subpool p p) b (same-self p) e

pub inside_in : (start len k : ℕ) → inside k (record { start = start; len = len }) ≡ true → (start ≤ k) × (k < start + len)
inside_in start len k e =
    let parts = and_parts (nat_le start k) (nat_lt k (start + len)) e in
    (leb-true start k parts.0, ltb-true k (start + len) parts.1)

pub in_inside : (start len k : ℕ) → start ≤ k → k < start + len → inside k (record { start = start; len = len }) ≡ true
in_inside start len k low high = and_from (nat_le start k) (nat_lt k (start + len)) (le-leb start k low) (lt-ltb k (start + len) high)

pub not_inside : (start len k : ℕ) → ((start ≤ k) → (k < start + len) → ⊥) → inside k (record { start = start; len = len }) ≡ false
not_inside start len k h = false_from_ne_true (inside k (record { start = start; len = len })) (λ e. let at = inside_in start len k e in h at.0 at.1)

-- a number that isn't in a run, and not before it, is after it
pub outside : (start len k : ℕ) → inside k (record { start = start; len = len }) ≡ false → start ≤ k → start + len ≤ k
outside start len k e low =
    elim (cases_lt k (start + len)) [
      | inl high ↦ absurd (true≢false (sym (in_inside start len k low high) ∙ e))
      | inr behind ↦ behind
    ]

pub or_none : (b c : Bool) → c ≡ false → (b || c) ≡ b
or_none true c e = refl
or_none false c e = e

-- an optional subpool is this one
pub belongs_is : (p : Subpool) (o : Option Subpool) → holds (same_subpool p) o ≡ true → o ≡ Some p
belongs_is p None e = absurd (true≢false (sym e))
belongs_is p (Some q) e = ap Some (sym (same-is p q e))

-- no doubleword of an idle page is taken, and a page is idle if none is
pub is_idle_at : (taken : ℕ → Bool) (j k : ℕ) → is_idle taken j ≡ true → k / 512 ≡ j → taken k ≡ false
unfolding is_idle
is_idle_at taken j k e at = not-true (taken k) (all_pass_at (λ k. not (taken k)) (j * 512) 512 k e (omega (arith, at)) (omega (arith, at)))

pub idle_from : (taken : ℕ → Bool) (j : ℕ) → ((k : ℕ) → k / 512 ≡ j → taken k ≡ false) → is_idle taken j ≡ true
unfolding is_idle
idle_from taken j none = all_pass_from (λ k. not (taken k)) (j * 512) 512 (λ k low high. ap not (none k (omega (arith, low, high))))

pub same_answers : (x y : Bool) → (x ≡ true → y ≡ true) → (y ≡ true → x ≡ true) → x ≡ y
same_answers true y f g = sym (f refl)
same_answers false true f g = g refl
same_answers false false f g = refl
