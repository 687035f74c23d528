-- Which numbers are in a list.
use Rattle.std.proofs.Common.{◌≡◌, ℕ, zero, suc, ◌+◌, ◌<◌, ◌≤◌, Bool, true, false, ◌||◌, ◌==◌, List, [], ◌∷◌, ◌++◌, refl, sym, ◌∙◌, ap, arith, inl, inr, true≢false}
use Rattle.std.specs.Prelude.{filter}
use Rattle.std.specs.List.{range_with_len}
use Rattle.std.proofs.lemmas.Bool.{or_cases, or_left, or_right, eqb-true, eq-eqb, cases_lt, cond_both}
use Rattle.vsm_model.specs.Search.{is_in}

pub append_nothing : {A : Type 0} (xs : List A) → xs ++ [] ≡ xs
append_nothing [] = refl
append_nothing (x ∷ xs) = ap (λ ys. x ∷ ys) (append_nothing xs)

pub or_nothing : (b : Bool) → (b || false) ≡ b
or_nothing true = refl
or_nothing false = refl

or_or : (a b c : Bool) → (a || (b || c)) ≡ ((a || b) || c)
or_or true b c = refl
or_or false b c = refl

pub in_either : (xs ys : List ℕ) (t : ℕ) → is_in (xs ++ ys) t ≡ (is_in xs t || is_in ys t)
in_either [] ys t = refl
in_either (x ∷ xs) ys t = ap (λ b. (x == t) || b) (in_either xs ys t) ∙ or_or (x == t) (is_in xs t) (is_in ys t)

module _ (f : ℕ → Bool) (t : ℕ) where
  pub passes_in : (xs : List ℕ) → is_in (filter f xs) t ≡ true → f t ≡ true
  passes_in [] e = absurd (true≢false (sym e))
  passes_in (x ∷ xs) e =
      cond_both (f x) (x ∷ filter f xs) (filter f xs) (λ ys. is_in ys t ≡ true → f t ≡ true)
      (λ passes e. elim (or_cases (x == t) (is_in (filter f xs) t) e) [
        | inl is ↦ ap f (sym (eqb-true x t is)) ∙ passes
        | inr later ↦ passes_in xs later
      ])
      (λ _ e. passes_in xs e) e

  pub is_in_passing : (len first : ℕ) → f t ≡ true → first ≤ t → t < first + len → is_in (filter f (range_with_len first len)) t ≡ true
  is_in_passing zero first passes low high = absurd (omega (arith, low, high))
  is_in_passing (suc len) first passes low high =
      cond_both (f first) (first ∷ filter f (range_with_len (first + 1) len)) (filter f (range_with_len (first + 1) len)) (λ ys. is_in ys t ≡ true)
      (λ _. elim (cases_lt first t) [
        | inl more ↦ or_right (first == t) _ (is_in_passing len (first + 1) passes (omega (arith, more)) (omega (arith, high)))
        | inr less ↦ or_left (first == t) _ (eq-eqb first t (omega (arith, low, less)))
      ])
      (λ other. elim (cases_lt first t) [
        | inl more ↦ is_in_passing len (first + 1) passes (omega (arith, more)) (omega (arith, high))
        | inr less ↦
            let same : t ≡ first = omega (arith, low, less) in
            absurd (true≢false (sym passes ∙ ap f same ∙ other))
      ])
