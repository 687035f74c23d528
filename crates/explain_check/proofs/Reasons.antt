-- The first line of a text.
use Rattle.std.proofs.Common.{◌≡◌, ◌≤◌, ◌<◌, ℕ, zero, suc, Bool, if◌then◌else◌, List, [], ◌∷◌, ◌∙◌, length, take, get_or, refl, sym, ap, subst, inl, inr, arith}
use Rattle.std.specs.Prelude.{◌==◌, slice_index}
use Rattle.std.proofs.lemmas.Bool.Decides.{eqb_tells}
use Rattle.script_steps.specs.Script.{NoFeed}
use Rattle.explain_check.specs.Reasons.{up_to_feed}

-- a line feed ends the line, and no other byte
feed_ends : (c : ℕ) (cs : List ℕ) → c ≡ 10 → up_to_feed (c ∷ cs) ≡ []
feed_ends c cs is = elim (eqb_tells c 10) [
  | inl e ↦ ap (λ (b : Bool). if b then [] else c ∷ up_to_feed cs) e.0
  | inr e ↦ absurd (e.1 is)
]

other_goes_on : (c : ℕ) (cs : List ℕ) → (c ≡ 10 → ⊥) → up_to_feed (c ∷ cs) ≡ c ∷ up_to_feed cs
other_goes_on c cs is = elim (eqb_tells c 10) [
  | inl e ↦ absurd (is e.1)
  | inr e ↦ ap (λ (b : Bool). if b then [] else c ∷ up_to_feed cs) e.0
]

-- what is before the first line feed
pub up_to_is : (xs : List ℕ) (n : ℕ) → NoFeed (take n xs) → (n < length xs → slice_index xs n ≡ 10) → take n xs ≡ up_to_feed xs
up_to_is [] zero plain feed = refl
up_to_is [] (suc n) plain feed = refl
up_to_is (x ∷ xs) zero plain feed = sym (feed_ends x xs (feed (omega arith)))
up_to_is (x ∷ xs) (suc n) plain feed =
    ap (λ t. x ∷ t) (up_to_is xs n plain.1 (λ inside. feed (omega (arith, inside)))) ∙ sym (other_goes_on x xs plain.0)

-- it ends no line
pub plain_up_to : (xs : List ℕ) → NoFeed (up_to_feed xs)
plain_up_to [] = tt
plain_up_to (x ∷ xs) = elim (eqb_tells x 10) [
  | inl e ↦ subst NoFeed (sym (feed_ends x xs e.1)) tt
  | inr e ↦ subst NoFeed (sym (other_goes_on x xs e.1)) (e.1, plain_up_to xs)
]
