-- How many bytes at the front are equal in two lists.
use Rattle.std.proofs.Common.{◌≡◌, ℕ, min, List, [], ◌∷◌, length, drop, refl, ap, ◌∙◌, arith, inl, inr}
use Rattle.std.proofs.lemmas.Bool.{cases_lt}
use Rattle.std.proofs.lemmas.List.{drop_all}
use Rattle.explain_who.specs.Place.{equal_front}

with_none : (xs : List ℕ) → equal_front xs [] ≡ 0
with_none [] = refl
with_none (x ∷ xs) = refl

-- none from the end of the shorter one on
pub none_from : (a b : List ℕ) (i : ℕ) → i ≡ min (length a) (length b) → equal_front (drop i a) (drop i b) ≡ 0
none_from a b i is = elim (cases_lt (length a) (length b)) [
  | inl less ↦ ap (λ xs. equal_front xs (drop i b)) (drop_all i a (omega (arith, is, less)))
  | inr more ↦ ap (equal_front (drop i a)) (drop_all i b (omega (arith, is, more))) ∙ with_none (drop i a)
]
