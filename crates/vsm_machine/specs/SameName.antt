-- Two names with the same characters are the same name.
use Rattle.std.proofs.Common.{◌≡◌, ℕ, true, ◌&&◌, ◌==◌, List, [], ◌∷◌, refl, sym, arith, true≢false}
use Rattle.std.proofs.lemmas.Bool.{and_from, and_parts, eq-eqb, eqb-true}
use Rattle.std.proofs.lemmas.Bool.Decides.{nat_tests}
use Rattle.vsm_model.specs.Names.{same_name}

pub same_name-self : (xs : List ℕ) → same_name xs xs ≡ true
same_name-self [] = refl
same_name-self (x ∷ xs) = and_from (x == x) (same_name xs xs) (eq-eqb x x refl) (same_name-self xs)

pub same_name-is : (xs ys : List ℕ) → same_name xs ys ≡ true → xs ≡ ys
same_name-is [] [] e = refl
same_name-is [] (y ∷ ys) e = absurd (true≢false (sym e))
same_name-is (x ∷ xs) [] e = absurd (true≢false (sym e))
same_name-is (x ∷ xs) (y ∷ ys) e =
    let parts = and_parts (x == y) (same_name xs ys) e in
    let first = eqb-true x y parts.0 in
    let rest = same_name-is xs ys parts.1 in
    λ i. first i ∷ rest i

turned : (a b : ℕ) → (a == b) ≡ (b == a)
turned a b = grind (arith, nat_tests)

pub same_name-turned : (xs ys : List ℕ) → same_name xs ys ≡ same_name ys xs
same_name-turned [] [] = refl
same_name-turned [] (y ∷ ys) = refl
same_name-turned (x ∷ xs) [] = refl
same_name-turned (x ∷ xs) (y ∷ ys) = λ i. turned x y i && same_name-turned xs ys i
