-- How often an id occurs in a list.
use Rattle.std.proofs.Common.{◌≡◌, ℕ, ◌+◌, ◌<◌, ◌≤◌, Bool, true, false, ◌||◌, ◌==◌, List, [], ◌∷◌, ◌++◌, refl, ap, ◌∙◌, arith}
use Rattle.std.proofs.lemmas.Bool.{eqb-true}
use Rattle.vsm_elements.specs.Store.{among, Distinct}
use Rattle.vsm_elements.specs.Owners.{one, times}

pub times-append : (i : ℕ) (xs ys : List ℕ) → times i (xs ++ ys) ≡ times i xs + times i ys
times-append i [] ys = omega arith
times-append i (x ∷ xs) ys = omega (arith, times-append i xs ys)

pub times-none : (i : ℕ) (xs : List ℕ) → among i xs ≡ false → times i xs ≡ 0
times-none i [] h = refl
times-none i (x ∷ xs) h = go (i == x) refl h (times-none i xs) where
  go : (b : Bool) → (i == x) ≡ b → (b || among i xs) ≡ false → (among i xs ≡ false → times i xs ≡ 0) → one (i == x) + times i xs ≡ 0
  go true e h r = cc
  go false e h r = omega (arith, ap one e, r h)

pub times-some : (i : ℕ) (xs : List ℕ) → among i xs ≡ true → 0 < times i xs
times-some i [] h = cc
times-some i (x ∷ xs) h = go (i == x) refl h (times-some i xs) where
  go : (b : Bool) → (i == x) ≡ b → (b || among i xs) ≡ true → (among i xs ≡ true → 0 < times i xs) → 0 < one (i == x) + times i xs
  go true e h r = omega (arith, ap one e)
  go false e h r = omega (arith, ap one e, r h)

either : (b : Bool) → (b ≡ true → ⊥) → b ≡ false
either true h = absurd (h refl)
either false h = refl

pub none-from : (i : ℕ) (xs : List ℕ) → times i xs ≡ 0 → among i xs ≡ false
none-from i xs h = either (among i xs) (λ e. (let k : 0 < times i xs = times-some i xs e in omega arith))

pub some-from : (i : ℕ) (xs : List ℕ) → 0 < times i xs → among i xs ≡ true
some-from i xs h = go (among i xs) refl where
  go : (b : Bool) → among i xs ≡ b → among i xs ≡ true
  go true e = e
  go false e = absurd (omega (arith, times-none i xs e, h))

pub times-once : (i : ℕ) (xs : List ℕ) → Distinct xs → times i xs ≤ 1
times-once i [] h = omega arith
times-once i (x ∷ xs) h = go (i == x) refl (times-once i xs h.1) where
  same : (i == x) ≡ true → among i xs ≡ false
  same e = let q : i ≡ x = eqb-true i x e in ap (λ (j : ℕ). among j xs) q ∙ h.0

  go : (b : Bool) → (i == x) ≡ b → times i xs ≤ 1 → one (i == x) + times i xs ≤ 1
  go false e r = omega (arith, ap one e)
  go true e r = omega (arith, ap one e, times-none i xs (same e))
