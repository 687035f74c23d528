-- The doublewords of the runs that a service takes.
use Rattle.std.proofs.Common.{◌≡◌, ℕ, zero, suc, ◌<◌, ◌^◌, Bool, true, false, ◌&&◌, ◌||◌, if◌then◌else◌, List, [], ◌∷◌, refl, sym, ap, ◌∙◌, arith}
use Rattle.std.specs.Prelude.{◌==◌}
use Rattle.vsm_model.specs.Regions.{among}
use Rattle.vsm_model.specs.Runs.{runs, with_first}
use Rattle.vsm_model.specs.State.{State}
use Rattle.explain_standing.specs.Newly.{is_newly, newly_between}
use Rattle.explain_standing.specs.Newly.{is_in}

-- one number before runs
one : (k d : ℕ) → among k 1 d ≡ (d == k)
one k d = grind arith

front_in : (k d : ℕ) (rs : List (ℕ × ℕ)) → is_in d (with_first k rs) ≡ ((d == k) || is_in d rs)
front_in k d [] = ap (λ b. b || false) (one k d)
front_in k d (r ∷ rs) = go (r.0 == suc k) refl where
  go : (b : Bool) → (r.0 == suc k) ≡ b → is_in d (with_first k (r ∷ rs)) ≡ ((d == k) || is_in d (r ∷ rs))
  go true e =
      ap (λ b. is_in d (if b then (k, suc r.1) ∷ rs else (k, 1) ∷ r ∷ rs)) e
      ∙ ap (λ b. b || is_in d rs) (joins k d r.0 r.1 e) ∙ assoc (d == k) (among r.0 r.1 d) (is_in d rs) where
        joins : (k d first count : ℕ) → (first == suc k) ≡ true → among k (suc count) d ≡ ((d == k) || among first count d)
        joins k d first count e = grind (arith, e)

        assoc : (a b c : Bool) → ((a || b) || c) ≡ (a || (b || c))
        assoc true b c = refl
        assoc false b c = refl
  go false e =
      ap (λ b. is_in d (if b then (k, suc r.1) ∷ rs else (k, 1) ∷ r ∷ rs)) e
      ∙ ap (λ b. b || is_in d (r ∷ rs)) (one k d)

module _ (f : ℕ → Bool) (first n d : ℕ) where
  split : (d == first) ≡ true → among first (suc n) d ≡ true
  split e = grind (arith, e)

  left_out : (d == first) ≡ true → among (suc first) n d ≡ false
  left_out e = grind (arith, e)

  beside : (d == first) ≡ false → among (suc first) n d ≡ among first (suc n) d
  beside e = grind (arith, e)

  same : (d == first) ≡ true → d ≡ first
  same e = grind (arith, e)

  and_false : (b : Bool) → false ≡ (b && false)
  and_false true = refl
  and_false false = refl

  with_it : f first ≡ true → (b : Bool) → (d == first) ≡ b → ((d == first) || (among (suc first) n d && f d)) ≡ (among first (suc n) d && f d)
  with_it is true e = ap (λ c. c || (among (suc first) n d && f d)) e ∙ sym ((λ i. split e i && f d) ∙ ap f (same e) ∙ is)
  with_it is false e = ap (λ c. c || (among (suc first) n d && f d)) e ∙ ap (λ c. c && f d) (beside e)

  without_it : f first ≡ false → (b : Bool) → (d == first) ≡ b → (among (suc first) n d && f d) ≡ (among first (suc n) d && f d)
  without_it is true e = ap (λ c. c && f d) (left_out e) ∙ and_false (among first (suc n) d) ∙ ap (λ c. among first (suc n) d && c) (sym (ap f (same e) ∙ is))
  without_it is false e = ap (λ c. c && f d) (beside e)

runs_have : (f : ℕ → Bool) (first n d : ℕ) → is_in d (runs f first n) ≡ (among first n d && f d)
runs_have f first zero d = ap (λ b. b && f d) (let e : false ≡ among first 0 d = grind arith in e)
runs_have f first (suc n) d = go (f first) refl (runs_have f (suc first) n d) where
  go : (v : Bool) → f first ≡ v → is_in d (runs f (suc first) n) ≡ (among (suc first) n d && f d) → is_in d (runs f first (suc n)) ≡ (among first (suc n) d && f d)
  go true is rest =
      ap (λ b. is_in d (if b then with_first first (runs f (suc first) n) else runs f (suc first) n)) is
      ∙ front_in first d (runs f (suc first) n) ∙ ap (λ c. (d == first) || c) rest ∙ with_it f first n d is (d == first) refl
  go false is rest =
      ap (λ b. is_in d (if b then with_first first (runs f (suc first) n) else runs f (suc first) n)) is
      ∙ rest ∙ without_it f first n d is (d == first) refl

pub newly_has : (s t : State) (d : ℕ) → d < 2 ^ 28 → is_in d (newly_between s t) ≡ is_newly s t d
unfolding newly_between
newly_has s t d low = runs_have (is_newly s t) 0 (2 ^ 28) d ∙ ap (λ b. b && is_newly s t d) (let e : among 0 (2 ^ 28) d ≡ true = grind (arith, low) in e)
