-- Runs over neighbouring ranges of numbers.
use Rattle.std.proofs.Common.{◌≡◌, ℕ, zero, suc, ◌+◌, ◌<◌, ◌≤◌, ◌-◌, ◌==◌, Bool, true, false, if◌then◌else◌, List, [], ◌∷◌, ◌++◌, refl, sym, ap, ◌∙◌, arith, subst}
use Rattle.std.proofs.lemmas.Bool.{eqb-true, false_from_ne_true}
use Rattle.vsm_model.specs.Runs.{with_first, runs}

-- the first run begins at or after this number
abbrev pub Begins : ℕ → List (ℕ × ℕ) → Type 0
Begins low [] = Unit {0}
Begins low (x ∷ xs) = low ≤ x.0

-- each run begins at or after the first number, and ends at or before the last one
abbrev pub Between : ℕ → ℕ → List (ℕ × ℕ) → Type 0
Between low high [] = Unit {0}
Between low high (x ∷ xs) = (low ≤ x.0) × (0 < x.1) × (x.0 + x.1 ≤ high) × Between low high xs

begins_lower : (low k : ℕ) (xs : List (ℕ × ℕ)) → low ≤ k → Begins k xs → Begins low xs
begins_lower low k [] less h = tt
begins_lower low k (x ∷ xs) less h = let far : k ≤ x.0 = h in omega (arith, less, far)

pub between_wider : (low k high : ℕ) (xs : List (ℕ × ℕ)) → low ≤ k → Between k high xs → Between low high xs
between_wider low k high [] less h = tt
between_wider low k high (x ∷ xs) less h = (let far : k ≤ x.0 = h.0 in omega (arith, less, far), h.1, h.2, between_wider low k high xs less h.3)

pub between_longer : (low k high : ℕ) (xs : List (ℕ × ℕ)) → k ≤ high → Between low k xs → Between low high xs
between_longer low k high [] less h = tt
between_longer low k high (x ∷ xs) less h = (h.0, h.1, let ends : x.0 + x.1 ≤ k = h.2 in omega (arith, less, ends), between_longer low k high xs less h.3)

-- a number before runs: it begins the first of them, or is a run of its own
front_begins : (k : ℕ) (xs : List (ℕ × ℕ)) → Begins k (with_first k xs)
front_begins k [] = omega arith
front_begins k (x ∷ xs) = go (x.0 == suc k) where
  go : (b : Bool) → Begins k (if b then (k, suc x.1) ∷ xs else (k, 1) ∷ x ∷ xs)
  go true = omega arith
  go false = omega arith

front_between : (k high : ℕ) (xs : List (ℕ × ℕ)) → suc k ≤ high → Between (suc k) high xs → Between k high (with_first k xs)
front_between k high [] less h = (omega arith, omega arith, omega (arith, less), tt)
front_between k high (x ∷ xs) less h = go (x.0 == suc k) refl where
  go : (b : Bool) → (x.0 == suc k) ≡ b → Between k high (if b then (k, suc x.1) ∷ xs else (k, 1) ∷ x ∷ xs)
  go true e =
      let at : x.0 ≡ suc k = eqb-true x.0 (suc k) e in
      let ends : x.0 + x.1 ≤ high = h.2 in
      (omega arith, omega arith, omega (arith, at, ends), between_wider k (suc k) high xs (omega arith) h.3)
  go false e = (omega arith, omega arith, omega (arith, less), between_wider k (suc k) high (x ∷ xs) (omega arith) h)

-- other runs may follow it
front_alone : (k low : ℕ) (ys : List (ℕ × ℕ)) → suc k < low → Begins low ys → with_first k ys ≡ (k, 1) ∷ ys
front_alone k low [] less h = refl
front_alone k low (y ∷ ys) less h =
    let far : low ≤ y.0 = h in
    ap (λ (b : Bool). if b then (k, suc y.1) ∷ ys else (k, 1) ∷ y ∷ ys)
    (false_from_ne_true (y.0 == suc k) (λ e. absurd (let at : y.0 ≡ suc k = eqb-true y.0 (suc k) e in omega (arith, less, far, at))))

front_append : (k low : ℕ) (xs ys : List (ℕ × ℕ)) → suc k < low → Begins low ys → with_first k (xs ++ ys) ≡ with_first k xs ++ ys
front_append k low [] ys less h = front_alone k low ys less h
front_append k low (x ∷ xs) ys less h = go (x.0 == suc k) where
  go : (b : Bool) → (if b then (k, suc x.1) ∷ xs ++ ys else (k, 1) ∷ x ∷ xs ++ ys) ≡ (if b then (k, suc x.1) ∷ xs else (k, 1) ∷ x ∷ xs) ++ ys
  go true = refl
  go false = refl

module _ (f : ℕ → Bool) where
  -- the runs of another number, if it passes and if it doesn't
  pub one_less : (k n : ℕ) → f k ≡ false → runs f k (suc n) ≡ runs f (suc k) n
  one_less k n e = ap (λ (b : Bool). if b then with_first k (runs f (suc k) n) else runs f (suc k) n) e

  pub one_more : (k n : ℕ) → f k ≡ true → runs f k (suc n) ≡ with_first k (runs f (suc k) n)
  one_more k n e = ap (λ (b : Bool). if b then with_first k (runs f (suc k) n) else runs f (suc k) n) e

  runs_begin : (k n : ℕ) → Begins k (runs f k n)
  runs_begin k zero = tt
  runs_begin k (suc n) = go (f k) (runs_begin (suc k) n) where
    go : (b : Bool) → Begins (suc k) (runs f (suc k) n) → Begins k (if b then with_first k (runs f (suc k) n) else runs f (suc k) n)
    go true h = front_begins k (runs f (suc k) n)
    go false h = begins_lower k (suc k) (runs f (suc k) n) (omega arith) h

  runs_begin_behind : (k n : ℕ) → f k ≡ false → Begins (suc k) (runs f k n)
  runs_begin_behind k zero e = tt
  runs_begin_behind k (suc n) e = let P : List (ℕ × ℕ) → Type 0 = Begins (suc k) in subst P (sym (one_less k n e)) (runs_begin (suc k) n)

  pub runs_between : (k n : ℕ) → Between k (k + n) (runs f k n)
  runs_between k zero = tt
  runs_between k (suc n) =
      let P : ℕ → Type 0 = λ z. Between (suc k) z (runs f (suc k) n) in
      go (f k) (subst P (omega arith) (runs_between (suc k) n))
    where
      go : (b : Bool) → Between (suc k) (k + suc n) (runs f (suc k) n) → Between k (k + suc n) (if b then with_first k (runs f (suc k) n) else runs f (suc k) n)
      go true h = front_between k (k + suc n) (runs f (suc k) n) (omega arith) h
      go false h = between_wider k (suc k) (k + suc n) (runs f (suc k) n) (omega arith) h

  -- numbers that don't pass make no runs, before others
  pub runs_behind : (k n m : ℕ) → ((j : ℕ) → k ≤ j → j < k + n → f j ≡ false) → runs f k (n + m) ≡ runs f (k + n) m
  runs_behind k zero m none =
      let count : 0 + m ≡ m = omega arith in
      let first : k ≡ k + 0 = omega arith in
      ap (runs f k) count ∙ ap (λ (z : ℕ). runs f z m) first
  runs_behind k (suc n) m none =
      let count : suc n + m ≡ suc (n + m) = omega arith in
      let first : suc k + n ≡ k + suc n = omega arith in
      ap (runs f k) count
      ∙ one_less k (n + m) (none k (omega arith) (omega arith))
      ∙ runs_behind (suc k) n m (λ j low high. none j (omega (arith, low)) (omega (arith, high)))
      ∙ ap (λ (z : ℕ). runs f z m) first

  -- if a number doesn't pass, the runs before it and those after it are apart
  pub runs_apart : (k n m : ℕ) → f (k + n) ≡ false → runs f k (n + m) ≡ runs f k n ++ runs f (k + n) m
  runs_apart k zero m e =
      let count : 0 + m ≡ m = omega arith in
      let first : k ≡ k + 0 = omega arith in
      ap (runs f k) count ∙ ap (λ (z : ℕ). runs f z m) first
  runs_apart k (suc n) m e =
      let P : ℕ → Type 0 = λ z. f z ≡ false in
      let count : suc n + m ≡ suc (n + m) = omega arith in
      let first : suc k + n ≡ k + suc n = omega arith in
      ap (runs f k) count
      ∙ go (f k) refl (runs_apart (suc k) n m (subst P (sym first) e) ∙ ap (λ (z : ℕ). runs f (suc k) n ++ runs f z m) first)
    where
      go : (b : Bool) → f k ≡ b → runs f (suc k) (n + m) ≡ runs f (suc k) n ++ runs f (k + suc n) m → runs f k (suc (n + m)) ≡ runs f k (suc n) ++ runs f (k + suc n) m
      go true h rest =
          one_more k (n + m) h ∙ ap (with_first k) rest
          ∙ front_append k (suc (k + suc n)) (runs f (suc k) n) (runs f (k + suc n) m) (omega arith) (runs_begin_behind (k + suc n) m e)
          ∙ ap (λ (z : List (ℕ × ℕ)). z ++ runs f (k + suc n) m) (sym (one_more k n h))
      go false h rest = one_less k (n + m) h ∙ rest ∙ ap (λ (z : List (ℕ × ℕ)). z ++ runs f (k + suc n) m) (sym (one_less k n h))

  runs_none : (k n : ℕ) → ((j : ℕ) → k ≤ j → j < k + n → f j ≡ false) → runs f k n ≡ []
  runs_none k zero none = refl
  runs_none k (suc n) none = one_less k n (none k (omega arith) (omega arith)) ∙ runs_none (suc k) n (λ j low high. none j (omega (arith, low)) (omega (arith, high)))

  append_none : (xs ys : List (ℕ × ℕ)) → ys ≡ [] → xs ++ ys ≡ xs
  append_none [] ys e = e
  append_none (x ∷ xs) ys e = ap (λ (z : List (ℕ × ℕ)). x ∷ z) (append_none xs ys e)

  -- the runs of only what passes in two ranges, with a number between them and one after them
  pub two_ranges : (a n b m top : ℕ) → a + n < b → b + m < top
      → ((k : ℕ) → k < a → f k ≡ false) → ((k : ℕ) → a + n ≤ k → k < b → f k ≡ false) → ((k : ℕ) → b + m ≤ k → f k ≡ false)
      → runs f 0 top ≡ runs f a n ++ runs f b m
  two_ranges a n b m top gap room before between behind =
      go (b - (a + n)) (top - (b + m)) (omega (arith, gap)) (omega (arith, gap, room)) (omega (arith, gap)) (omega (arith, room))
    where
      go : (g r : ℕ) → a + n + g ≡ b → top ≡ a + (n + (g + (m + r))) → 0 < g → 0 < r → runs f 0 top ≡ runs f a n ++ runs f b m
      go g r to_b to_top some more =
          let first : 0 + a ≡ a = omega arith in
          ap (runs f 0) to_top
          ∙ runs_behind 0 a (n + (g + (m + r))) (λ j low high. before j (omega (arith, high)))
          ∙ ap (λ (z : ℕ). runs f z (n + (g + (m + r)))) first
          ∙ runs_apart a n (g + (m + r)) (between (a + n) (omega arith) gap)
          ∙ ap (λ (z : List (ℕ × ℕ)). runs f a n ++ z)
          (runs_behind (a + n) g (m + r) (λ j low high. between j low (omega (arith, high, to_b)))
          ∙ ap (λ (z : ℕ). runs f z (m + r)) to_b
          ∙ runs_apart b m r (behind (b + m) (omega arith))
          ∙ append_none (runs f b m) (runs f (b + m) r) (runs_none (b + m) r (λ j low high. behind j low)))

-- tests that agree have the same runs
pub runs_agree : (f g : ℕ → Bool) (k n : ℕ) → ((j : ℕ) → k ≤ j → j < k + n → f j ≡ g j) → runs f k n ≡ runs g k n
runs_agree f g k zero same = refl
runs_agree f g k (suc n) same =
    ap (λ (b : Bool). if b then with_first k (runs f (suc k) n) else runs f (suc k) n) (same k (omega arith) (omega arith))
    ∙ ap (λ (z : List (ℕ × ℕ)). if g k then with_first k z else z) (runs_agree f g (suc k) n (λ j low high. same j (omega (arith, low)) (omega (arith, high))))
