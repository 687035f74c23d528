-- Sums over lists, and how many numbers of a range pass a test.
use Rattle.std.proofs.Common.{◌≡◌, ℕ, zero, suc, ◌+◌, ◌*◌, ◌<◌, ◌≤◌, ◌==◌, Bool, true, false, if◌then◌else◌, List, [], ◌∷◌, ◌++◌, map, refl, sym, ap, ◌∙◌, arith}
use Rattle.std.specs.Prelude.{◌/◌, flat_map}
use Rattle.vsm_model.specs.Runs.{with_first, runs}
use Rattle.vsm_model.specs.Search.{passing}
use Rattle.storage_changes.specs.MapTotals.{sum_of}

abbrev pub one_if : Bool → ℕ
one_if b = if b then 1 else 0

module _ {A : Type 0} where
  pub sum_same : (f g : A → ℕ) → ((x : A) → f x ≡ g x) → (xs : List A) → sum_of f xs ≡ sum_of g xs
  sum_same f g same xs = ap (λ (h : A → ℕ). sum_of h xs) (λ i x. same x i)

  pub sum_none : (f : A → ℕ) → ((x : A) → f x ≡ 0) → (xs : List A) → sum_of f xs ≡ 0
  sum_none f none [] = refl
  sum_none f none (x ∷ xs) = omega (arith, none x, sum_none f none xs)

  pub sum_append : (f : A → ℕ) (xs ys : List A) → sum_of f (xs ++ ys) ≡ sum_of f xs + sum_of f ys
  sum_append f [] ys = omega arith
  sum_append f (x ∷ xs) ys = omega (arith, sum_append f xs ys)

  pub sum_plus : (f g : A → ℕ) (xs : List A) → sum_of (λ x. f x + g x) xs ≡ sum_of f xs + sum_of g xs
  sum_plus f g [] = refl
  sum_plus f g (x ∷ xs) = omega (arith, sum_plus f g xs)

module _ {A B : Type 0} where
  pub sum_map : (f : B → ℕ) (g : A → B) (xs : List A) → sum_of f (map g xs) ≡ sum_of (λ x. f (g x)) xs
  sum_map f g [] = refl
  sum_map f g (x ∷ xs) = ap (λ (z : ℕ). f (g x) + z) (sum_map f g xs)

  pub sum_flat : (f : B → ℕ) (g : A → List B) (xs : List A) → sum_of f (flat_map g xs) ≡ sum_of (λ x. sum_of f (g x)) xs
  sum_flat f g [] = refl
  sum_flat f g (x ∷ xs) = sum_append f (g x) (flat_map g xs) ∙ ap (λ (z : ℕ). sum_of f (g x) + z) (sum_flat f g xs)

-- how many of two ranges that meet pass
pub passing_apart : (f : ℕ → Bool) (k n m : ℕ) → passing f k (n + m) ≡ passing f k n + passing f (k + n) m
passing_apart f k zero m =
    let count : 0 + m ≡ m = omega arith in
    let first : k ≡ k + 0 = omega arith in
    let none : passing f (k + 0) m ≡ 0 + passing f (k + 0) m = omega arith in
    ap (passing f k) count ∙ ap (λ (z : ℕ). passing f z m) first ∙ none
passing_apart f k (suc n) m =
    let count : suc n + m ≡ suc (n + m) = omega arith in
    let first : suc k + n ≡ k + suc n = omega arith in
    let rest : passing f (suc k) (n + m) ≡ passing f (suc k) n + passing f (k + suc n) m
    = passing_apart f (suc k) n m ∙ ap (λ (z : ℕ). passing f (suc k) n + passing f z m) first in
    ap (passing f k) count ∙ omega (arith, rest)

pub passing_all : (f : ℕ → Bool) (b : Bool) (k n : ℕ) → ((j : ℕ) → k ≤ j → j < k + n → f j ≡ b) → passing f k n ≡ n * one_if b
passing_all f b k zero all = omega arith
passing_all f b k (suc n) all =
    let here : one_if (f k) ≡ one_if b = ap one_if (all k (omega arith) (omega arith)) in
    let rest : passing f (suc k) n ≡ n * one_if b = passing_all f b (suc k) n (λ j low high. all j (omega (arith, low)) (omega (arith, high))) in
    ap (λ (z : ℕ). z + passing f (suc k) n) here ∙ ap (λ (z : ℕ). one_if b + z) rest ∙ step b
  where
    step : (c : Bool) → one_if c + n * one_if c ≡ suc n * one_if c
    step true = omega arith
    step false = omega arith

pub passing_plus : (f g h : ℕ → Bool) → ((j : ℕ) → one_if (f j) + one_if (g j) ≡ one_if (h j)) → (k n : ℕ) → passing f k n + passing g k n ≡ passing h k n
passing_plus f g h both k zero = refl
passing_plus f g h both k (suc n) = omega (arith, both k, passing_plus f g h both (suc k) n)

-- no more pass than the range has
pub passing_few : (f : ℕ → Bool) (k n : ℕ) → passing f k n ≤ n
passing_few f k zero = omega arith
passing_few f k (suc n) = go (f k) (passing_few f (suc k) n) where
  go : (b : Bool) → passing f (suc k) n ≤ n → one_if b + passing f (suc k) n ≤ suc n
  go true h = omega (arith, h)
  go false h = omega (arith, h)

-- each page has 512 doublewords
pub passing_blocks : (f : ℕ → Bool) (k n : ℕ) → passing (λ d. f (d / 512)) (512 * k) (512 * n) ≡ 512 * passing f k n
passing_blocks f k zero = refl
passing_blocks f k (suc n) =
    let count : 512 * suc n ≡ 512 + 512 * n = omega arith in
    let first : 512 * k + 512 ≡ 512 * suc k = omega arith in
    let block : passing (λ d. f (d / 512)) (512 * k) 512 ≡ 512 * one_if (f k)
    = passing_all (λ d. f (d / 512)) (f k) (512 * k) 512 (λ j low high. (let page : j / 512 ≡ k = omega (arith, low, high) in ap f page)) in
    let rest : passing (λ d. f (d / 512)) (512 * k + 512) (512 * n) ≡ 512 * passing f (suc k) n
    = ap (λ (z : ℕ). passing (λ d. f (d / 512)) z (512 * n)) first ∙ passing_blocks f (suc k) n in
    ap (passing (λ d. f (d / 512)) (512 * k)) count
    ∙ passing_apart (λ d. f (d / 512)) (512 * k) 512 (512 * n)
    ∙ ap (λ (z : ℕ). z + passing (λ d. f (d / 512)) (512 * k + 512) (512 * n)) block
    ∙ ap (λ (z : ℕ). 512 * one_if (f k) + z) rest
    ∙ joined (one_if (f k)) (passing f (suc k) n)
  where
    joined : (a b : ℕ) → 512 * a + 512 * b ≡ 512 * (a + b)
    joined a b = omega arith

-- the numbers that pass a test are those that pass one of several, of which each passes one at most
pub passing_sum : {A : Type 0} (f : ℕ → Bool) (g : A → ℕ → Bool) (xs : List A) → ((j : ℕ) → one_if (f j) ≡ sum_of (λ x. one_if (g x j)) xs)
    → (k n : ℕ) → passing f k n ≡ sum_of (λ x. passing (g x) k n) xs
passing_sum f g xs each k zero = sym (sum_none (λ x. 0) (λ x. refl) xs)
passing_sum f g xs each k (suc n) =
    ap (λ (z : ℕ). z + passing f (suc k) n) (each k)
    ∙ ap (λ (z : ℕ). sum_of (λ x. one_if (g x k)) xs + z) (passing_sum f g xs each (suc k) n)
    ∙ sym (sum_plus (λ x. one_if (g x k)) (λ x. passing (g x) (suc k) n) xs)

-- the runs have the numbers that pass
abbrev pub total : List (ℕ × ℕ) → ℕ
total xs = sum_of (λ x. x.1) xs

total_front : (k : ℕ) (xs : List (ℕ × ℕ)) → total (with_first k xs) ≡ 1 + total xs
total_front k [] = refl
total_front k (x ∷ xs) = go (x.0 == suc k) where
  go : (b : Bool) → total (if b then (k, suc x.1) ∷ xs else (k, 1) ∷ x ∷ xs) ≡ 1 + (x.1 + total xs)
  go true = omega arith
  go false = omega arith

pub runs_total : (f : ℕ → Bool) (k n : ℕ) → total (runs f k n) ≡ passing f k n
runs_total f k zero = refl
runs_total f k (suc n) = go (f k) (runs_total f (suc k) n) where
  go : (b : Bool) → total (runs f (suc k) n) ≡ passing f (suc k) n
      → total (if b then with_first k (runs f (suc k) n) else runs f (suc k) n) ≡ one_if b + passing f (suc k) n
  go true e = total_front k (runs f (suc k) n) ∙ ap (λ (z : ℕ). 1 + z) e
  go false e = omega (arith, e)
