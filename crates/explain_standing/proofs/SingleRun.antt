-- Sets of one run, or of none.
use Rattle.std.proofs.Common.{◌≡◌, ℕ, zero, suc, ◌+◌, ◌-◌, ◌<◌, ◌≤◌, Bool, true, false, if◌then◌else◌, [], ◌∷◌, refl, ap, ◌∙◌, arith}
use Rattle.std.proofs.lemmas.Bool.{eq-eqb}
use Rattle.vsm_model.specs.Regions.{among}
use Rattle.vsm_model.specs.Runs.{runs, with_first}
use Rattle.explain_standing.specs.Newly.{run_of}

pub no_runs : (f : ℕ → Bool) (first n : ℕ) → ((k : ℕ) → first ≤ k → k < first + n → f k ≡ false) → runs f first n ≡ []
no_runs f first zero none = refl
no_runs f first (suc n) none =
    ap (λ b. if b then with_first first (runs f (suc first) n) else runs f (suc first) n) (none first (omega arith) (omega arith))
    ∙ no_runs f (suc first) n (λ k from to. none k (omega (arith, from)) (omega (arith, to)))

-- a run at the front
front_run : (f : ℕ → Bool) (first c b : ℕ) → ((k : ℕ) → first ≤ k → k < first + suc c → f k ≡ true) → ((k : ℕ) → first + suc c ≤ k → f k ≡ false) →
    runs f first (suc c + b) ≡ (first, suc c) ∷ []
front_run f first zero b all none =
    ap (λ n. runs f first n) (let e : suc zero + b ≡ suc b = omega arith in e)
    ∙ ap (λ t. if t then with_first first (runs f (suc first) b) else runs f (suc first) b) (all first (omega arith) (omega arith))
    ∙ ap (with_first first) (no_runs f (suc first) b (λ k from to. none k (omega (arith, from))))
front_run f first (suc c) b all none =
    ap (λ n. runs f first n) (let e : suc (suc c) + b ≡ suc (suc c + b) = omega arith in e)
    ∙ ap (λ t. if t then with_first first (runs f (suc first) (suc c + b)) else runs f (suc first) (suc c + b)) (all first (omega arith) (omega arith))
    ∙ ap (with_first first) (front_run f (suc first) c b (λ k from to. all k (omega (arith, from)) (omega (arith, to))) (λ k from. none k (omega (arith, from))))
    ∙ ap (λ t. if t then (first, suc (suc c)) ∷ [] else (first, 1) ∷ (suc first, suc c) ∷ []) (eq-eqb (suc first) (suc first) refl)

-- and after others
later_run : (f : ℕ → Bool) (first a c b start : ℕ) → start ≡ first + a → ((k : ℕ) → k < start → f k ≡ false) → ((k : ℕ) → start ≤ k → k < start + suc c → f k ≡ true) →
    ((k : ℕ) → start + suc c ≤ k → f k ≡ false) → runs f first (a + (suc c + b)) ≡ (start, suc c) ∷ []
later_run f first zero c b start is before all none =
    let same : first ≡ start = omega (arith, is) in
    ap (λ n. runs f first n) (let e : 0 + (suc c + b) ≡ suc c + b = omega arith in e)
    ∙ ap (λ n. runs f n (suc c + b)) same ∙ front_run f start c b all none
later_run f first (suc a) c b start is before all none =
    ap (λ n. runs f first n) (let e : suc a + (suc c + b) ≡ suc (a + (suc c + b)) = omega arith in e)
    ∙ ap (λ t. if t then with_first first (runs f (suc first) (a + (suc c + b))) else runs f (suc first) (a + (suc c + b))) (before first (omega (arith, is)))
    ∙ later_run f (suc first) a c b start (omega (arith, is)) before all none

pub is_among : (first count k : ℕ) → first ≤ k → k < first + count → among first count k ≡ true
is_among first count k from to = grind arith

pub is_before : (first count k : ℕ) → k < first → among first count k ≡ false
is_before first count k to = grind arith

pub is_past : (first count k : ℕ) → first + count ≤ k → among first count k ≡ false
is_past first count k from = grind arith

-- The runs of a set that has exactly these numbers.
pub one_run : (f : ℕ → Bool) (first count top : ℕ) → ((k : ℕ) → f k ≡ among first count k) → first + count ≤ top → runs f 0 top ≡ run_of first count
one_run f first zero top is within = no_runs f 0 top (λ k from to. is k ∙ none k) where
  none : (k : ℕ) → among first 0 k ≡ false
  none k = grind arith
one_run f first (suc c) top is within =
    let b = top - first - suc c in
    ap (runs f 0) (let e : top ≡ first + (suc c + b) = omega (arith, within) in e)
    ∙ later_run f 0 first c b first (omega arith) (λ k to. is k ∙ is_before first (suc c) k to) (λ k from to. is k ∙ is_among first (suc c) k from to)
    (λ k from. is k ∙ is_past first (suc c) k from)
