-- Tallies of runs, one run after the other, and of those that trees of runs sum up.
use Rattle.std.proofs.Common.{◌≡◌, ℕ, zero, suc, ◌+◌, ◌<◌, ◌≤◌, ◌⊎◌, inl, inr, Bool, true, false, nat_lt, if◌then◌else◌, List, [], ◌∷◌, ◌++◌, length, Option, Some, None, refl, sym, ap, ◌∙◌, arith}
use Rattle.std.specs.Prelude.{◌^◌, max, slice_get}
use Rattle.std.proofs.lemmas.Bool.{ltb-true, ltb-false}
use Rattle.run_set.specs.Runs.{Run}
use Rattle.run_set.specs.Sums.{low_runs, high_runs, IsFirstLongest, IsSumsOf}
use Rattle.run_set.specs.Sums as sums
use Rattle.run_set.specs.declared.sums.Sums.{Sums}
use Rattle.run_set.proofs.RunLemmas.{le_or_lt}
use Rattle.run_set.proofs.SumLemmas.{both_numbers, both_lengths}
use Rattle.explain_report.specs.declared.tallies.Tally.{Tally}
use Rattle.explain_report.specs.Tallies.{no_runs, with_run, with_runs, tally_of, with_tally, numbers_in, TalliesAreOfRuns}

-- what a tally comes to with runs more
pub total_of : (t : Tally) (rs : List Run) → (with_runs t rs).total ≡ t.total + numbers_in rs
total_of t [] = omega arith
total_of t (r ∷ rs) = (let k : (with_runs (with_run t r) rs).total ≡ t.total + r.len + numbers_in rs = total_of (with_run t r) rs in omega (arith, k))

pub count_of : (t : Tally) (rs : List Run) → (with_runs t rs).count ≡ t.count + length rs
count_of t [] = omega arith
count_of t (r ∷ rs) = (let k : (with_runs (with_run t r) rs).count ≡ t.count + 1 + length rs = count_of (with_run t r) rs in omega (arith, k))

grows : (t : Tally) (rs : List Run) → t.longest ≤ (with_runs t rs).longest
grows t [] = omega arith
grows t (r ∷ rs) = (let k : max t.longest r.len ≤ (with_runs (with_run t r) rs).longest = grows (with_run t r) rs in omega (arith, k))

most_of : (t : Tally) (rs : List Run) (i : ℕ) (r : Run) → slice_get rs i ≡ Some r → r.len ≤ (with_runs t rs).longest
most_of t [] i r e = absurd (let no : ◌≡◌ {A = Option Run} None (Some r) = e in cc)
most_of t (q ∷ rs) zero r e =
    let is : q ≡ r = cc in
    let len : q.len ≡ r.len = ap (λ (x : Run). x.len) is in
    let k : max t.longest q.len ≤ (with_runs (with_run t q) rs).longest = grows (with_run t q) rs in
    omega (arith, k, len)
most_of t (q ∷ rs) (suc i) r e = most_of (with_run t q) rs i r e

abbrev Found : Tally → List Run → Tally → Type 0
Found t rs u =
    ((u.longest ≡ t.longest) × (u.at ≡ t.at)) ⊎ ((i : ℕ) × (slice_get rs i ≡ Some (record { start = u.at; len = u.longest })))

-- the longest run is that which was the longest, or one of those more
found : (t : Tally) (rs : List Run) → Found t rs (with_runs t rs)
found t [] = inl (refl, refl)
found t (r ∷ rs) = go (nat_lt t.longest r.len) refl (found (with_run t r) rs) where
  go : (b : Bool) → nat_lt t.longest r.len ≡ b → Found (with_run t r) rs (with_runs (with_run t r) rs) → Found t (r ∷ rs) (with_runs (with_run t r) rs)
  go b e (inr (i, h)) = inr (suc i, h)
  go true e (inl (f, g)) =
      let less : t.longest < r.len = ltb-true t.longest r.len e in
      let len : r.len ≡ (with_runs (with_run t r) rs).longest = omega (arith, f, less) in
      let at : r.start ≡ (with_runs (with_run t r) rs).at = sym (g ∙ ap (λ (b : Bool). if b then r.start else t.at) e) in
      inr (0, ap (λ (x : ℕ). Some (record { start = x; len = r.len })) at ∙ ap (λ (x : ℕ). Some (record { start = (with_runs (with_run t r) rs).at; len = x })) len)
  go false e (inl (f, g)) =
      let less : r.len ≤ t.longest = ltb-false t.longest r.len e in
      inl (omega (arith, f, less), g ∙ ap (λ (b : Bool). if b then r.start else t.at) e)

pub tallies_are_of_runs : TalliesAreOfRuns
tallies_are_of_runs rs = record {
  total = (let k = total_of no_runs rs in omega (arith, k));
  count = (let k = count_of no_runs rs in omega (arith, k));
  most = most_of no_runs rs;
  reached = λ some. elim (found no_runs rs) [
    | inl (e, f) ↦ absurd (omega (arith, e, some))
    | inr h ↦ h
  ];
}

-- runs and then others
pub with_append : (t : Tally) (xs ys : List Run) → with_runs (with_runs t xs) ys ≡ with_runs t (xs ++ ys)
with_append t [] ys = refl
with_append t (x ∷ xs) ys = with_append (with_run t x) xs ys

-- ---- what some runs come to is their tally

not_longer : (t : Tally) (r : Run) → r.len ≤ t.longest → (with_run t r).at ≡ t.at
not_longer t r l = go (nat_lt t.longest r.len) refl where
  go : (b : Bool) → nat_lt t.longest r.len ≡ b → (if b then r.start else t.at) ≡ t.at
  go true e = absurd (omega (arith, l, ltb-true t.longest r.len e))
  go false e = refl

longer : (t : Tally) (r : Run) → t.longest < r.len → (with_run t r).at ≡ r.start
longer t r l = go (nat_lt t.longest r.len) refl where
  go : (b : Bool) → nat_lt t.longest r.len ≡ b → (if b then r.start else t.at) ≡ r.start
  go true e = refl
  go false e = absurd (omega (arith, l, ltb-false t.longest r.len e))

-- runs that are no longer change neither the longest nor where it is,
stays : (t : Tally) (rs : List Run) → ((j : ℕ) (q : Run) → slice_get rs j ≡ Some q → q.len ≤ t.longest) → ((with_runs t rs).longest ≡ t.longest) × ((with_runs t rs).at ≡ t.at)
stays t [] most = (refl, refl)
stays t (r ∷ rs) most =
    let le : r.len ≤ t.longest = most 0 r refl in
    let rest = stays (with_run t r) rs (λ j q e. (let k : q.len ≤ t.longest = most (suc j) q e in omega (arith, k))) in
    let same : max t.longest r.len ≡ t.longest = omega (arith, le) in
    (rest.0 ∙ same, rest.1 ∙ not_longer t r le)

-- and else both are those of the first longest one
first_counts : (t : Tally) (rs : List Run) (i start len : ℕ) → t.longest < len → IsFirstLongest rs i start len → ((j : ℕ) (q : Run) → slice_get rs j ≡ Some q → q.len ≤ len)
    → ((with_runs t rs).longest ≡ len) × ((with_runs t rs).at ≡ start)
first_counts t [] i start len l h most = absurd (let no : ◌≡◌ {A = Option Run} None (Some (record { start = start; len = len })) = h.is in cc)
first_counts t (r ∷ rs) zero start len l h most =
    let e : ◌≡◌ {A = Option Run} (Some r) (Some (record { start = start; len = len })) = h.is in
    let is : ◌≡◌ {A = Run} r (record { start = start; len = len }) = cc in
    let long : r.len ≡ len = ap (λ (x : Run). x.len) is in
    let at : r.start ≡ start = ap (λ (x : Run). x.start) is in
    let rest = stays (with_run t r) rs (λ j q e. (let k : q.len ≤ len = most (suc j) q e in omega (arith, k, long))) in
    let same : max t.longest r.len ≡ len = omega (arith, long, l) in
    (rest.0 ∙ same, rest.1 ∙ longer t r (omega (arith, long, l)) ∙ at)
first_counts t (r ∷ rs) (suc i) start len l h most =
    let small : r.len < len = h.before 0 r (omega arith) refl in
    first_counts (with_run t r) rs i start len (omega (arith, l, small)) (record { is = h.is; before = λ j q m e. h.before (suc j) q (omega (arith, m)) e }) (λ j q e. most (suc j) q e)

numbers_are : (rs : List Run) → sums.numbers_in rs ≡ numbers_in rs
numbers_are [] = refl
numbers_are (r ∷ rs) = ap (λ (n : ℕ). r.len + n) (numbers_are rs)

pub tally_is : (rs : List Run) (s : Sums) → IsSumsOf rs s → record { total = s.total; count = s.count; longest = s.longest; at = s.at } ≡ tally_of rs
tally_is rs s h = go (le_or_lt s.longest 0) where
  total : s.total ≡ (tally_of rs).total
  total = (let k = total_of no_runs rs in omega (arith, k, h.total, numbers_are rs))

  count : s.count ≡ (tally_of rs).count
  count = (let k = count_of no_runs rs in omega (arith, k, h.count))

  is : ((tally_of rs).longest ≡ s.longest) × ((tally_of rs).at ≡ s.at) → record { total = s.total; count = s.count; longest = s.longest; at = s.at } ≡ tally_of rs
  is (long, at) = λ i. record { total = total i; count = count i; longest = sym long i; at = sym at i }

  go : (s.longest ≤ 0) ⊎ (0 < s.longest) → record { total = s.total; count = s.count; longest = s.longest; at = s.at } ≡ tally_of rs
  go (inl p) =
      let none : s.longest ≡ 0 = omega (arith, p) in
      let stay = stays no_runs rs (λ j q e. (let k : q.len ≤ s.longest = h.most j q e in omega (arith, k, none))) in
      is (stay.0 ∙ sym none, stay.1 ∙ sym (h.none none))
  go (inr p) = (let f : (i : ℕ) × IsFirstLongest rs i s.at s.longest = h.first p in is (first_counts no_runs rs f.0 s.at s.longest p f.1 h.most))

-- ---- runs and those of another tally

at_step : (a b c x y z : ℕ) → (if nat_lt (max a b) c then z else (if nat_lt a b then y else x)) ≡ (if nat_lt a (max b c) then (if nat_lt b c then z else y) else x)
at_step a b c x y z = go (nat_lt (max a b) c) (nat_lt a b) (nat_lt a (max b c)) (nat_lt b c) refl refl refl refl where
  go : (p q r s : Bool) → nat_lt (max a b) c ≡ p → nat_lt a b ≡ q → nat_lt a (max b c) ≡ r → nat_lt b c ≡ s
      → (if p then z else (if q then y else x)) ≡ (if r then (if s then z else y) else x)
  go true q true true e f g h = refl
  go true q true false e f g h = absurd (omega (arith, ltb-true (max a b) c e, ltb-false b c h))
  go true q false s e f g h = absurd (omega (arith, ltb-true (max a b) c e, ltb-false a (max b c) g))
  go false true true true e f g h = absurd (omega (arith, ltb-false (max a b) c e, ltb-true a b f, ltb-true b c h))
  go false true true false e f g h = refl
  go false true false s e f g h = absurd (omega (arith, ltb-true a b f, ltb-false a (max b c) g))
  go false false true s e f g h = absurd (omega (arith, ltb-false (max a b) c e, ltb-false a b f, ltb-true a (max b c) g))
  go false false false s e f g h = refl

one_more : (t u : Tally) (r : Run) → with_run (with_tally t u) r ≡ with_tally t (with_run u r)
one_more t u r =
    let total : t.total + u.total + r.len ≡ t.total + (u.total + r.len) = omega arith in
    let count : t.count + u.count + 1 ≡ t.count + (u.count + 1) = omega arith in
    let longest : max (max t.longest u.longest) r.len ≡ max t.longest (max u.longest r.len) = omega arith in
    let at = at_step t.longest u.longest r.len t.at u.at r.start in
    λ i. record { total = total i; count = count i; longest = longest i; at = at i }

more_behind : (t u : Tally) (rs : List Run) → with_runs (with_tally t u) rs ≡ with_tally t (with_runs u rs)
more_behind t u [] = refl
more_behind t u (r ∷ rs) = ap (λ (x : Tally). with_runs x rs) (one_more t u r) ∙ more_behind t (with_run u r) rs

none_behind : (t : Tally) → with_tally t no_runs ≡ t
none_behind t =
    let total : t.total + 0 ≡ t.total = omega arith in
    let count : t.count + 0 ≡ t.count = omega arith in
    let longest : max t.longest 0 ≡ t.longest = omega arith in
    λ i. record { total = total i; count = count i; longest = longest i; at = at (nat_lt t.longest 0) refl i } where
      at : (b : Bool) → nat_lt t.longest 0 ≡ b → (if b then 0 else t.at) ≡ t.at
      at true e = absurd (omega (arith, ltb-true t.longest 0 e))
      at false e = refl

-- the tally of some runs joined to another is that of all, one run after the other
pub joined : (t : Tally) (rs : List Run) → with_tally t (tally_of rs) ≡ with_runs t rs
joined t rs = sym (more_behind t no_runs rs) ∙ ap (λ (x : Tally). with_runs x rs) (none_behind t)

pub both_joined : (line : ℕ) (t low high : Tally) (rs : List Run) → low ≡ tally_of (low_runs line rs) → high ≡ tally_of (high_runs line rs) → low_runs line rs ++ high_runs line rs ≡ rs
    → with_tally (with_tally t low) high ≡ with_runs t rs
both_joined line t low high rs e f order =
    ap (λ (x : Tally). with_tally (with_tally t x) high) e
    ∙ ap (λ (x : Tally). with_tally x high) (joined t (low_runs line rs))
    ∙ ap (λ (x : Tally). with_tally (with_runs t (low_runs line rs)) x) f
    ∙ joined (with_runs t (low_runs line rs)) (high_runs line rs)
    ∙ with_append t (low_runs line rs) (high_runs line rs)
    ∙ ap (λ (xs : List Run). with_runs t xs) order

-- there is room for both
pub room_for_both : (line : ℕ) (t low high : Tally) (rs : List Run) → low ≡ tally_of (low_runs line rs) → high ≡ tally_of (high_runs line rs)
    → t.total + numbers_in rs < 2 ^ 32 → t.count + length rs < 2 ^ 32 → (t.total + low.total + high.total < 2 ^ 32) × (t.count + low.count + high.count < 2 ^ 32)
room_for_both line t low high rs e f few fewer =
    let lt : low.total ≡ numbers_in (low_runs line rs) = ap (λ (x : Tally). x.total) e ∙ (let k = total_of no_runs (low_runs line rs) in omega (arith, k)) in
    let ht : high.total ≡ numbers_in (high_runs line rs) = ap (λ (x : Tally). x.total) f ∙ (let k = total_of no_runs (high_runs line rs) in omega (arith, k)) in
    let lc : low.count ≡ length (low_runs line rs) = ap (λ (x : Tally). x.count) e ∙ (let k = count_of no_runs (low_runs line rs) in omega (arith, k)) in
    let hc : high.count ≡ length (high_runs line rs) = ap (λ (x : Tally). x.count) f ∙ (let k = count_of no_runs (high_runs line rs) in omega (arith, k)) in (
      omega (arith, few, lt, ht, both_numbers line rs, numbers_are rs, numbers_are (low_runs line rs), numbers_are (high_runs line rs)),
      omega (arith, fewer, lc, hc, both_lengths line rs),
    )
