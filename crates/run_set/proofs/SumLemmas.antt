-- The sums of the runs from a place to before another, and of those on a side of a line.
use Rattle.std.proofs.Common.{◌≡◌, ℕ, zero, suc, ◌+◌, ◌-◌, ◌%◌, ◌^◌, ◌<◌, ◌≤◌, ◌⊎◌, inl, inr, Bool, true, false, nat_lt, if◌then◌else◌, max, List, [], ◌∷◌, ◌++◌, length, take, drop, get_or, Some, refl, sym, ap, ◌∙◌, arith, subst}
use Rattle.std.specs.Prelude.{slice_get}
use Rattle.std.proofs.lemmas.Bool.{ltb-true, ltb-false}
use Rattle.std.proofs.lemmas.List.{length-take, length-drop, get_or-take, get_or-drop, take-append-drop, take-take, drop-take, take_rest}
use Rattle.std.proofs.lemmas.Option.{slice_get_within, slice_get-get_or, get_or_from_slice_get}
use Rattle.run_tree.specs.declared.run.Run.{Run}
use Rattle.run_tree.specs.declared.tree.FoundRun.{FoundRun}
use Rattle.run_tree.specs.Shape.{total, room_of}
use Rattle.run_tree.specs.Searches.{none, run_at, FindsRuns, RoomsTo, IsMost}
use Rattle.run_tree.proofs.ShapeLemmas.{total-append}
use Rattle.run_set.specs.Runs.{Spaced}
use Rattle.run_set.specs.Sums.{numbers_in, low_runs, high_runs, IsFirstLongest, IsSumsOf, IsSidesOf}
use Rattle.run_set.specs.declared.sums.Sums.{Sums}
use Rattle.run_set.proofs.RunLemmas.{le_or_lt}
use Rattle.run_set.proofs.RoomLemmas.{apart_at, some_at}

-- the sides of a line

low_here : (line : ℕ) (z : Run) (zs : List Run) → z.start < line → (low_runs line (z ∷ zs) ≡ z ∷ low_runs line zs) × (high_runs line (z ∷ zs) ≡ high_runs line zs)
low_here line z zs l = go (nat_lt z.start line) refl where
  go : (b : Bool) → nat_lt z.start line ≡ b
      → ((if b then z ∷ low_runs line zs else low_runs line zs) ≡ z ∷ low_runs line zs) × ((if b then high_runs line zs else z ∷ high_runs line zs) ≡ high_runs line zs)
  go true e = (refl, refl)
  go false e = absurd (omega (arith, ltb-false z.start line e, l))

high_here : (line : ℕ) (z : Run) (zs : List Run) → line ≤ z.start → (low_runs line (z ∷ zs) ≡ low_runs line zs) × (high_runs line (z ∷ zs) ≡ z ∷ high_runs line zs)
high_here line z zs l = go (nat_lt z.start line) refl where
  go : (b : Bool) → nat_lt z.start line ≡ b
      → ((if b then z ∷ low_runs line zs else low_runs line zs) ≡ low_runs line zs) × ((if b then high_runs line zs else z ∷ high_runs line zs) ≡ z ∷ high_runs line zs)
  go true e = absurd (omega (arith, ltb-true z.start line e, l))
  go false e = (refl, refl)

all_high : (line low : ℕ) (zs : List Run) → Spaced low zs → line ≤ low → (low_runs line zs ≡ []) × (high_runs line zs ≡ zs)
all_high line low [] h l = (refl, refl)
all_high line low (z ∷ zs) h l =
    let here = high_here line z zs (omega (arith, h.0, l)) in
    let rest = all_high line (z.start + z.len + 1) zs h.3 (omega (arith, h.0, l)) in
    (here.0 ∙ rest.0, here.1 ∙ ap (λ (rs : List Run). z ∷ rs) rest.1)

-- those before a place begin before the line, and the one at it doesn't
sides_at : (line low : ℕ) (zs : List Run) (k : ℕ) → Spaced low zs → k ≤ length zs → ((j : ℕ) → j < k → (run_at zs j).start < line) → (k < length zs → line ≤ (run_at zs k).start)
    → (low_runs line zs ≡ take k zs) × (high_runs line zs ≡ drop k zs)
sides_at line low [] zero h within before here = (refl, refl)
sides_at line low [] (suc k) h within before here = absurd (omega (arith, within))
sides_at line low (z ∷ zs) zero h within before here =
    let l : line ≤ z.start = here (omega arith) in
    all_high line z.start (z ∷ zs) (omega arith, h.1, h.2, h.3) l
sides_at line low (z ∷ zs) (suc k) h within before here =
    let first = low_here line z zs (before 0 (omega arith)) in
    let rest = sides_at line (z.start + z.len + 1) zs k h.3 (omega (arith, within)) (λ j l. before (suc j) (omega (arith, l))) (λ l. here (omega (arith, l))) in
    (first.0 ∙ ap (λ (rs : List Run). z ∷ rs) rest.0, first.1 ∙ rest.1)

module _ (zs : List Run) (sound : Spaced 0 zs) (line : ℕ) (end : Run) (starts : end.start ≡ line) (f : FoundRun) (found : FindsRuns line end end zs f) where
  before_place : (j : ℕ) → j < f.index → (run_at zs j).start < line
  before_place j l = go (le_or_lt (f.index - 1) j) where
    last : (run_at zs (f.index - 1)).start + (run_at zs (f.index - 1)).len ≤ line
    last = found.seeks.before (omega (arith, l))

    go : (f.index - 1 ≤ j) ⊎ (j < f.index - 1) → (run_at zs j).start < line
    go (inl p) =
        let e : f.index - 1 ≡ j = omega (arith, p, l) in
        let some : 0 < (run_at zs j).len = some_at 0 zs j sound (omega (arith, l, found.seeks.within)) in
        let P : ℕ → Type 0 = λ i. (run_at zs i).start + (run_at zs i).len ≤ line in
        let q : (run_at zs j).start + (run_at zs j).len ≤ line = subst P e last in
        omega (arith, q, some)
    go (inr p) = omega (arith, last, apart_at 0 zs j (f.index - 1) sound p (omega (arith, l, found.seeks.within)))

  -- if the run at the place doesn't begin before the line
  pub sides_here : line ≤ f.behind.start → (low_runs line zs ≡ take f.index zs) × (high_runs line zs ≡ drop f.index zs)
  sides_here high = sides_at line 0 zs f.index sound found.seeks.within before_place
      (λ low. (let e : f.behind.start ≡ (run_at zs f.index).start = ap (λ (r : Run). r.start) (found.next low) in omega (arith, e, high)))

  -- and if it does: then there is one
  pub is_there : f.behind.start < line → f.index < length zs
  is_there low = go (le_or_lt (length zs) f.index) where
    go : (length zs ≤ f.index) ⊎ (f.index < length zs) → f.index < length zs
    go (inr p) = p
    go (inl p) = absurd (let e : f.behind.start ≡ end.start = ap (λ (r : Run). r.start) (found.end p) in omega (arith, e, starts, low))

  pub sides_behind : f.behind.start < line → (low_runs line zs ≡ take (f.index + 1) zs) × (high_runs line zs ≡ drop (f.index + 1) zs)
  sides_behind low = sides_at line 0 zs (f.index + 1) sound (omega (arith, is_there low)) before here where
    at : f.behind.start ≡ (run_at zs f.index).start
    at = ap (λ (r : Run). r.start) (found.next (is_there low))

    before : (j : ℕ) → j < f.index + 1 → (run_at zs j).start < line
    before j l = go (le_or_lt f.index j) where
      go : (f.index ≤ j) ⊎ (j < f.index) → (run_at zs j).start < line
      go (inl p) =
          let e : f.index ≡ j = omega (arith, p, l) in
          let P : ℕ → Type 0 = λ i. (run_at zs i).start < line in
          let here : (run_at zs f.index).start < line = omega (arith, at, low) in
          subst P e here
      go (inr p) = before_place j p

    here : f.index + 1 < length zs → line ≤ (run_at zs (f.index + 1)).start
    here l =
        let ends : line < (run_at zs f.index).start + (run_at zs f.index).len = found.seeks.behind (is_there low) in
        omega (arith, ends, apart_at 0 zs f.index (f.index + 1) sound (omega arith) l)

-- how many numbers there are

pub numbers_are : (zs : List Run) → numbers_in zs ≡ total zs
numbers_are [] = refl
numbers_are (z ∷ zs) = ap (λ (n : ℕ). z.len + n) (numbers_are zs)

few_from : (low : ℕ) (zs : List Run) → Spaced low zs → low + total zs ≤ max low (2 ^ 29)
few_from low [] h = omega arith
few_from low (z ∷ zs) h = omega (arith, h.0, h.1, h.2, few_from (z.start + z.len + 1) zs h.3)

parts_of : (zs : List Run) (from to : ℕ) → from ≤ to → total (take to zs) ≡ total (take from zs) + total (take (to - from) (drop from zs))
parts_of zs from to l =
    let e : from + (to - from) ≡ to = omega (arith, l) in
    let first : take from (take to zs) ≡ take from zs = take-take from to zs l in
    let rest : drop from (take to zs) ≡ take (to - from) (drop from zs) = ap (λ (n : ℕ). drop from (take n zs)) (sym e) ∙ drop-take from (to - from) zs in
    ap total (sym (take-append-drop from (take to zs)))
    ∙ total-append (take from (take to zs)) (drop from (take to zs))
    ∙ ap (λ (rs : List Run). total rs + total (drop from (take to zs))) first
    ∙ ap (λ (rs : List Run). total (take from zs) + total rs) rest

-- what a word holds of them is all of them
pub word_is : (zs : List Run) → Spaced 0 zs → (k n : ℕ) → n ≡ total (take k zs) % 2 ^ 32 → n ≡ total (take k zs)
word_is zs h k n e =
    let all : total zs ≡ total (take k zs) + total (drop k zs) = ap total (sym (take-append-drop k zs)) ∙ total-append (take k zs) (drop k zs) in
    let few : 0 + total zs ≤ max 0 (2 ^ 29) = few_from 0 zs h in
    omega (arith, e, all, few)

-- the sums of the runs from a place to before another

abbrev pub part : List Run → ℕ → ℕ → List Run
part zs from to = take (to - from) (drop from zs)

length-part : (zs : List Run) (from to : ℕ) → from ≤ to → to ≤ length zs → length (part zs from to) ≡ to - from
length-part zs from to l m = omega (arith, length-take (to - from) (drop from zs), length-drop from zs, l, m)

part_at : (zs : List Run) (from to j : ℕ) → j < to - from → get_or (part zs from to) j none ≡ run_at zs (from + j)
part_at zs from to j l = get_or-take (to - from) (drop from zs) j none l ∙ get_or-drop from zs j none

pub no_sums : (zs : List Run) (from to : ℕ) → from ≡ to → IsSumsOf (part zs from to) (record { total = 0; count = 0; longest = 0; at = 0 })
no_sums zs from to e =
    let n : to - from ≡ 0 = omega (arith, e) in
    let none : [] ≡ part zs from to = sym (ap (λ (k : ℕ). take k (drop from zs)) n) in
    let P : List Run → Type 0 = λ rs. IsSumsOf rs (record { total = 0; count = 0; longest = 0; at = 0 }) in
    subst P none (record { total = refl; count = refl; most = λ j r q. absurd (past j r q); first = λ some. absurd (omega (arith, some)); none = λ q. refl }) where
      past : (j : ℕ) (r : Run) → slice_get [] j ≡ Some r → ⊥
      past j r q = let k : j < 0 = slice_get_within [] j r q in omega (arith, k)

module _ (zs : List Run) (sound : Spaced 0 zs) (from to : ℕ) (low : from < to) (within : to ≤ length zs) (most : ℕ) (is_most : IsMost (room_of false) zs from to most) where
  some : 0 < most
  some =
      let here : (run_at zs from).len ≤ most = is_most.greatest from (omega arith) low in
      omega (arith, here, some_at 0 zs from sound (omega (arith, low, within)))

  module _ (first : ℕ) (is_first : RoomsTo (room_of false) zs from most first) where
    pub before_end : first < to
    before_end = go (is_most.reached some) where
      go : (i : ℕ) × (from ≤ i) × (i < to) × ((run_at zs i).len ≡ most) → first < to
      go (i, p, q, e) = at (le_or_lt first i) where
        at : (first ≤ i) ⊎ (i < first) → first < to
        at (inl l) = omega (arith, l, q)
        at (inr l) = absurd (let less : (run_at zs i).len < most = is_first.none_before i p l in omega (arith, less, e))

    module _ (run : Run) (is : slice_get zs first ≡ Some run) where
      run_is : run_at zs first ≡ run
      run_is = get_or_from_slice_get zs first run none is

      as_long : run.len ≡ most
      as_long =
          let e : (run_at zs first).len ≡ run.len = ap (λ (r : Run). r.len) run_is in
          let enough : most ≤ (run_at zs first).len = is_first.there (omega (arith, before_end, within)) in
          let no_more : (run_at zs first).len ≤ most = is_most.greatest first is_first.low before_end in
          omega (arith, e, enough, no_more)

      in_part : (j : ℕ) (r : Run) → slice_get (part zs from to) j ≡ Some r → (j < to - from) × (run_at zs (from + j) ≡ r)
      in_part j r e =
          let l : j < to - from = omega (arith, slice_get_within (part zs from to) j r e, length-part zs from to (omega (arith, low)) within) in
          (l, sym (part_at zs from to j l) ∙ get_or_from_slice_get (part zs from to) j r none e)

      longest : IsFirstLongest (part zs from to) (first - from) run.start most
      longest = record {
        is =
            let l : first - from < to - from = omega (arith, is_first.low, before_end) in
            let e : from + (first - from) ≡ first = omega (arith, is_first.low) in
            slice_get-get_or (part zs from to) (first - from) none (omega (arith, l, length-part zs from to (omega (arith, low)) within))
            ∙ ap Some (part_at zs from to (first - from) l ∙ ap (λ (i : ℕ). run_at zs i) e ∙ run_is ∙ ap (λ (n : ℕ). record { start = run.start; len = n }) as_long);
        before = λ j r l e. (let p = in_part j r e in
            let is : (run_at zs (from + j)).len ≡ r.len = ap (λ (x : Run). x.len) p.1 in
            let less : (run_at zs (from + j)).len < most = is_first.none_before (from + j) (omega arith) (omega (arith, l)) in
            omega (arith, is, less));
      }

      pub sums_are : (before all : ℕ) → before ≡ total (take from zs) % 2 ^ 32 → all ≡ total (take to zs) % 2 ^ 32
          → IsSumsOf (part zs from to) (record { total = all - before; count = to - from; longest = most; at = run.start })
      sums_are before all b a = record {
        total = omega (arith, numbers_are (part zs from to), parts_of zs from to (omega (arith, low)), word_is zs sound from before b, word_is zs sound to all a);
        count = sym (length-part zs from to (omega (arith, low)) within);
        most = λ j r e. (let p = in_part j r e in
            let is : (run_at zs (from + j)).len ≡ r.len = ap (λ (x : Run). x.len) p.1 in
            let no_more : (run_at zs (from + j)).len ≤ most = is_most.greatest (from + j) (omega arith) (omega (arith, p.0)) in
            omega (arith, is, no_more));
        first = λ more. (first - from, longest);
        none = λ e. absurd (omega (arith, e, some));
      }

pub no_less : (zs : List Run) → Spaced 0 zs → (from to before all : ℕ) → from ≤ to → before ≡ total (take from zs) % 2 ^ 32 → all ≡ total (take to zs) % 2 ^ 32 → before ≤ all
no_less zs h from to before all l b a = omega (arith, parts_of zs from to l, word_is zs h from before b, word_is zs h to all a)

-- both sides together

pub both_numbers : (line : ℕ) (zs : List Run) → numbers_in (low_runs line zs) + numbers_in (high_runs line zs) ≡ numbers_in zs
both_numbers line [] = refl
both_numbers line (z ∷ zs) = go (nat_lt z.start line) (both_numbers line zs) where
  go : (b : Bool) → numbers_in (low_runs line zs) + numbers_in (high_runs line zs) ≡ numbers_in zs
      → numbers_in (if b then z ∷ low_runs line zs else low_runs line zs) + numbers_in (if b then high_runs line zs else z ∷ high_runs line zs) ≡ z.len + numbers_in zs
  go true e = omega (arith, e)
  go false e = omega (arith, e)

pub both_lengths : (line : ℕ) (zs : List Run) → length (low_runs line zs) + length (high_runs line zs) ≡ length zs
both_lengths line [] = refl
both_lengths line (z ∷ zs) = go (nat_lt z.start line) (both_lengths line zs) where
  go : (b : Bool) → length (low_runs line zs) + length (high_runs line zs) ≡ length zs
      → length (if b then z ∷ low_runs line zs else low_runs line zs) + length (if b then high_runs line zs else z ∷ high_runs line zs) ≡ suc (length zs)
  go true e = omega (arith, e)
  go false e = omega (arith, e)

-- the sums of the runs before a place and of those from it on are those of both sides
pub are_sides : (line : ℕ) (zs : List Run) (k n : ℕ) (low high : Sums) → k ≤ n → length zs ≡ n → low_runs line zs ≡ take k zs → high_runs line zs ≡ drop k zs
    → IsSumsOf (take (k - 0) (drop 0 zs)) low → IsSumsOf (take (n - k) (drop k zs)) high → IsSidesOf line zs (record { low = low; high = high })
are_sides line zs k n low high l len lows highs a b =
    let P : Sums → List Run → Type 0 = λ s rs. IsSumsOf rs s in
    let same : k - 0 ≡ k = omega arith in
    let front : take (k - 0) (drop 0 zs) ≡ low_runs line zs = ap (λ (j : ℕ). take j zs) same ∙ sym lows in
    let rest : take (n - k) (drop k zs) ≡ high_runs line zs = ap (λ (j : ℕ). take (j - k) (drop k zs)) (sym len) ∙ take_rest zs k ∙ sym highs in
    record {
      low = subst (P low) front a;
      high = subst (P high) rest b;
      order = ap (λ (rs : List Run). rs ++ high_runs line zs) lows ∙ ap (λ (rs : List Run). take k zs ++ rs) highs ∙ take-append-drop k zs;
    }
