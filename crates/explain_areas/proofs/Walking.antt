-- A walk over the runs of a set.
use Rattle.std.proofs.Common.{◌≡◌, ℕ, zero, suc, ◌+◌, ◌<◌, ◌≤◌, Bool, true, false, ◌||◌, List, [], ◌∷◌, Option, Some, None, drop, length, refl, sym, ap, subst, ◌∙◌, arith}
use Rattle.std.specs.Prelude.{nat_lt, slice_get}
use Rattle.run_set.specs.Runs.{Run, inside, contains, Spaced, AreRunsOf}
use Rattle.explain_areas.specs.Ahead.{IsAhead, IsNext}

-- a number is in a run, or isn't
is_inside : (n : ℕ) (r : Run) → r.start ≤ n → n < r.start + r.len → inside n r ≡ true
is_inside n r from to = grind arith

is_before : (n : ℕ) (r : Run) → n < r.start → inside n r ≡ false
is_before n r to = grind arith

is_past : (n : ℕ) (r : Run) → r.start + r.len ≤ n → inside n r ≡ false
is_past n r from = grind arith

lower : (low high : ℕ) (rs : List Run) → low ≤ high → Spaced high rs → Spaced low rs
lower low high [] less s = tt
lower low high (r ∷ rs) less (from, some, end, more) = (omega (arith, less, from), some, end, more)

none_below : (low n : ℕ) (rs : List Run) → Spaced low rs → n < low → contains n rs ≡ false
none_below low n [] s less = refl
none_below low n (r ∷ rs) (from, some, end, more) less =
    (λ i. is_before n r (omega (arith, less, from)) i || contains n rs) ∙ none_below (r.start + r.len + 1) n rs more (omega (arith, less, from))

none_after : (n : ℕ) (r : Run) (rs : List Run) → Spaced (r.start + r.len + 1) rs → n < r.start + r.len + 1 → contains n rs ≡ false
none_after n r rs more less = none_below (r.start + r.len + 1) n rs more less

module _ (set : ℕ → Bool) where
  pub all_ahead : (rs : List Run) → AreRunsOf rs set → IsAhead set rs 0
  all_ahead rs are = record { spaced = are.spaced; holds = λ n from. are.holds n }

  pub none_left : (low n : ℕ) → IsAhead set [] low → low ≤ n → set n ≡ false
  none_left low n ahead from = sym (ahead.holds n from)

  module _ (r : Run) (rs : List Run) (low : ℕ) (ahead : IsAhead set (r ∷ rs) low) where
    pub begins : low ≤ r.start
    begins = ahead.spaced.0

    pub is_some : r.start < r.start + r.len
    is_some = let some = ahead.spaced.1 in omega (arith, some)

    -- before the next run, in it and directly after it
    pub before_next : (n : ℕ) → low ≤ n → n < r.start → set n ≡ false
    before_next n from to =
        sym (ahead.holds n from) ∙ (λ i. is_before n r to i || contains n rs)
        ∙ none_after n r rs ahead.spaced.3 (omega (arith, to))

    pub in_next : (n : ℕ) → r.start ≤ n → n < r.start + r.len → set n ≡ true
    in_next n from to = let at = begins in sym (ahead.holds n (omega (arith, at, from))) ∙ (λ i. is_inside n r from to i || contains n rs)

    pub past_next : set (r.start + r.len) ≡ false
    past_next =
        let at = begins in
        sym (ahead.holds (r.start + r.len) (omega (arith, at))) ∙ (λ i. is_past (r.start + r.len) r (omega arith) i || contains (r.start + r.len) rs)
        ∙ none_after (r.start + r.len) r rs ahead.spaced.3 (omega arith)

    pub others_ahead : IsAhead set rs (r.start + r.len)
    others_ahead = record {
      spaced = lower (r.start + r.len) (r.start + r.len + 1) rs (omega arith) ahead.spaced.3;
      holds = λ n from. let at = begins in sym (λ i. is_past n r from i || contains n rs) ∙ ahead.holds n (omega (arith, at, from));
    }

  -- A walk goes on where none is in the set.
  pub later : (rs : List Run) (low high : ℕ) → IsAhead set rs low → low ≤ high → ((n : ℕ) → low ≤ n → n < high → set n ≡ false) → IsAhead set rs high
  later [] low high ahead on none = record { spaced = tt; holds = λ n from. ahead.holds n (omega (arith, on, from)) }
  later (r ∷ rs) low high ahead on none = record {
    spaced = (starts (nat_lt r.start high) refl, ahead.spaced.1, ahead.spaced.2, ahead.spaced.3);
    holds = λ n from. ahead.holds n (omega (arith, on, from));
  } where
    starts : (b : Bool) → nat_lt r.start high ≡ b → high ≤ r.start
    starts true e =
        let no : true ≡ false = sym (in_next r rs low ahead r.start (omega arith) (is_some r rs low ahead)) ∙ none r.start (begins r rs low ahead) (grind (arith, e)) in absurd (cc)
    starts false e = grind (arith, e)

-- what is left of a list from an index on
drop_at : (all : List Run) (i : ℕ) (r : Run) → slice_get all i ≡ Some r → drop i all ≡ r ∷ drop (i + 1) all
drop_at [] i r e = absurd (let no : ◌≡◌ {A = Option Run} None (Some r) = e in cc)
drop_at (x ∷ all) zero r e = let is : x ≡ r = cc in ap (λ y. y ∷ all) is
drop_at (x ∷ all) (suc i) r e = drop_at all i r e ∙ ap (λ k. r ∷ drop k (x ∷ all)) (let next : suc (i + 1) ≡ suc i + 1 = omega arith in next)

drop_past : (all : List Run) (i : ℕ) → slice_get all i ≡ None → drop i all ≡ []
drop_past [] zero e = refl
drop_past [] (suc i) e = refl
drop_past (x ∷ all) zero e = absurd (let no : ◌≡◌ {A = Option Run} (Some x) None = e in cc)
drop_past (x ∷ all) (suc i) e = drop_past all i e

module _ (set : ℕ → Bool) (all : List Run) (i low : ℕ) (ahead : IsAhead set (drop i all) low) where
  pub next_of : (r : Run) → slice_get all i ≡ Some r → IsNext set low r
  next_of r got =
      let here : IsAhead set (r ∷ drop (i + 1) all) low = subst (λ rs. IsAhead set rs low) (drop_at all i r got) ahead in
      record {
        from = begins set r (drop (i + 1) all) low here;
        some = is_some set r (drop (i + 1) all) low here;
        before = before_next set r (drop (i + 1) all) low here;
        within = in_next set r (drop (i + 1) all) low here;
        past = past_next set r (drop (i + 1) all) low here;
      }

  pub others_of : (r : Run) → slice_get all i ≡ Some r → IsAhead set (drop (i + 1) all) (r.start + r.len)
  others_of r got = others_ahead set r (drop (i + 1) all) low (subst (λ rs. IsAhead set rs low) (drop_at all i r got) ahead)

  pub none_of : slice_get all i ≡ None → (n : ℕ) → low ≤ n → set n ≡ false
  none_of got n from = none_left set low n (subst (λ rs. IsAhead set rs low) (drop_past all i got) ahead) from

  pub on_to : (high : ℕ) → low ≤ high → ((n : ℕ) → low ≤ n → n < high → set n ≡ false) → IsAhead set (drop i all) high
  on_to high on none = later set (drop i all) low high ahead on none

pub in_list : (all : List Run) (i : ℕ) (r : Run) → slice_get all i ≡ Some r → i < length all
in_list [] i r e = absurd (let no : ◌≡◌ {A = Option Run} None (Some r) = e in cc)
in_list (x ∷ all) zero r e = omega arith
in_list (x ∷ all) (suc i) r e = let h = in_list all i r e in omega (arith, h)
