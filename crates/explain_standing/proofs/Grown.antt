-- How much more is taken when an area is.
use Rattle.std.proofs.Common.{◌≡◌, ◌⊎◌, ℕ, zero, suc, ◌+◌, ◌-◌, ◌*◌, ◌/◌, ◌<◌, ◌≤◌, ◌^◌, Bool, true, false, ◌&&◌, ◌||◌, is_some, refl, sym, ap, ◌∙◌, arith, inl, inr}
use Rattle.vsm_model.specs.declared.limits.Settings.{Settings}
use Rattle.vsm_model.specs.Map.{taken_doublewords, total_bytes}
use Rattle.vsm_model.specs.Regions.{Region, among, within, low_region, high_region, settings_valid}
use Rattle.vsm_model.specs.Search.{passing}
use Rattle.vsm_model.specs.State.{State}
use Rattle.storage_changes.proofs.MapSums.{one_if, passing_apart, passing_all, passing_plus}
use Rattle.explain_standing.specs.Newly.{grown}
use Rattle.explain_standing.proofs.SingleRun.{is_among, is_before, is_past}

abbrev pub TakenInPages : State → Type 0
TakenInPages s = (d : ℕ) → s.taken d ≡ true → is_some (s.pages (d / 512)) ≡ true

in_page : (s : State) → TakenInPages s → (d : ℕ) → (is_some (s.pages (d / 512)) && s.taken d) ≡ s.taken d
in_page s sound d = go (s.taken d) refl where
  go : (b : Bool) → s.taken d ≡ b → (is_some (s.pages (d / 512)) && b) ≡ b
  go true e = ap (λ c. c && true) (sound d e)
  go false e = and_false (is_some (s.pages (d / 512))) where
    and_false : (b : Bool) → (b && false) ≡ false
    and_false true = refl
    and_false false = refl

-- numbers of an area among those of a range
count_none : (a n k m : ℕ) → ((j : ℕ) → k ≤ j → j < k + m → among a n j ≡ false) → passing (among a n) k m ≡ 0
count_none a n k m none = passing_all (among a n) false k m none ∙ zero_times m where
  zero_times : (m : ℕ) → m * 0 ≡ 0
  zero_times m = omega arith

count_all : (a n k m : ℕ) → k ≤ a → a + n ≤ k + m → passing (among a n) k m ≡ n
count_all a n k m from to =
    let front = a - k in
    let back = k + m - a - n in
    let size : m ≡ front + (n + back) = omega (arith, from, to) in
    let at : k + front ≡ a = omega (arith, from) in
    let ones : n * 1 ≡ n = omega arith in
    let none = count_none a n k front (λ j low high. is_before a n j (omega (arith, high, at))) in
    let all : passing (among a n) (k + front) n ≡ n = passing_all (among a n) true (k + front) n (λ j low high. is_among a n j (omega (arith, low, at)) (omega (arith, high, at))) ∙ ones in
    let rest = count_none a n (k + front + n) back (λ j low high. is_past a n j (omega (arith, low, at))) in
    let first = passing_apart (among a n) k front (n + back) in
    let second = passing_apart (among a n) (k + front) n back in
    ap (passing (among a n) k) size ∙ omega (arith, first, second, none, all, rest)

from_among : (first count k : ℕ) → among first count k ≡ true → first ≤ k
from_among first count k e = grind arith

to_among : (first count k : ℕ) → among first count k ≡ true → k < first + count
to_among first count k e = grind arith

nothing : (a k : ℕ) → among a 0 k ≡ false
nothing a k = grind arith

-- the region below the line ends before the one above it begins
low_ends : (settings : Settings) → settings_valid settings ≡ true → (low_region settings).first + (low_region settings).count ≤ (high_region settings).first
low_ends settings valid = grind arith

by_eight : (y n : ℕ) → n ≤ 2 ^ 28 → grown (8 * y) (8 * (y + n)) ≡ n
by_eight y n small = omega (arith, small)

module _ (settings : Settings) (s t : State) (a n : ℕ) (valid : settings_valid settings ≡ true) (sound : TakenInPages s) (sound_on : TakenInPages t)
    (was : (d : ℕ) → among a n d ≡ true → s.taken d ≡ false) (is : (d : ℕ) → t.taken d ≡ (among a n d || s.taken d)) where
  both : (d : ℕ) → one_if (is_some (s.pages (d / 512)) && s.taken d) + one_if (among a n d) ≡ one_if (is_some (t.pages (d / 512)) && t.taken d)
  both d =
      ap (λ b. one_if b + one_if (among a n d)) (in_page s sound d)
      ∙ go (among a n d) refl
      ∙ ap one_if (sym (is d) ∙ sym (in_page t sound_on d)) where
        go : (b : Bool) → among a n d ≡ b → one_if (s.taken d) + one_if b ≡ one_if (b || s.taken d)
        go true e = ap (λ c. one_if c + 1) (was d e)
        go false e = omega arith

  more : (r : Region) → taken_doublewords s true r + passing (among a n) (512 * r.first) (512 * r.count) ≡ taken_doublewords t true r
  more r =
      passing_plus (λ d. is_some (s.pages (d / 512)) && s.taken d) (among a n) (λ d. is_some (t.pages (d / 512)) && t.taken d) both (512 * r.first) (512 * r.count)

  -- its numbers in the region that has it, and in the other one
  in_region : (r : Region) → ((d : ℕ) → among a n d ≡ true → within r (d / 512) ≡ true) → passing (among a n) (512 * r.first) (512 * r.count) ≡ n
  in_region r one = go n refl where
    go : (m : ℕ) → n ≡ m → passing (among a n) (512 * r.first) (512 * r.count) ≡ n
    go zero e = count_none a n (512 * r.first) (512 * r.count) (λ j low high. ap (λ k. among a k j) e ∙ nothing a j) ∙ sym e
    go (suc m) e =
        let first = from_among r.first r.count (a / 512) (one a (is_among a n a (omega arith) (omega (arith, e)))) in
        let last = to_among r.first r.count ((a + m) / 512) (one (a + m) (is_among a n (a + m) (omega arith) (omega (arith, e)))) in
        count_all a n (512 * r.first) (512 * r.count) (omega (arith, first)) (omega (arith, last, e))

  in_other : (r q : Region) → (r.first + r.count ≤ q.first) ⊎ (q.first + q.count ≤ r.first) → ((d : ℕ) → among a n d ≡ true → within r (d / 512) ≡ true) →
      passing (among a n) (512 * q.first) (512 * q.count) ≡ 0
  in_other r q apart one = count_none a n (512 * q.first) (512 * q.count) (λ j low high. go j low high (among a n j) refl) where
    go : (j : ℕ) → 512 * q.first ≤ j → j < 512 * q.first + 512 * q.count → (b : Bool) → among a n j ≡ b → among a n j ≡ false
    go j low high false e = e
    go j low high true e =
        let first = from_among r.first r.count (j / 512) (one j e) in
        let last = to_among r.first r.count (j / 512) (one j e) in
        elim apart [
          | inl before ↦ absurd (omega (arith, before, last, low))
          | inr after ↦ absurd (omega (arith, after, first, high))
        ]

  -- the area lies in the region below the line, or above it
  pub grown_low : n ≤ 2 ^ 28 → ((d : ℕ) → among a n d ≡ true → within (low_region settings) (d / 512) ≡ true) → grown (total_bytes settings s true) (total_bytes settings t true) ≡ n
  grown_low small one =
      let below = in_region (low_region settings) one in
      let above = in_other (low_region settings) (high_region settings) (inl (low_ends settings valid)) one in
      let low = more (low_region settings) in
      let high = more (high_region settings) in
      let sum : taken_doublewords t true (low_region settings) + taken_doublewords t true (high_region settings)
      ≡ taken_doublewords s true (low_region settings) + taken_doublewords s true (high_region settings) + n = omega (arith, low, high, below, above) in
      ap (λ x. grown (total_bytes settings s true) (8 * x)) sum
      ∙ by_eight (taken_doublewords s true (low_region settings) + taken_doublewords s true (high_region settings)) n small

  pub grown_high : n ≤ 2 ^ 28 → ((d : ℕ) → among a n d ≡ true → within (high_region settings) (d / 512) ≡ true) → grown (total_bytes settings s true) (total_bytes settings t true) ≡ n
  grown_high small one =
      let above = in_region (high_region settings) one in
      let below = in_other (high_region settings) (low_region settings) (inr (low_ends settings valid)) one in
      let low = more (low_region settings) in
      let high = more (high_region settings) in
      let sum : taken_doublewords t true (low_region settings) + taken_doublewords t true (high_region settings)
      ≡ taken_doublewords s true (low_region settings) + taken_doublewords s true (high_region settings) + n = omega (arith, low, high, below, above) in
      ap (λ x. grown (total_bytes settings s true) (8 * x)) sum
      ∙ by_eight (taken_doublewords s true (low_region settings) + taken_doublewords s true (high_region settings)) n small
