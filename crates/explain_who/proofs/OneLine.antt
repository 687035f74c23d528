-- A statement over its lines, line by line.
use Rattle.std.proofs.Common.{◌≡◌, ℕ, zero, suc, ◌+◌, ◌-◌, ◌<◌, ◌==◌, Bool, true, false, not, cond, if◌then◌else◌, List, [], ◌∷◌, length, drop, min, Option, Some, None, refl, sym, ap, ◌∙◌, arith}
use Rattle.std.specs.List.{position_or_len}
use Rattle.std.proofs.lemmas.List.{drop_min}
use Rattle.macro_reader.specs.Columns.{is_continued}
use Rattle.macro_reader.specs.Continuation.{Joined, with_line, with_lines}
use Rattle.explain_who.specs.OneLine.{card_here, further_cards, is_feed, line_here}
use Rattle.explain_who.specs.ScriptLines.{after_feed}

past : (b : Bool) (c n : ℕ) (cs rest : List ℕ) → rest ≡ drop (suc n) cs → (if b then cs else rest) ≡ drop (suc (cond (not b) (1 + n) 0)) (c ∷ cs)
past true c n cs rest is = refl
past false c n cs rest is = (let more : suc n ≡ 1 + n = omega arith in is ∙ ap (λ k. drop k cs) more)

-- What follows the first line feed.
feed_past : (bytes : List ℕ) → after_feed bytes ≡ drop (suc (position_or_len is_feed bytes)) bytes
feed_past [] = refl
feed_past (c ∷ cs) = past (c == 10) c (position_or_len is_feed cs) cs (after_feed cs) (feed_past cs)

pub after_is : (bytes : List ℕ) (end from : ℕ) → end ≡ position_or_len is_feed bytes → from ≡ min (end + 1) (length bytes) → drop from bytes ≡ after_feed bytes
after_is bytes end from is least =
    let next : end + 1 ≡ suc end = omega arith in
    ap (λ k. drop k bytes) least ∙ drop_min (end + 1) bytes ∙ ap (λ k. drop k bytes) next ∙ ap (λ k. drop (suc k) bytes) is ∙ sym (feed_past bytes)

-- The lines after one that isn't continued,
pub no_more : (n : ℕ) (line : List ℕ) (j : Joined) → is_continued (line_here line) ≡ false → with_lines j (further_cards n line) ≡ Some j
no_more zero line j last = refl
no_more (suc n) line j last =
    ap (λ b. with_lines j (if b then card_here (after_feed line) ∷ further_cards n (after_feed line) else [])) last

-- and after one that is: the field with the next one, and the others.
module _ (n : ℕ) (line : List ℕ) (j : Joined) (card : List ℕ) (more : is_continued (line_here line) ≡ true) (is : card ≡ card_here (after_feed line)) where
  next : with_lines j (further_cards (suc n) line) ≡ with_lines j (card ∷ further_cards n (after_feed line))
  next =
      ap (λ b. with_lines j (if b then card_here (after_feed line) ∷ further_cards n (after_feed line) else [])) more
      ∙ ap (λ c. with_lines j (c ∷ further_cards n (after_feed line))) (sym is)

  pub one_more_line : (k : Joined) → with_line j card ≡ Some k → with_lines j (further_cards (suc n) line) ≡ with_lines k (further_cards n (after_feed line))
  one_more_line k h = next ∙ ap (λ (r : Option Joined). elim r [ None ↦ None | Some m ↦ with_lines m (further_cards n (after_feed line)) ]) h

  pub broken_line : with_line j card ≡ None → with_lines j (further_cards (suc n) line) ≡ None
  broken_line h = next ∙ ap (λ (r : Option Joined). elim r [ None ↦ None | Some m ↦ with_lines m (further_cards n (after_feed line)) ]) h

-- The field with a line that was taken and those that are left is the whole one, if it was so with that line.
module _ (line next card : List ℕ) (i : ℕ) (j : Joined) (whole : Option Joined) (short : i < 9) (more : is_continued (line_here line) ≡ true) (follows : next ≡ after_feed line)
    (is : card ≡ card_here next) (before : with_lines j (further_cards (9 - i) line) ≡ whole) where
  size : 9 - i ≡ suc (9 - (i + 1))
  size = omega (arith, short)

  here : card ≡ card_here (after_feed line)
  here = is ∙ ap card_here follows

  pub line_taken : (k : Joined) → with_line j card ≡ Some k → with_lines k (further_cards (9 - (i + 1)) next) ≡ whole
  line_taken k h =
      ap (λ l. with_lines k (further_cards (9 - (i + 1)) l)) follows
      ∙ sym (one_more_line (9 - (i + 1)) line j card more here k h)
      ∙ ap (λ n. with_lines j (further_cards n line)) (sym size)
      ∙ before

  pub line_broken : with_line j card ≡ None → None ≡ whole
  line_broken h =
      sym (broken_line (9 - (i + 1)) line j card more here h) ∙ ap (λ n. with_lines j (further_cards n line)) (sym size) ∙ before

pub all_taken : (n : ℕ) (line : List ℕ) (j : Joined) (whole : Option Joined) → n ≡ 0 → with_lines j (further_cards n line) ≡ whole → Some j ≡ whole
all_taken n line j whole none before = ap (λ m. with_lines j (further_cards m line)) (sym none) ∙ before

pub last_taken : (n : ℕ) (line : List ℕ) (j : Joined) (whole : Option Joined) → is_continued (line_here line) ≡ false → with_lines j (further_cards n line) ≡ whole → Some j ≡ whole
last_taken n line j whole last before = sym (no_more n line j last) ∙ before
