-- What a session took, with some further bytes or another line feed.
use Rattle.std.proofs.Common.{◌≡◌, ◌≢◌, ℕ, zero, suc, ◌+◌, ◌-◌, ◌<◌, ◌≤◌, min, List, [], ◌∷◌, ◌++◌, length, take, drop, get_or, refl, arith, ap, ◌∙◌, sym, append_assoc, inl, inr}
use Rattle.std.proofs.lemmas.Bool.{cases_lt}
use Rattle.std.proofs.lemmas.List.{take_all, length-take-le, length-append, length_push, take-append-le, append-nil, flat_map_more}
use Rattle.std.proofs.Math.Seq.{take-append-add}
use Rattle.std.specs.List.{flat_map, AllByRecursion}
use Rattle.vsm_model.specs.declared.limits.Settings.{Settings}
use Rattle.script_steps.specs.Output.{Marked}
use Rattle.script_steps.specs.Script.{NoFeed, Within, IsLine, with_feed}
use Rattle.script_steps.specs.Taken.{Took, PassesBound}
use Rattle.script_steps.specs.declared.session.Session.{Session}
use Rattle.script_steps.proofs.Feeds.{each_push, each_append}

take_min : (n : ℕ) (xs : List ℕ) → take (min (length xs) n) xs ≡ take n xs
take_min n xs = elim (cases_lt (length xs) n) [
  | inl less ↦
      let shorter : min (length xs) n ≡ length xs = omega arith in
      ap (λ k. take k xs) shorter ∙ take_all (length xs) xs (omega arith) ∙ sym (take_all n xs (omega arith))
  | inr more ↦
      let shorter : min (length xs) n ≡ n = omega arith in
      ap (λ k. take k xs) shorter
]

-- the first 80 bytes of a line, with more bytes after it
pub kept_more : (line kept bytes : List ℕ) → kept ≡ take 80 line → kept ++ take (min (length bytes) (80 - length kept)) bytes ≡ take 80 (line ++ bytes)
kept_more line kept bytes e = elim (cases_lt (length line) 80) [
  | inl less ↦
      let same : kept ≡ line = e ∙ take_all 80 line (omega arith) in
      let whole : length line + (80 - length line) ≡ 80 = omega arith in
      ap (λ k. k ++ take (min (length bytes) (80 - length k)) bytes) same
      ∙ ap (λ t. line ++ t) (take_min (80 - length line) bytes)
      ∙ sym (take-append-add line bytes (80 - length line))
      ∙ ap (λ n. take n (line ++ bytes)) whole
  | inr more ↦
      let full : length kept ≡ 80 = ap length e ∙ length-take-le 80 line more in
      let none : min (length bytes) (80 - length kept) ≡ 0 = omega (arith, full) in
      ap (λ n. kept ++ take n bytes) none ∙ append-nil kept ∙ e ∙ sym (take-append-le 80 line bytes more)
]

each_take : {X : Type 0} (P : X → Type 0) (n : ℕ) (xs : List X) → AllByRecursion P xs → AllByRecursion P (take n xs)
each_take P zero xs h = tt
each_take P (suc n) [] h = tt
each_take P (suc n) (x ∷ xs) h = (h.0, each_take P n xs h.1)

each_at : {X : Type 0} (P : X → Type 0) (xs : List X) (n : ℕ) (d : X) → n < length xs → AllByRecursion P xs → P (get_or xs n d)
each_at P [] n d inside h = absurd (omega arith)
each_at P (x ∷ xs) zero d inside h = h.0
each_at P (x ∷ xs) (suc n) d inside h = each_at P xs n d (omega arith) h.1

split_at : {X : Type 0} (xs : List X) (n : ℕ) (d : X) → n < length xs → xs ≡ take n xs ++ get_or xs n d ∷ drop (suc n) xs
split_at [] n d inside = absurd (omega arith)
split_at (x ∷ xs) zero d inside = refl
split_at (x ∷ xs) (suc n) d inside = ap (λ ys. x ∷ ys) (split_at xs n d (omega arith))

pub within_more : (given : List ℕ) (lines : List (List ℕ)) (rest bytes : List ℕ) → Within given lines rest → NoFeed bytes → length lines < 1048576 →
    length rest + length bytes ≤ 65536 → Within (given ++ bytes) lines (rest ++ bytes)
within_more given lines rest bytes h plain room short = record {
  cut = ap (λ x. x ++ bytes) h.cut ∙ append_assoc (flat_map with_feed lines) rest bytes;
  each = h.each;
  unended = (each_append (λ c. c ≢ 10) rest bytes h.unended.0 plain, simp length-append short);
  few = h.few;
  room = λ _. room;
}

pub within_feed : (given : List ℕ) (lines : List (List ℕ)) (rest : List ℕ) → Within given lines rest → length lines < 1048576 →
    Within (given ++ 10 ∷ []) (lines ++ rest ∷ []) []
within_feed given lines rest h room = record {
  cut = ap (λ x. x ++ 10 ∷ []) h.cut ∙ append_assoc (flat_map with_feed lines) rest (10 ∷ [])
      ∙ flat_map_more with_feed [] lines rest ∙ sym (append-nil (flat_map with_feed (lines ++ rest ∷ [])));
  each = each_push IsLine lines rest h.each h.unended;
  unended = (tt, omega arith);
  few = simp length_push (omega arith);
  room = λ none. absurd (omega arith);
}

module _ (settings : Settings) (given : List ℕ) (answers : List Marked) (s : Session) (h : Took settings given answers s) where
  -- a byte at a place where no line may follow
  pub past_lines : (bytes behind : List ℕ) → 0 < length bytes → 1048576 ≤ s.lines → PassesBound settings ((given ++ bytes) ++ behind) answers
  past_lines [] behind some full = absurd (omega arith)
  past_lines (b ∷ bytes) behind some full = record {
    front = given;
    byte = b;
    more = bytes ++ behind;
    split = append_assoc given (b ∷ bytes) behind;
    lines = h.lines;
    rest = h.rest;
    within = h.within;
    past = inl (omega (arith, h.count, h.within.few));
    told = (s.reader, h.told);
    met = h.led.met;
  }

  -- a byte that makes the line too long
  pub past_length : (bytes behind : List ℕ) → NoFeed bytes → s.lines < 1048576 → 65536 - s.length < length bytes →
      PassesBound settings ((given ++ bytes) ++ behind) answers
  past_length bytes behind plain room long =
      let n = 65536 - s.length in
      let byte = get_or bytes n 0 in
      let count = h.within.unended.1 in
      let size : length (take n bytes) ≡ n = length-take-le n bytes (omega arith) in
      let total : length h.rest + length (take n bytes) ≡ 65536 = omega (arith, size, h.long, count) in
      record {
        front = given ++ take n bytes;
        byte = byte;
        more = drop (suc n) bytes ++ behind;
        split = ap (λ x. (given ++ x) ++ behind) (split_at bytes n 0 long)
            ∙ append_assoc given (take n bytes ++ byte ∷ drop (suc n) bytes) behind
            ∙ ap (λ x. given ++ x) (append_assoc (take n bytes) (byte ∷ drop (suc n) bytes) behind)
            ∙ sym (append_assoc given (take n bytes) (byte ∷ (drop (suc n) bytes ++ behind)));
        lines = h.lines;
        rest = h.rest ++ take n bytes;
        within = within_more given h.lines h.rest (take n bytes) h.within (each_take (λ c. c ≢ 10) n bytes plain) (omega (arith, h.count)) (omega (arith, total));
        past = inr (each_at (λ c. c ≢ 10) bytes n 0 long plain, length-append h.rest (take n bytes) ∙ total);
        told = (s.reader, h.told);
        met = h.led.met;
      }
