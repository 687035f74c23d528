-- The lines of a text, read one after another by a reader that gives no answer yet.
use Rattle.std.proofs.Common.{◌≡◌, inl, inr, ℕ, ◌+◌, ◌-◌, ◌<◌, ◌≤◌, Bool, true, false, true≢false, List, [], ◌∷◌, ◌++◌, length, map, take, drop, slice_index, Some, None, Ok, Err, refl, sym, ap, subst, ◌∙◌, arith, append_assoc}
use Rattle.std.proofs.lemmas.List.{drop-drop, flat_map_more, length-drop, length-map, length_push, map_push, take-append-drop, take_more, take_all}
use Rattle.std.proofs.lemmas.Bool.{cases_lt}
use Rattle.std.specs.List.{flat_map, AllByRecursion}
use Rattle.macro_operands.specs.declared.faults.FaultKind.TheVariants as kind
use Rattle.macro_reader.specs.Columns.{Line, is_skipped, used}
use Rattle.macro_reader.specs.Scripts.{Answer, Answers, Between, Kept, IsBehind, IsPart, Mode, Part, answers_behind, awaiting, broken, dropping, gathering, lines_of, skipped, whole}
use Rattle.macro_reader.proofs.Readings.{one_reading}
use Rattle.macro_statements.specs.Requests.{asked_in}
use Rattle.script_steps.specs.Script.{NoFeed, columns, with_feed}
use Rattle.script_steps.proofs.Feeds.{each_push}
use Rattle.explain_faults.specs.Places.{card_in}
use Rattle.explain_faults.specs.declared.lines.SourceLine.{SourceLine}
use Rattle.explain_faults.specs.declared.lines.OpenLines.{OpenLines}
use Rattle.explain_why.specs.Ahead.{AreFirst, Asks, BeginsWith, Brought, HasLines, IsAhead, IsAside, IsBegun, IsReadAs, IsStatement}
use Rattle.explain_why.proofs.Cards.{card_is}
use Rattle.explain_why.specs.declared.ahead.NextStatement as ahead
use Rattle.explain_why.specs.declared.ahead.NextStatement.TheVariants as variant

-- ---- the first line

push_none : {X : Type 0} (xs : List X) (y : X) → [] ≡ xs ++ y ∷ [] → ⊥
push_none [] y e = cc
push_none (x ∷ xs) y e = cc

-- a line that is skipped has no answer
skipped_answers : (line : Line) → is_skipped line ≡ true → Answers (line ∷ []) []
skipped_answers line e = inl (skipped line ∷ [], record { each = (e, tt); split = refl; told = refl })

-- a line that leaves a statement open begins one
open_begun : (line : Line) (m : Mode) (count : ℕ) (b : Bool) → is_skipped line ≡ b → IsBehind (line ∷ []) [] (record { count = count; mode = m }) → (m ≡ awaiting → ⊥) → is_skipped line ≡ false
open_begun line m count false e h goes_on = e
open_begun line awaiting count true e h goes_on = absurd (goes_on refl)
open_begun line dropping count true e h goes_on = absurd (push_none h.between.whole_answers _ h.between.told)
open_begun line (gathering n card j c) count true e h goes_on =
    let answers : Answers (line ∷ []) (record { line = n; what = Err kind.Continuation } ∷ []) =
    inr (inr (record { whole_answers = []; number = n; card = card; joined = j; count = c; gathers = h.between; told = refl })) in
    let same = one_reading (line ∷ []) [] (record { line = n; what = Err kind.Continuation } ∷ []) (skipped_answers line e) answers in
    absurd (push_none [] (record { line = n; what = Err kind.Continuation }) same)

-- so does one that is answered
told_begun : (line : Line) (a : Answer) (m : Mode) (count : ℕ) (b : Bool) → is_skipped line ≡ b → IsBehind (line ∷ []) (a ∷ []) (record { count = count; mode = m }) → is_skipped line ≡ false
told_begun line a m count false e h = e
told_begun line a awaiting count true e h = absurd (push_none [] a (one_reading (line ∷ []) [] (a ∷ []) (skipped_answers line e) (inl h.between)))
told_begun line a dropping count true e h = absurd (push_none [] a (one_reading (line ∷ []) [] (a ∷ []) (skipped_answers line e) (inr (inl h.between))))
told_begun line a (gathering n card j c) count true e h =
    let last : Answer = record { line = n; what = Err kind.Continuation } in
    let answers : Answers (line ∷ []) (a ∷ last ∷ []) =
    inr (inr (record { whole_answers = a ∷ []; number = n; card = card; joined = j; count = c; gathers = h.between; told = refl })) in
    absurd (push_none (a ∷ []) last (one_reading (line ∷ []) [] (a ∷ last ∷ []) (skipped_answers line e) answers))

-- and the same with more lines
open_more : (lines : List Line) (line : Line) (k : Kept) → IsBegun lines → IsBehind (lines ++ line ∷ []) [] k → (k.mode ≡ awaiting → ⊥) → IsBegun (lines ++ line ∷ [])
open_more [] line k h told goes_on = open_begun line k.mode k.count (is_skipped line) refl told goes_on
open_more (l ∷ ls) line k h told goes_on = h

told_more : (lines : List Line) (line : Line) (a : Answer) (k : Kept) → IsBegun lines → IsBehind (lines ++ line ∷ []) (a ∷ []) k → IsBegun (lines ++ line ∷ [])
told_more [] line a k h told = told_begun line a k.mode k.count (is_skipped line) refl told
told_more (l ∷ ls) line a k h told = h

-- ---- a comment or an empty line

-- parts without an answer are lines that are skipped
all_skipped : (parts : List Part) (n : ℕ) → AllByRecursion IsPart parts → [] ≡ answers_behind n parts → AllByRecursion (λ l. is_skipped l ≡ true) (flat_map lines_of parts)
all_skipped [] n each e = tt
all_skipped (skipped line ∷ parts) n (is, each) e = (is, all_skipped parts (n + length (lines_of (skipped line))) each e)
all_skipped (whole line lines ∷ parts) n each e = absurd (cc)
all_skipped (broken line before at dropped ∷ parts) n each e = absurd (cc)

one_skipped : (lines : List Line) (line : Line) → IsBegun lines → AllByRecursion (λ l. is_skipped l ≡ true) (lines ++ line ∷ []) → IsAside (lines ++ line ∷ [])
one_skipped [] line begun (is, each) = (line, refl, is)
one_skipped (l ∷ ls) line begun (is, each) = absurd (true≢false (sym is ∙ begun))

aside_is : (lines : List Line) (line : Line) (k : Kept) → IsBegun lines → IsBehind (lines ++ line ∷ []) [] k → k.mode ≡ awaiting → IsAside (lines ++ line ∷ [])
aside_is lines line k begun h is =
    let read : Between awaiting (lines ++ line ∷ []) [] = subst (λ m. Between m (lines ++ line ∷ []) []) is h.between in
    one_skipped lines line begun
    (subst (AllByRecursion (λ l. is_skipped l ≡ true)) (sym read.1.split) (all_skipped read.0 0 read.1.each read.1.told))

-- ---- the lines of a text

pub none_begun : (text : List ℕ) → BeginsWith text [] text
none_begun text = record { whole = []; cut = refl; each = tt; are = refl }

empty : (xs : List ℕ) → length xs ≡ 0 → xs ≡ []
empty [] e = refl
empty (x ∷ xs) e = absurd (omega (arith, e))

-- a text is its first line, with the line feed, and the rest
first_line : (text : List ℕ) (size : ℕ) → size < length text → slice_index text size ≡ 10 → text ≡ with_feed (take size text) ++ drop (size + 1) text
first_line text size inside feed =
    sym (take-append-drop (size + 1) text)
    ∙ ap (λ x. x ++ drop (size + 1) text) (take_more text size 0 inside ∙ ap (λ c. take size text ++ c ∷ []) feed)

begins_more : (text rest : List ℕ) (lines : List Line) (size : ℕ) → BeginsWith text lines rest → size < length rest → NoFeed (take size rest) → slice_index rest size ≡ 10 →
    BeginsWith text (lines ++ columns (take size rest) ∷ []) (drop (size + 1) rest)
begins_more text rest lines size h inside plain feed =
    let line = take size rest in
    let behind = drop (size + 1) rest in
    record {
      whole = h.whole ++ line ∷ [];
      cut = h.cut ∙ ap (λ x. flat_map with_feed h.whole ++ x) (first_line rest size inside feed)
          ∙ sym (append_assoc (flat_map with_feed h.whole) (with_feed line) behind)
          ∙ ap (λ x. x ++ behind) (flat_map_more with_feed [] h.whole line);
      each = each_push NoFeed h.whole line h.each plain;
      are = ap (λ x. x ++ columns line ∷ []) h.are ∙ sym (map_push columns h.whole line);
    }

-- What is read of a text before its line of this number, which begins at this place: lines of a statement that is still
-- open.
pub record IsReadSoFar (text : List ℕ) (at next : ℕ) (places : List SourceLine) (kept : Kept) : Type 0 where
  pub lines : List Line
  pub inside : at ≤ length text
  pub first : BeginsWith text lines (drop at text)
  pub quiet : IsBehind lines [] kept
  pub begun : IsBegun lines
  pub counted : length lines + 1 ≡ next
  pub cards : map (card_in text) places ≡ map used lines

pub at_first : (text : List ℕ) (places : List SourceLine) (kept : Kept) → IsBehind [] [] kept → places ≡ [] → IsReadSoFar text 0 1 places kept
at_first text places kept h e = record {
  lines = [];
  inside = omega arith;
  first = none_begun text;
  quiet = h;
  begun = tt;
  counted = omega arith;
  cards = ap (map (card_in text)) e;
}

take_whole : (text : List ℕ) (size : ℕ) → size ≡ length text → take size text ≡ text
take_whole text size e = take_all size text (omega (arith, e))

module _ (text rest : List ℕ) (at count size : ℕ) (places : List SourceLine) (now : OpenLines) (kept new : Kept) (line : Line)
    (h : IsReadSoFar text at count places kept) (rest_is : rest ≡ drop at text) (within : size ≤ length rest) (plain : NoFeed (take size rest))
    (feed : size < length rest → slice_index rest size ≡ 10) (is : IsReadAs rest size line) (few : count ≤ 10)
    (pushed : length places ≤ 9 → now.lines.items ≡ places ++ record { number = count; start = at; end = at + size } ∷ []) where
  begins : BeginsWith text h.lines rest
  begins = subst (BeginsWith text h.lines) (sym rest_is) h.first

  counted : count ≡ length (h.lines ++ line ∷ [])
  counted = (let size = length_push h.lines line in omega (arith, h.counted, size))

  room : length places ≤ 9
  room =
      let same : length (map (card_in text) places) ≡ length (map used h.lines) = ap (λ (xs : List (List ℕ)). length xs) h.cards in
      let one = length-map places (card_in text) in
      let other = length-map h.lines used in omega (arith, h.counted, few, same, one, other)

  carded : map (card_in text) now.lines.items ≡ map used (h.lines ++ line ∷ [])
  carded =
      ap (map (card_in text)) (pushed room) ∙ map_push (card_in text) places _
      ∙ ap (λ xs. xs ++ card_in text (record { number = count; start = at; end = at + size }) ∷ []) h.cards
      ∙ ap (λ (c : List ℕ). map used h.lines ++ c ∷ []) (card_is text at size count h.inside line (subst (λ (r : List ℕ). size ≤ length r) rest_is within) (subst (λ (r : List ℕ). IsReadAs r size line) rest_is is)) ∙ sym (map_push used h.lines line)

  -- the lines with this one, and what follows them
  fed : size < length rest → BeginsWith text (h.lines ++ line ∷ []) (drop (size + 1) rest)
  fed inside =
      subst (λ l. BeginsWith text (h.lines ++ l ∷ []) (drop (size + 1) rest)) (sym (is.0 inside))
      (begins_more text rest h.lines size begins inside plain (feed inside))

  ended : size ≡ length rest → HasLines text (h.lines ++ line ∷ [])
  ended at_end = record {
    front = h.lines;
    last = rest;
    begins = begins;
    plain = subst NoFeed (take_whole rest size at_end) plain;
    are = ap (λ l. h.lines ++ l ∷ []) (is.1 at_end);
  }

  stands : (behind : List ℕ) × AreFirst text (h.lines ++ line ∷ []) behind
  stands = elim (cases_lt size (length rest)) [
    | inl inside ↦ (drop (size + 1) rest, inl (fed inside))
    | inr beyond ↦ ([], inr (ended (omega (arith, within, beyond)), refl))
  ]

  answered : (a : Answer) → IsBehind (h.lines ++ line ∷ []) (a ∷ []) new → IsStatement (h.lines ++ line ∷ []) a.what
  answered a b = record {
    front = h.lines;
    last = line;
    split = refl;
    begun = told_more h.lines line a new h.begun b;
    quiet = (kept, h.quiet);
    told = (a.line, new, b);
  }

  told_by : (asked : ahead.NextStatement) → Asks (h.lines ++ line ∷ []) stands.0 asked → IsAhead text (record { asked = asked; lines = count; places = now })
  told_by asked asks = record {
    lines = h.lines ++ line ∷ [];
    behind = stands.0;
    first = stands.1;
    some = omega (arith, h.counted);
    count = counted;
    asks = asks;
    cards = carded;
  }

  -- The line ends the statement;
  pub told_ahead : (asked : ahead.NextStatement) → Brought (h.lines ++ line ∷ []) new (Some asked) → IsAhead text (record { asked = asked; lines = count; places = now })
  told_ahead (variant.Request request) ((n, b), valid) =
      told_by (variant.Request request) (answered (record { line = n; what = Ok (asked_in request) }) b, valid)
  told_ahead (variant.Fault kind) (n, b) = told_by (variant.Fault kind) (answered (record { line = n; what = Err kind }) b)
  told_ahead variant.Open b = absurd b
  told_ahead variant.Aside (b, is) = told_by variant.Aside (aside_is h.lines line new h.begun b is)

  still_open : (behind : List ℕ) → AreFirst text (h.lines ++ line ∷ []) behind → behind ≡ [] → Brought (h.lines ++ line ∷ []) new None →
      IsAhead text (record { asked = variant.Open; lines = count; places = now })
  still_open behind first none (b, goes_on) = record {
    lines = h.lines ++ line ∷ [];
    behind = behind;
    first = first;
    some = omega (arith, h.counted);
    count = counted;
    asks = record { begun = open_more h.lines line new h.begun b goes_on; quiet = (new, b); ends = inl none };
    cards = carded;
  }

  -- or it's open after the last line, without a line feed or with one;
  pub open_at_end : length rest ≤ size → Brought (h.lines ++ line ∷ []) new None → IsAhead text (record { asked = variant.Open; lines = count; places = now })
  open_at_end beyond b = still_open [] (inr (ended (omega (arith, within, beyond)), refl)) refl b

  next_is : drop (size + 1) rest ≡ drop (at + (size + 1)) text
  next_is = ap (drop (size + 1)) rest_is ∙ drop-drop (size + 1) at text

  size_of : length rest ≡ length text - at
  size_of = ap (λ (r : List ℕ). length r) rest_is ∙ length-drop at text

  pub open_at_feed : size < length rest → length text ≤ at + (size + 1) → Brought (h.lines ++ line ∷ []) new None →
      IsAhead text (record { asked = variant.Open; lines = count; places = now })
  open_at_feed inside beyond b =
      let none : length (drop (size + 1) rest) ≡ 0 = omega (arith, length-drop (size + 1) rest, size_of, beyond) in
      still_open (drop (size + 1) rest) (inl (fed inside)) (empty (drop (size + 1) rest) none) b

  -- or it goes on.
  pub reads_more : size < length rest → at + (size + 1) < length text → Brought (h.lines ++ line ∷ []) new None →
      IsReadSoFar text (at + (size + 1)) (count + 1) now.lines.items new
  reads_more inside more (b, goes_on) = record {
    lines = h.lines ++ line ∷ [];
    inside = omega (arith, more);
    first = subst (BeginsWith text (h.lines ++ line ∷ [])) next_is (fed inside);
    quiet = b;
    begun = open_more h.lines line new h.begun b goes_on;
    counted = omega (arith, counted);
    cards = carded;
  }

-- Ten lines are open.
pub open_ten : (text : List ℕ) (at next : ℕ) (places : OpenLines) (kept : Kept) → next ≡ 11 → IsReadSoFar text at next places.lines.items kept →
    IsAhead text (record { asked = variant.Open; lines = 10; places = places })
open_ten text at next places kept eleven h = record {
  lines = h.lines;
  behind = drop at text;
  first = inl h.first;
  some = omega arith;
  count = omega (arith, h.counted, eleven);
  asks = record { begun = h.begun; quiet = (kept, h.quiet); ends = inr (omega (arith, h.counted, eleven)) };
  cards = h.cards;
}
