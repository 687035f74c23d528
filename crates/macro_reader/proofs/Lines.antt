-- One more line: what a reader was fed, and what it answered.
use Rattle.std.proofs.Common.{◌≡◌, ◌≢◌, ℕ, ◌+◌, ◌-◌, ◌^◌, ◌≤◌, ◌==◌, min, map, Bool, true, false, List, [], ◌∷◌, ◌++◌, length, Option, Some, None, Result, Err, refl, ap, sym, ◌∙◌, append_assoc, arith, inl, inr, add_assoc, zero-add, add-zero, eqb-true}
use Rattle.std.proofs.lemmas.Bool.{eqb-false}
use Rattle.std.specs.List.{flat_map, AllByRecursion}
use Rattle.std.proofs.lemmas.List.{flat_map_more, length_push, length-append, append-nil, map_push}
use Rattle.macro_reader.specs.Columns.{Line, used, is_continued, is_skipped}
use Rattle.macro_reader.specs.Continuation.{Joined, begun, with_line, with_lines}
use Rattle.macro_statements.specs.Requests.{Asked}
use Rattle.macro_statements.specs.Statements.{statement_with}
use Rattle.macro_operands.specs.declared.faults.FaultKind.{FaultKind}
use Rattle.macro_operands.specs.declared.faults.FaultKind.TheVariants as kind
use Rattle.macro_reader.specs.Scripts.{Answer, number_behind, IsDropping, Part, skipped, whole, broken, IsPart, IsGroup, IsBreak, AllContinued, said_by, lines_of, answer_to, answers_behind, Reads, Gathers, Drops, Between, Mode, awaiting, dropping, gathering, idle_with, gathered_with, behind_break, moved, Kept, IsBehind}

pub each_push : {X : Type 0} (P : X → Type 0) (xs : List X) (x : X) → AllByRecursion P xs → P x → AllByRecursion P (xs ++ x ∷ [])
each_push P [] x h k = (k, tt)
each_push P (y ∷ xs) x h k = (h.0, each_push P xs x h.1 k)

told_push : (before : ℕ) (ps : List Part) (p : Part)
    → answers_behind before (ps ++ p ∷ []) ≡ answers_behind before ps ++ answer_to (before + length (flat_map lines_of ps)) p
told_push before [] p = append-nil (answer_to before p) ∙ ap (λ x. answer_to x p) (sym (add-zero before))
told_push before (q ∷ ps) p =
    ap (λ x. answer_to before q ++ x) (told_push (before + length (lines_of q)) ps p)
    ∙ sym (append_assoc (answer_to before q) _ _)
    ∙ ap (λ x. (answer_to before q ++ answers_behind (before + length (lines_of q)) ps) ++ answer_to x p)
    (add_assoc before (length (lines_of q)) (length (flat_map lines_of ps))
    ∙ ap (λ x. before + x) (sym (length-append (lines_of q) (flat_map lines_of ps))))

-- one more part after whole parts
parts_push : (answers : List Answer) (ps : List Part) (p : Part) (lines : List Line) (said : List Answer)
    → Reads (flat_map lines_of ps) answers ps → IsPart p → lines ≡ flat_map lines_of ps ++ lines_of p
    → said ≡ answer_to (length (flat_map lines_of ps)) p → Reads lines (answers ++ said) (ps ++ p ∷ [])
parts_push answers ps p lines said h k e w = record {
  each = each_push IsPart ps p h.each k;
  split = e ∙ flat_map_more lines_of [] ps p;
  told = ap (λ x. answers ++ x) w ∙ ap (λ x. x ++ answer_to (length (flat_map lines_of ps)) p) h.told
      ∙ ap (λ x. answers_behind 0 ps ++ answer_to x p) (sym (zero-add (length (flat_map lines_of ps)))) ∙ sym (told_push 0 ps p);
}

-- the same reading, by its parts' lines
whole_reads : (lines : List Line) (answers : List Answer) (ps : List Part) → Reads lines answers ps → Reads (flat_map lines_of ps) answers ps
whole_reads lines answers ps h = record { each = h.each; split = refl; told = h.told }

joins_push : (j k l : Joined) (cards : List (List ℕ)) (card : List ℕ) → with_lines j cards ≡ Some k → with_line k card ≡ Some l
    → with_lines j (cards ++ card ∷ []) ≡ Some l
joins_push j k l [] card h e =
    let same : j ≡ k = cc in
    let here : with_line j card ≡ Some l = rw same e in
    ap (λ (r : Option Joined). elim r [ None ↦ None | Some m ↦ with_lines m [] ]) here
joins_push j k l (c ∷ cards) card h e =
    elim (with_line j c) as (λ r. elim r [ None ↦ None | Some m ↦ with_lines m cards ] ≡ Some k
    → elim r [ None ↦ None | Some m ↦ with_lines m (cards ++ card ∷ []) ] ≡ Some l) [
      | None ↦ λ x. cc
      | Some m ↦ λ x. joins_push m k l cards card x e
    ] h

group_push : (first : Line) (lines : List Line) (l : Line) → AllContinued (first ∷ lines) → is_continued l ≡ false → IsGroup first (lines ++ l ∷ [])
group_push first [] l h k = (h.0, k)
group_push first (x ∷ lines) l h k = (h.0, group_push x lines l h.1 k)

dropping_push : (line : Line) (ds : List Line) (d : Line) → IsDropping line ds → is_continued d ≡ true → IsDropping line (ds ++ d ∷ [])
dropping_push line [] d h k = (h, k)
dropping_push line (x ∷ ds) d h k = (h.0, dropping_push x ds d h.1 k)

dropping_end : (line : Line) (ds : List Line) (d : Line) → IsDropping line ds → is_continued d ≡ false → IsGroup line (ds ++ d ∷ [])
dropping_end line [] d h k = (h, k)
dropping_end line (x ∷ ds) d h k = (h.0, dropping_end x ds d h.1 k)

-- a line when a statement is awaited
idle_keeps : (s c : Bool) (lines : List Line) (answers : List Answer) (line : Line) (number : ℕ) → is_skipped line ≡ s → is_continued line ≡ c
    → number ≡ number_behind (length lines) → Between awaiting lines answers
    → Between (idle_with s c number line).0 (lines ++ line ∷ []) (answers ++ (idle_with s c number line).1)
idle_keeps true c lines answers line number e k n h =
    (h.0 ++ skipped line ∷ [], parts_push answers h.0 (skipped line) _ [] (whole_reads lines answers h.0 h.1) e (ap (λ x. x ++ line ∷ []) h.1.split) refl)
idle_keeps false false lines answers line number e k n h = (
  h.0 ++ whole line [] ∷ [],
  parts_push answers h.0 (whole line []) _ _ (whole_reads lines answers h.0 h.1) (e, k, omega arith, begun (used line), refl)
      (ap (λ x. x ++ line ∷ []) h.1.split)
      (ap (λ x. record { line = x; what = statement_with (used line) (begun (used line)).text } ∷ []) (n ∙ ap (λ x. number_behind (length x)) h.1.split)),
)
idle_keeps false true lines answers line number e k n h = record {
  parts = h.0;
  reads = rw append-nil (whole_reads lines answers h.0 h.1);
  first = line;
  before = [];
  split = ap (λ x. x ++ line ∷ []) h.1.split;
  begins = e;
  continued = (k, tt);
  joins = refl;
  numbered = n ∙ ap (λ x. number_behind (length x)) h.1.split;
  card_is = refl;
  counted = refl;
  few = omega arith;
}

-- a line after a broken statement
drop_keeps : (c : Bool) (lines : List Line) (answers : List Answer) (line : Line) → is_continued line ≡ c → Drops lines answers
    → Between (behind_break c) (lines ++ line ∷ []) (answers ++ [])
drop_keeps true lines answers line k h = record {
  parts = h.parts;
  whole_answers = h.whole_answers;
  reads = h.reads;
  first = h.first;
  before = h.before;
  at = h.at;
  dropped = h.dropped ++ line ∷ [];
  split = ap (λ x. x ++ line ∷ []) h.split ∙ append_assoc (flat_map lines_of h.parts) (h.first ∷ (h.before ++ h.at ∷ h.dropped)) (line ∷ [])
      ∙ ap (λ x. flat_map lines_of h.parts ++ h.first ∷ x) (append_assoc h.before (h.at ∷ h.dropped) (line ∷ []));
  begins = h.begins;
  continued = h.continued;
  breaks = h.breaks;
  drops = dropping_push h.at h.dropped line h.drops k;
  few = h.few;
  told = append-nil answers ∙ h.told;
}
drop_keeps false lines answers line k h =
    let p : Part = broken h.first h.before h.at (h.dropped ++ line ∷ []) in
    let said : List Answer = record { line = number_behind (length (flat_map lines_of h.parts)); what = Err kind.Continuation } ∷ [] in (
      h.parts ++ p ∷ [],
      rw (append-nil answers, h.told) (parts_push h.whole_answers h.parts p _ said h.reads
          (h.begins, h.continued, h.breaks, dropping_end h.at h.dropped line h.drops k, h.few)
          (ap (λ x. x ++ line ∷ []) h.split ∙ append_assoc (flat_map lines_of h.parts) (h.first ∷ (h.before ++ h.at ∷ h.dropped)) (line ∷ [])
          ∙ ap (λ x. flat_map lines_of h.parts ++ h.first ∷ x) (append_assoc h.before (h.at ∷ h.dropped) (line ∷ [])))
          refl),
    )

-- a line when a statement is open
module _ (lines : List Line) (answers : List Answer) (line : Line) (n : ℕ) (card : List ℕ) (j : Joined) (count : ℕ)
    (h : Gathers lines answers n card j count) where
  placed : lines ++ line ∷ [] ≡ flat_map lines_of h.parts ++ h.first ∷ (h.before ++ line ∷ [])
  placed = ap (λ x. x ++ line ∷ []) h.split ∙ append_assoc (flat_map lines_of h.parts) (h.first ∷ h.before) (line ∷ [])

  said_number : (what : Result Asked FaultKind)
      → ◌≡◌ {A = List Answer} (record { line = n; what = what } ∷ []) (record { line = number_behind (length (flat_map lines_of h.parts)); what = what } ∷ [])
  said_number what = ap (λ x. record { line = x; what = what } ∷ []) h.numbered

  -- a rule of continuation is broken here
  break_keeps : (c : Bool) → is_continued line ≡ c → IsBreak j h.before line
      → Between (behind_break c) (lines ++ line ∷ []) (answers ++ record { line = n; what = Err kind.Continuation } ∷ [])
  break_keeps true k b = record {
    parts = h.parts;
    whole_answers = answers;
    reads = h.reads;
    first = h.first;
    before = h.before;
    at = line;
    dropped = [];
    split = placed;
    begins = h.begins;
    continued = h.continued;
    breaks = (j, h.joins, b);
    drops = k;
    few = omega (arith, h.counted, h.few);
    told = ap (λ x. answers ++ x) (said_number (Err kind.Continuation));
  }
  break_keeps false k b = (
    h.parts ++ broken h.first h.before line [] ∷ [],
    parts_push answers h.parts (broken h.first h.before line []) _ _ h.reads
        (h.begins, h.continued, (j, h.joins, b), k, omega (arith, h.counted, h.few)) placed (said_number (Err kind.Continuation)),
  )

  -- the statement continues
  more_keeps : (k : Joined) → with_line j (used line) ≡ Some k → is_continued line ≡ true → (count == 8) ≡ false
      → Between (gathering n card k (count + 1)) (lines ++ line ∷ []) (answers ++ [])
  more_keeps k e c ninth = record {
    parts = h.parts;
    reads = rw append-nil h.reads;
    first = h.first;
    before = h.before ++ line ∷ [];
    split = placed;
    begins = h.begins;
    continued = (h.continued.0, each_push (λ l. is_continued l ≡ true) h.before line h.continued.1 c);
    joins = rw map_push (joins_push (begun (used h.first)) j k (map used h.before) (used line) h.joins e);
    numbered = h.numbered;
    card_is = h.card_is;
    counted = ap (λ x. x + 1) h.counted ∙ sym (length_push h.before line);
    few = (let fewer : count ≤ 8 = h.few in let other : count ≢ 8 = eqb-false count 8 ninth in omega arith);
  }

  -- the statement is whole
  whole_keeps : (k : Joined) → with_line j (used line) ≡ Some k → is_continued line ≡ false
      → Between awaiting (lines ++ line ∷ []) (answers ++ record { line = n; what = statement_with card k.text } ∷ [])
  whole_keeps k e c =
      let joins : with_lines (begun (used h.first)) (map used (h.before ++ line ∷ [])) ≡ Some k =
      rw map_push (joins_push (begun (used h.first)) j k (map used h.before) (used line) h.joins e) in (
        h.parts ++ whole h.first (h.before ++ line ∷ []) ∷ [],
        parts_push answers h.parts (whole h.first (h.before ++ line ∷ [])) _ _ h.reads
            (h.begins, group_push h.first h.before line h.continued c, simp length_push (omega (arith, h.counted, h.few)), k, joins)
            placed
            (said_number (statement_with card k.text)
            ∙ ap (λ x. record { line = number_behind (length (flat_map lines_of h.parts)); what = statement_with x k.text } ∷ []) h.card_is
            ∙ ap (λ x. record { line = number_behind (length (flat_map lines_of h.parts)); what = said_by (used h.first) x } ∷ []) (sym joins)),
      )

  gathered_keeps : (r : Option Joined) (c ninth : Bool) → with_line j (used line) ≡ r → is_continued line ≡ c → (count == 8) ≡ ninth
      → Between (gathered_with r c ninth n card count).0 (lines ++ line ∷ []) (answers ++ (gathered_with r c ninth n card count).1)
  gathered_keeps None c ninth e k m = break_keeps c k (inl e)
  gathered_keeps (Some l) false ninth e k m = whole_keeps l e k
  gathered_keeps (Some l) true true e k m = break_keeps true k (inr (sym h.counted ∙ eqb-true count 8 m, k))
  gathered_keeps (Some l) true false e k m = more_keeps l e k m

pub moved_keeps : (m : Mode) (lines : List Line) (answers : List Answer) (line : Line) (number : ℕ) → number ≡ number_behind (length lines)
    → Between m lines answers → Between (moved number m line).0 (lines ++ line ∷ []) (answers ++ (moved number m line).1)
moved_keeps awaiting lines answers line number n h = idle_keeps (is_skipped line) (is_continued line) lines answers line number refl refl n h
moved_keeps dropping lines answers line number n h = drop_keeps (is_continued line) lines answers line refl h
moved_keeps (gathering k card j count) lines answers line number n h =
    gathered_keeps lines answers line k card j count h (with_line j (used line)) (is_continued line) (count == 8) refl refl refl

-- one more line
pub behind_push : (lines : List Line) (answers : List Answer) (s : Kept) (line : Line) (n : ℕ) (m new : Mode) (said : List Answer)
    → IsBehind lines answers s → n ≡ min (s.count + 1) (2 ^ 32 - 1) → m ≡ s.mode → new ≡ (moved n m line).0 → said ≡ (moved n m line).1
    → IsBehind (lines ++ line ∷ []) (answers ++ said) (record { count = n; mode = new })
behind_push lines answers s line n m new said h e k w t = record {
  counted = rw length_push (omega (arith, e, h.counted));
  between = rw (w, t) (moved_keeps m lines answers line n (omega (arith, e, h.counted)) (rw k h.between));
}
