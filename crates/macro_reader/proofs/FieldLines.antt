-- An operand field laid over a first line and continuation lines.
use Rattle.std.proofs.Common.{◌≡◌, ℕ, zero, suc, ◌+◌, ◌-◌, ◌*◌, ◌≤◌, ◌==◌, Bool, true, false, not, ◌&&◌, ◌||◌, List, [], ◌∷◌, ◌++◌, length, map, take, drop, replicate, get_or, Option, Some, None, codes, arith, refl, ap, sym, ◌∙◌, inl, inr, append_assoc}
use Rattle.std.specs.List.{AllByRecursion}
use Rattle.std.proofs.Math.Numerals.{one-add}
use Rattle.std.proofs.Math.Seq.{take-append-add, take-append_seam}
use Rattle.std.proofs.lemmas.Bool.{cases_lt, eq-eqb}
use Rattle.std.proofs.lemmas.List.{get_or_at, get_or_past, length-append, length-take-le, length-drop, take-append-drop, take_all}
use Rattle.operand_texts.specs.declared.nesting.Nesting.{Nesting}
use Rattle.macro_reader.specs.Columns.{Line, used, is_continued}
use Rattle.operand_texts.specs.Field.{outside, past, nesting_after, field_len}
use Rattle.macro_reader.specs.Continuation.{Joined, ends_with_comma, with_part, with_line, with_lines}
use Rattle.macro_reader.specs.Scripts.{IsGroup}
use Rattle.macro_statements.specs.declared.statements.Operation.{Operation}
use Rattle.macro_statements.specs.declared.statements.Operation.TheVariants as operation
use Rattle.operand_texts.proofs.OperandTexts.{Goes, IsOperand, ends, joined}

-- a text that no blank ends, and that closes its apostrophes
abbrev pub Unbroken : Nesting → List ℕ → Type 0
Unbroken n [] = n.quoted ≡ false
Unbroken n (c ∷ cs) = (ends n c ≡ false) × Unbroken (past n c) cs

pub unbroken_last : (n : Nesting) (o : List ℕ) → Goes n o outside → Unbroken n o
unbroken_last n [] h = rw h refl
unbroken_last n (c ∷ cs) h = (h.0, unbroken_last (past n c) cs h.3)

pub unbroken_first : (n : Nesting) (o rest : List ℕ) → Goes n o outside → Unbroken outside rest → Unbroken n (o ++ 44 ∷ rest)
unbroken_first n [] rest h k = rw h (refl, k)
unbroken_first n (c ∷ cs) rest h k = (h.0, unbroken_first (past n c) cs rest h.3 k)

-- the part of a line that a text fills to the end
unbroken_full : (n : Nesting) (r : ℕ) (t : List ℕ) → Unbroken n t → field_len n (take r t) ≡ length (take r t)
unbroken_full n zero t h = refl
unbroken_full n (suc r) [] h = refl
unbroken_full n (suc r) (c ∷ cs) h = rw (h.0, unbroken_full (past n c) r cs h.1) (one-add (length (take r cs)))

unbroken_drop : (n : Nesting) (r : ℕ) (t : List ℕ) → Unbroken n t → Unbroken (nesting_after n (take r t)) (drop r t)
unbroken_drop n zero t h = h
unbroken_drop n (suc r) [] h = h
unbroken_drop n (suc r) (c ∷ cs) h = unbroken_drop (past n c) r cs h.1

pub whole_part : (n : Nesting) (r : ℕ) (t : List ℕ) → Unbroken n t → take (field_len n (take r t)) (take r t) ≡ take r t
whole_part n r t h = ap (λ m. take m (take r t)) (unbroken_full n r t h) ∙ take_all (length (take r t)) (take r t) (omega arith)

-- the part of a line in which blanks follow a text
pub field_stops : (n : Nesting) (r k : ℕ) (t : List ℕ) → Unbroken n t → length t ≤ r
    → take (field_len n (take r (t ++ replicate k 32))) (take r (t ++ replicate k 32)) ≡ t
field_stops n zero k [] h few = refl
field_stops n (suc r) zero [] h few = refl
field_stops n (suc r) (suc k) [] h few = rw h refl
field_stops n zero k (c ∷ cs) h few = absurd (omega (arith, few))
field_stops n (suc r) k (c ∷ cs) h few =
    rw (h.0, one-add (field_len (past n c) (take r (cs ++ replicate k 32))))
    (ap (λ x. c ∷ x) (field_stops (past n c) r k cs h.1 (omega (arith, few))))

-- columns 1 to 71 of a line with such a part, and its column 72
pub used_full : (front t : List ℕ) (r : ℕ) → length front + r ≡ 71 → r ≤ length t → used (front ++ (take r t ++ 88 ∷ [])) ≡ front ++ take r t
used_full front t r e h =
    let size : length (take r t) ≡ r = length-take-le r t h in
    let blanks : List ℕ = replicate 71 32 in
    let all : (front ++ (take r t ++ 88 ∷ [])) ++ blanks ≡ front ++ (take r t ++ 88 ∷ blanks) =
    append_assoc front (take r t ++ 88 ∷ []) blanks ∙ ap (λ x. front ++ x) (append_assoc (take r t) (88 ∷ []) blanks) in
    let part : take r (take r t ++ 88 ∷ blanks) ≡ take r t = ap (λ n. take n (take r t ++ 88 ∷ blanks)) (sym size) ∙ take-append_seam (take r t) (88 ∷ blanks) in
    ap (λ x. take 71 x) all ∙ ap (λ n. take n (front ++ (take r t ++ 88 ∷ blanks))) (sym e)
    ∙ take-append-add front (take r t ++ 88 ∷ blanks) r ∙ ap (λ x. front ++ x) part

pub continued_full : (front t : List ℕ) (r : ℕ) → length front + r ≡ 71 → r ≤ length t → is_continued (front ++ (take r t ++ 88 ∷ [])) ≡ true
continued_full front t r e h =
    let size : length (take r t) ≡ r = length-take-le r t h in
    let long : length (front ++ take r t) ≡ length front + length (take r t) = length-append front (take r t) in
    let here : get_or (front ++ (take r t ++ 88 ∷ [])) 71 32 ≡ 88 =
    ap (λ x. get_or x 71 32) (sym (append_assoc front (take r t) (88 ∷ []))) ∙ get_or_at (front ++ take r t) 88 [] 32 71 (omega (arith, size, long, e)) in
    ap (λ c. not (c == 32)) here

pub used_last : (front t : List ℕ) (r : ℕ) → length front + r ≡ 71 → used (front ++ t) ≡ front ++ take r (t ++ replicate 71 32)
used_last front t r e =
    let blanks : List ℕ = replicate 71 32 in
    ap (λ x. take 71 x) (append_assoc front t blanks) ∙ ap (λ n. take n (front ++ (t ++ blanks))) (sym e) ∙ take-append-add front (t ++ blanks) r

pub continued_last : (front t : List ℕ) (r : ℕ) → length front + r ≡ 71 → length t ≤ r → is_continued (front ++ t) ≡ false
continued_last front t r e h =
    let long : length (front ++ t) ≡ length front + length t = length-append front t in
    ap (λ c. not (c == 32)) (get_or_past (front ++ t) 71 32 (omega (arith, long, e, h)))

-- a part that begins a continuation line
abbrev margin : List ℕ
margin = 32 ∷ 32 ∷ 32 ∷ 32 ∷ 32 ∷ 32 ∷ 32 ∷ 32 ∷ 32 ∷ 32 ∷ 32 ∷ 32 ∷ 32 ∷ 32 ∷ 32 ∷ []

no_end : (q b : Bool) → (b && not q) ≡ false → (not q && b) ≡ false
no_end true b h = refl
no_end false true h = h
no_end false false h = refl

goes_on_with : (j : Joined) (c : ℕ) (cs : List ℕ) → j.goes_on ≡ true → ends j.at c ≡ false
    → with_line j (margin ++ c ∷ cs) ≡ Some (with_part j.text j.at (c ∷ cs))
goes_on_with j c cs g h = rw (g, no_end j.at.quoted (c == 32) h) refl

-- continuation lines with a text, at most this many of them
pub record Laid (j : Joined) (t : List ℕ) (most : ℕ) : Type 0 where
  pub lines : List Line
  pub few : length lines ≤ most
  pub group : (first : Line) → is_continued first ≡ true → IsGroup first lines
  pub field : Joined
  pub joins : with_lines j (map used lines) ≡ Some field
  pub text : field.text ≡ j.text ++ t

joins_more : (j k l : Joined) (card : List ℕ) (cards : List (List ℕ)) → with_line j card ≡ Some k → with_lines k cards ≡ Some l
    → with_lines j (card ∷ cards) ≡ Some l
joins_more j k l card cards h e = ap (λ (r : Option Joined). elim r [ None ↦ None | Some m ↦ with_lines m cards ]) h ∙ e

laid_last : (most : ℕ) (j : Joined) (c : ℕ) (cs : List ℕ) → j.goes_on ≡ true → Unbroken j.at (c ∷ cs) → length (c ∷ cs) ≤ 56 → Laid j (c ∷ cs) (suc most)
laid_last most j c cs g h few =
    let t : List ℕ = c ∷ cs in
    let rest : List ℕ = take 55 (cs ++ replicate 71 32) in
    let card : used (margin ++ t) ≡ margin ++ c ∷ rest = used_last margin t 56 refl in
    record {
      lines = (margin ++ t) ∷ [];
      few = omega arith;
      group = λ first k. (k, continued_last margin t 56 refl few);
      field = with_part j.text j.at (c ∷ rest);
      joins = joins_more j (with_part j.text j.at (c ∷ rest)) (with_part j.text j.at (c ∷ rest)) (used (margin ++ t)) []
          (ap (λ x. with_line j x) card ∙ goes_on_with j c rest g h.0) refl;
      text = ap (λ x. j.text ++ x) (field_stops j.at 56 71 t h few);
    }

laid_more : (most : ℕ) (j : Joined) (c : ℕ) (cs : List ℕ) → j.goes_on ≡ true → Unbroken j.at (c ∷ cs) → 56 ≤ length (c ∷ cs)
    → Laid (with_part j.text j.at (take 56 (c ∷ cs))) (drop 56 (c ∷ cs)) most → Laid j (c ∷ cs) (suc most)
laid_more most j c cs g h long l =
    let t : List ℕ = c ∷ cs in
    let card : used (margin ++ (take 56 t ++ 88 ∷ [])) ≡ margin ++ take 56 t = used_full margin t 56 refl long in
    let whole : take (field_len j.at (take 56 t)) (take 56 t) ≡ take 56 t = whole_part j.at 56 t h in
    record {
      lines = (margin ++ (take 56 t ++ 88 ∷ [])) ∷ l.lines;
      few = (let f = l.few in omega (arith, f));
      group = λ first k. (k, l.group (margin ++ (take 56 t ++ 88 ∷ [])) (continued_full margin t 56 refl long));
      field = l.field;
      joins = joins_more j (with_part j.text j.at (take 56 t)) l.field (used (margin ++ (take 56 t ++ 88 ∷ []))) (map used l.lines)
          (ap (λ x. with_line j x) card ∙ goes_on_with j c (take 55 cs) g h.0) l.joins;
      text = l.text ∙ append_assoc j.text (take (field_len j.at (take 56 t)) (take 56 t)) (drop 56 t)
          ∙ ap (λ x. j.text ++ (x ++ drop 56 t)) whole ∙ ap (λ x. j.text ++ x) (take-append-drop 56 t);
    }

-- what a full part leaves
pub full_goes_on : (text : List ℕ) (n : Nesting) (r : ℕ) (t : List ℕ) → Unbroken n t → (with_part text n (take r t)).goes_on ≡ true
full_goes_on text n r t h = ap (λ b. b || ends_with_comma (text ++ take (field_len n (take r t)) (take r t))) (eq-eqb (field_len n (take r t)) (length (take r t)) (unbroken_full n r t h))

pub full_unbroken : (text : List ℕ) (n : Nesting) (r : ℕ) (t : List ℕ) → Unbroken n t → Unbroken (with_part text n (take r t)).at (drop r t)
full_unbroken text n r t h = rw (whole_part n r t h) (unbroken_drop n r t h)

pub laid : (most : ℕ) (j : Joined) (t : List ℕ) → j.goes_on ≡ true → Unbroken j.at t → 1 ≤ length t → length t ≤ 56 * most → Laid j t most
laid zero j t g h some few = absurd (omega (arith, some, few))
laid (suc most) j [] g h some few = absurd (omega (arith, some))
laid (suc most) j (c ∷ cs) g h some few = elim (cases_lt 56 (length (c ∷ cs))) [
  | inl long ↦ (let size : length (drop 56 (c ∷ cs)) ≡ length (c ∷ cs) - 56 = length-drop 56 (c ∷ cs) in
      laid_more most j c cs g h (omega (arith, long))
      (laid most (with_part j.text j.at (take 56 (c ∷ cs))) (drop 56 (c ∷ cs)) (full_goes_on j.text j.at 56 (c ∷ cs) h)
      (full_unbroken j.text j.at 56 (c ∷ cs) h) (omega (arith, size, long)) (omega (arith, size, few))))
  | inr short ↦ laid_last most j c cs g h short
]

-- what precedes the operands on a first line
abbrev pub front_of : Operation → List ℕ
front_of operation.Storage = 32 ∷ (codes "STORAGE" ++ 32 ∷ [])
front_of operation.Getmain = 32 ∷ (codes "GETMAIN" ++ 32 ∷ [])
front_of operation.Freemain = 32 ∷ (codes "FREEMAIN" ++ 32 ∷ [])
front_of operation.Cpool = 32 ∷ (codes "CPOOL" ++ 32 ∷ [])
front_of operation.Attach = 32 ∷ (codes "ATTACH" ++ 32 ∷ [])
front_of operation.Detach = 32 ∷ (codes "DETACH" ++ 32 ∷ [])
front_of operation.Run = 32 ∷ (codes "RUN" ++ 32 ∷ [])
front_of operation.EndTask = 32 ∷ (codes "ENDTASK" ++ 32 ∷ [])
front_of operation.Poke = 32 ∷ (codes "POKE" ++ 32 ∷ [])
front_of operation.Peek = 32 ∷ (codes "PEEK" ++ 32 ∷ [])
front_of operation.Map = 32 ∷ (codes "MAP" ++ 32 ∷ [])
front_of operation.Back = 32 ∷ (codes "BACK" ++ 32 ∷ [])
front_of operation.Forward = 32 ∷ (codes "FORWARD" ++ 32 ∷ [])

-- the operands of a field are unbroken
pub unbroken_joined : (o : List ℕ) (os : List (List ℕ)) → IsOperand o → AllByRecursion IsOperand os → Unbroken outside (joined o os)
unbroken_joined o [] h k = unbroken_last outside o h
unbroken_joined o (p ∷ os) h k = unbroken_first outside o (joined p os) h (unbroken_joined p os k.0 k.1)

pub long_joined : (o : List ℕ) (os : List (List ℕ)) → 1 ≤ length o → 1 ≤ length (joined o os)
long_joined [] os h = absurd (omega (arith, h))
long_joined (c ∷ cs) [] h = h
long_joined (c ∷ cs) (p ∷ os) h = omega arith
