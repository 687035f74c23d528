-- Lines that a field is written on, after each operation, and what the grammar answers to them.
use Rattle.std.proofs.Common.{◌≡◌, ℕ, ◌+◌, ◌-◌, ◌<◌, ◌≤◌, ◌==◌, true, false, ◌&&◌, ◌||◌, List, [], ◌∷◌, ◌++◌, length, map, take, drop, replicate, codes, Some, Ok, if◌then◌else◌, arith, refl, ap, sym, ◌∙◌, inl, inr, append-nil}
use Rattle.std.proofs.lemmas.Bool.{cases_lt}
use Rattle.std.proofs.lemmas.Bool.Decides.{nat_tests}
use Rattle.std.proofs.lemmas.List.{length-drop, take-append-drop}
use Rattle.macro_reader.specs.Columns.{Line, used, is_blank, is_comment, is_skipped, is_continued}
use Rattle.operand_texts.specs.Field.{outside}
use Rattle.macro_reader.specs.Continuation.{Joined, no_field, begun, with_part, with_lines}
use Rattle.macro_statements.specs.Requests.{Asked}
use Rattle.macro_statements.specs.Statements.{of_operation, behind_of, from_operands, is_misplaced, statement_with, SpellsRequest}
use Rattle.macro_reader.specs.Scripts.{Answer, Answers, IsGroup, Part, whole, said_by}
use Rattle.macro_operands.specs.declared.rows.Behind.TheVariants as behind
use Rattle.macro_statements.specs.declared.statements.Operation.{Operation}
use Rattle.macro_statements.specs.declared.statements.Operation.TheVariants as operation
use Rattle.operand_texts.proofs.OperandTexts.{ends}
use Rattle.macro_reader.proofs.FieldLines.{Unbroken, field_stops, whole_part, used_full, continued_full, used_last, continued_last, full_goes_on, full_unbroken, laid, front_of}
use Rattle.macro_statements.proofs.SpelledOperands.{less, room, Remarks}

front_fits : (o : Operation) → length (front_of o) + room o ≡ 71
front_fits operation.Storage = refl
front_fits operation.Getmain = refl
front_fits operation.Freemain = refl
front_fits operation.Cpool = refl
front_fits operation.Attach = refl
front_fits operation.Detach = refl
front_fits operation.Run = refl
front_fits operation.EndTask = refl
front_fits operation.Poke = refl
front_fits operation.Peek = refl
front_fits operation.Map = refl
front_fits operation.Back = refl
front_fits operation.Forward = refl

in_place : (o : Operation) (t : List ℕ) → is_misplaced (front_of o ++ t) ≡ false
in_place operation.Storage t = refl
in_place operation.Getmain t = refl
in_place operation.Freemain t = refl
in_place operation.Cpool t = refl
in_place operation.Attach t = refl
in_place operation.Detach t = refl
in_place operation.Run t = refl
in_place operation.EndTask t = refl
in_place operation.Poke t = refl
in_place operation.Peek t = refl
in_place operation.Map t = refl
in_place operation.Back t = refl
in_place operation.Forward t = refl

no_comment : (o : Operation) (t : List ℕ) → (is_blank (front_of o ++ t) || is_comment (front_of o ++ t)) ≡ false
no_comment operation.Storage t = refl
no_comment operation.Getmain t = refl
no_comment operation.Freemain t = refl
no_comment operation.Cpool t = refl
no_comment operation.Attach t = refl
no_comment operation.Detach t = refl
no_comment operation.Run t = refl
no_comment operation.EndTask t = refl
no_comment operation.Poke t = refl
no_comment operation.Peek t = refl
no_comment operation.Map t = refl
no_comment operation.Back t = refl
no_comment operation.Forward t = refl

says : (o : Operation) (t text : List ℕ) → statement_with (front_of o ++ t) text ≡ of_operation (Some o) text
says operation.Storage t text = refl
says operation.Getmain t text = refl
says operation.Freemain t text = refl
says operation.Cpool t text = refl
says operation.Attach t text = refl
says operation.Detach t text = refl
says operation.Run t text = refl
says operation.EndTask t text = refl
says operation.Poke t text = refl
says operation.Peek t text = refl
says operation.Map t text = refl
says operation.Back t text = refl
says operation.Forward t text = refl

operands_behind_front : (o : Operation) (c : ℕ) (cs : List ℕ) → behind_of (Some o) ≡ behind.Operands → (c == 32) ≡ false → from_operands (front_of o ++ c ∷ cs) ≡ c ∷ cs
operands_behind_front operation.Storage c cs has h = rw h refl
operands_behind_front operation.Getmain c cs has h = rw h refl
operands_behind_front operation.Freemain c cs has h = rw h refl
operands_behind_front operation.Cpool c cs has h = rw h refl
operands_behind_front operation.Attach c cs has h = rw h refl
operands_behind_front operation.Detach c cs has h = rw h refl
operands_behind_front operation.Run c cs has h = rw h refl
operands_behind_front operation.EndTask c cs has h = cc
operands_behind_front operation.Poke c cs has h = rw h refl
operands_behind_front operation.Peek c cs has h = rw h refl
operands_behind_front operation.Map c cs has h = cc
operands_behind_front operation.Back c cs has h = rw h refl
operands_behind_front operation.Forward c cs has h = rw h refl

begun_with : (card : List ℕ) (c : ℕ) (cs : List ℕ) → is_misplaced card ≡ false → from_operands card ≡ c ∷ cs → begun card ≡ with_part [] outside (c ∷ cs)
begun_with card c cs m e =
    let some : (length (c ∷ cs) == 0) ≡ false = grind (arith, nat_tests) in
    ap (λ b. if b || (length (from_operands card) == 0) then no_field else with_part [] outside (from_operands card)) m
    ∙ ap (λ x. if length x == 0 then no_field else with_part [] outside x) e
    ∙ ap (λ b. if b then no_field else with_part [] outside (c ∷ cs)) some

-- a field begins at no blank
no_blank : (c : ℕ) → ends outside c ≡ false → (c == 32) ≡ false
no_blank c h = elim (c == 32) as (λ b. (b && true) ≡ false → b ≡ false) [ true ↦ λ k. k | false ↦ λ k. refl ] h

first_begun : (o : Operation) (c : ℕ) (cs : List ℕ) (line : Line) → behind_of (Some o) ≡ behind.Operands → ends outside c ≡ false → used line ≡ front_of o ++ c ∷ cs
    → begun (used line) ≡ with_part [] outside (c ∷ cs)
first_begun o c cs line has h e =
    ap begun e ∙ begun_with (front_of o ++ c ∷ cs) c cs (in_place o (c ∷ cs)) (operands_behind_front o c cs has (no_blank c h))

-- lines with this operation and this field
record On (o : Operation) (t : List ℕ) : Type 0 where
  first : Line
  rest : List Line
  few : length rest ≤ 9
  begins : is_skipped first ≡ false
  says : (text : List ℕ) → statement_with (used first) text ≡ of_operation (Some o) text
  group : IsGroup first rest
  field : Joined
  joins : with_lines (begun (used first)) (map used rest) ≡ Some field
  text : field.text ≡ t

on_one : (o : Operation) (c : ℕ) (cs : List ℕ) → behind_of (Some o) ≡ behind.Operands → Unbroken outside (c ∷ cs) → length (c ∷ cs) ≤ room o → On o (c ∷ cs)
on_one o c cs has h few =
    let t : List ℕ = c ∷ cs in
    let part : List ℕ = c ∷ take (less o) (cs ++ replicate 71 32) in
    let card : used (front_of o ++ t) ≡ front_of o ++ part = used_last (front_of o) t (room o) (front_fits o) in
    record {
      first = front_of o ++ t;
      rest = [];
      few = omega arith;
      begins = ap (λ x. is_blank x || is_comment x) card ∙ no_comment o part;
      says = λ text. ap (λ x. statement_with x text) card ∙ says o part text;
      group = continued_last (front_of o) t (room o) (front_fits o) few;
      field = with_part [] outside part;
      joins = ap (λ j. Some j) (first_begun o c (take (less o) (cs ++ replicate 71 32)) (front_of o ++ t) has h.0 card);
      text = field_stops outside (room o) 71 t h few;
    }

on_more : (o : Operation) (c : ℕ) (cs : List ℕ) → behind_of (Some o) ≡ behind.Operands → Unbroken outside (c ∷ cs) → room o < length (c ∷ cs) → length (c ∷ cs) ≤ room o + 504 → On o (c ∷ cs)
on_more o c cs has h long few =
    let t : List ℕ = c ∷ cs in
    let part : List ℕ = c ∷ take (less o) cs in
    let first : Line = front_of o ++ (part ++ 88 ∷ []) in
    let card : used first ≡ front_of o ++ part = used_full (front_of o) t (room o) (front_fits o) (omega (arith, long)) in
    let size : length (drop (room o) t) ≡ length t - room o = length-drop (room o) t in
    let l = laid 9 (with_part [] outside part) (drop (room o) t) (full_goes_on [] outside (room o) t h) (full_unbroken [] outside (room o) t h)
    (omega (arith, size, long)) (omega (arith, size, few)) in
    record {
      first = first;
      rest = l.lines;
      few = l.few;
      begins = ap (λ x. is_blank x || is_comment x) card ∙ no_comment o part;
      says = λ text. ap (λ x. statement_with x text) card ∙ says o part text;
      group = l.group first (continued_full (front_of o) t (room o) (front_fits o) (omega (arith, long)));
      field = l.field;
      joins = ap (λ j. with_lines j (map used l.lines)) (first_begun o c (take (less o) cs) first has h.0 card) ∙ l.joins;
      text = l.text ∙ ap (λ x. x ++ drop (room o) t) (whole_part outside (room o) t h) ∙ take-append-drop (room o) t;
    }

on : (o : Operation) (t : List ℕ) → behind_of (Some o) ≡ behind.Operands → Unbroken outside t → 1 ≤ length t → length t ≤ room o + 504 → On o t
on o [] has h some few = absurd (omega (arith, some))
on o (c ∷ cs) has h some few = elim (cases_lt (room o) (length (c ∷ cs))) [
  | inl long ↦ on_more o c cs has h long few
  | inr short ↦ on_one o c cs has h short
]

answered : (o : Operation) (t : List ℕ) (asked : Asked) → SpellsRequest o t asked → On o t
    → (lines : List Line) × (length lines ≤ 10) × Answers lines (record { line = 1; what = Ok asked } ∷ [])
answered o t asked e w =
    let part : Part = whole w.first w.rest in
    let said : said_by (used w.first) (with_lines (begun (used w.first)) (map used w.rest)) ≡ Ok asked =
    ap (λ j. said_by (used w.first) j) w.joins ∙ w.says w.field.text ∙ ap (λ x. of_operation (Some o) x) w.text ∙ e in
    let few : length w.rest ≤ 9 = w.few in (
      w.first ∷ w.rest,
      omega (arith, few),
      inl (
        part ∷ [],
        record {
          each = ((w.begins, w.group, w.few, w.field, w.joins), tt);
          split = sym (append-nil (w.first ∷ w.rest));
          told = ap {B = List Answer} (λ x. record { line = 1; what = x } ∷ []) (sym said);
        },
      ),
    )

pub written_on : (o : Operation) (t : List ℕ) (asked : Asked) → behind_of (Some o) ≡ behind.Operands → SpellsRequest o t asked → Unbroken outside t → 1 ≤ length t
    → length t ≤ room o + 504 → (lines : List Line) × (length lines ≤ 10) × Answers lines (record { line = 1; what = Ok asked } ∷ [])
written_on o t asked has e h some few = answered o t asked e (on o t has h some few)

-- a line with an operation that has only remarks
bare_line : (o : Operation) (first : Line) → is_skipped first ≡ false → ((text : List ℕ) → statement_with (used first) text ≡ of_operation (Some o) text)
    → is_continued first ≡ false → begun (used first) ≡ no_field → On o []
bare_line o first begins says ends none = record {
  first = first;
  rest = [];
  few = omega arith;
  begins = begins;
  says = says;
  group = ends;
  field = no_field;
  joins = ap (λ j. Some j) none;
  text = refl;
}

bare : (o : Operation) → behind_of (Some o) ≡ behind.Remarks → On o []
bare operation.EndTask has = bare_line operation.EndTask (32 ∷ codes "ENDTASK") refl (λ text. refl) refl refl
bare operation.Map has = bare_line operation.Map (32 ∷ codes "MAP") refl (λ text. refl) refl refl
bare _ has = cc

pub written_bare : (asked : Asked) (r : Remarks asked) → (lines : List Line) × (length lines ≤ 10) × Answers lines (record { line = 1; what = Ok asked } ∷ [])
written_bare asked r = answered r.operation [] asked r.asks (bare r.operation r.has)
