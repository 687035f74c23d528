-- A statement on one line: what it asks for, by the field's part on the line.
use Rattle.std.proofs.Common.{◌≡◌, ℕ, ◌==◌, ◌||◌, true, false, if◌then◌else◌, List, [], ◌∷◌, length, take, Err, refl, ap, arith}
use Rattle.std.proofs.lemmas.Bool.{eqb-true}
use Rattle.std.proofs.lemmas.List.{take_all}
use Rattle.operand_texts.specs.declared.nesting.Nesting.{Nesting}
use Rattle.operand_texts.specs.Field.{outside, field_len}
use Rattle.macro_operands.specs.declared.faults.FaultKind.TheVariants as fault
use Rattle.macro_statements.specs.Statements.{is_misplaced, from_operands, from_operation, operation_of, of_operation, statement_with}
use Rattle.operand_texts.specs.Words.{word}
use Rattle.macro_reader.specs.Continuation.{begun, with_part, no_field}

none_taken : (text : List ℕ) (k : ℕ) → (length text == 0) ≡ true → take k text ≡ []
none_taken [] k h = take_all k [] (omega arith)
none_taken (c ∷ cs) k h =
    let none : length (c ∷ cs) ≡ 0 = eqb-true (length (c ∷ cs)) 0 h in
    absurd (omega arith)

line_says : (card : List ℕ)
    → statement_with card (take (field_len outside (from_operands card)) (from_operands card)) ≡ statement_with card (begun card).text
line_says card =
    let o = operation_of (word (from_operation card)) in
    let rest : List ℕ = from_operands card in
    let part : List ℕ = take (field_len outside rest) rest in
    elim (is_misplaced card) as (λ m. (if m then Err fault.Column else of_operation o part)
    ≡ (if m then Err fault.Column else of_operation o (if m || (length rest == 0) then no_field else with_part [] outside rest).text)) [
      | true ↦ refl
      | false ↦ elim (length rest == 0) as (λ z. (length rest == 0) ≡ z → of_operation o part ≡ of_operation o (if z then no_field else with_part [] outside rest).text) [
        | true ↦ λ q. ap (of_operation o) (none_taken rest (field_len outside rest) q)
        | false ↦ λ q. refl
      ] refl
    ]

pub line_asks : (card rest : List ℕ) (start : Nesting) (n : ℕ) → start ≡ outside → rest ≡ from_operands card → n ≡ field_len start rest
    → statement_with card (take n rest) ≡ statement_with card (begun card).text
line_asks card rest start n s r e = rw (e, s, r) (line_says card)
