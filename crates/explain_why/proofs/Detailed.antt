-- Where a wrong statement is wrong, and which name isn't defined, among what is put and written.
use Rattle.std.proofs.Common.{◌≡◌, ℕ, List, [], ◌∷◌, ◌++◌, map, Option, append_assoc, refl, ap, subst, ◌∙◌}
use Rattle.std.proofs.KnownBytes.{Appends-nil}
use Rattle.std.specs.Io.KnownBytes.{Appends}
use Rattle.vsm_model.specs.Names.{NamedState}
use Rattle.macro_operands.specs.declared.faults.FaultKind.{FaultKind}
use Rattle.macro_reader.specs.Columns.{Line, used}
use Rattle.explain_faults.specs.Places.{MarksOperand, card_in, first_card, further_cards}
use Rattle.explain_faults.specs.declared.carets.Caret.{Caret}
use Rattle.explain_faults.specs.declared.lines.SourceLine.{SourceLine}
use Rattle.text_output.specs.Writing.{Holds, IsEmpty, Puts}
use Rattle.text_output.specs.declared.writing.Gathered.{Gathered}
use Rattle.text_output.proofs.Gathering.{empty_holds, puts_both}
use Rattle.explain_why.specs.Details.{IsFaultPlace, PutsDetail, WritesDetail, at_text, first_used, further_used}
use Rattle.explain_why.specs.declared.ahead.NextStatement as ahead
use Rattle.explain_why.specs.declared.definitions.Definition.{Definition}
use Rattle.explain_why.specs.declared.obstacles.Bringer.{Bringer}

-- some text
abbrev pub PutsSome : Option (List ℕ) → Option (List ℕ) → Gathered → Gathered → Type 0
PutsSome old new before after = (text : List ℕ) × Puts old new before after text

-- columns 1 to 71 of lines of a text
first_is : (text : List ℕ) (places : List SourceLine) (own : List Line) → map (card_in text) places ≡ map used own → first_card text places ≡ first_used own
first_is text [] [] e = refl
first_is text [] (line ∷ lines) e = absurd (let f : ◌≡◌ {A = List (List ℕ)} [] (used line ∷ map used lines) = e in cc)
first_is text (place ∷ places) [] e = absurd (let f : ◌≡◌ {A = List (List ℕ)} (card_in text place ∷ map (card_in text) places) [] = e in cc)
first_is text (place ∷ places) (line ∷ lines) e =
    (let f : ◌≡◌ {A = List (List ℕ)} (card_in text place ∷ map (card_in text) places) (used line ∷ map used lines) = e in cc)

further_is : (text : List ℕ) (places : List SourceLine) (own : List Line) → map (card_in text) places ≡ map used own → further_cards text places ≡ further_used own
further_is text [] [] e = refl
further_is text [] (line ∷ lines) e = absurd (let f : ◌≡◌ {A = List (List ℕ)} [] (used line ∷ map used lines) = e in cc)
further_is text (place ∷ places) [] e = absurd (let f : ◌≡◌ {A = List (List ℕ)} (card_in text place ∷ map (card_in text) places) [] = e in cc)
further_is text (place ∷ places) (line ∷ lines) e =
    (let f : ◌≡◌ {A = List (List ℕ)} (card_in text place ∷ map (card_in text) places) (used line ∷ map used lines) = e in cc)

-- the place of a fault
pub fault_place : (text : List ℕ) (places : List SourceLine) (own : List Line) (kind : FaultKind) (first : ℕ) (caret : Caret) →
    map (card_in text) places ≡ map used own → MarksOperand (first_card text places) (further_cards text places) kind caret →
    IsFaultPlace first own kind (at_text first caret.place)
fault_place text places own kind first caret e marks = (
  caret,
  subst (λ c. MarksOperand c (further_used own) kind caret) (first_is text places own e)
      (subst (λ c. MarksOperand (first_card text places) c kind caret) (further_is text places own e) marks),
  refl,
)

-- between other texts, and written
pub detail_written : (first : ℕ) (own : List Line) (m : NamedState) (asked : ahead.NextStatement) (definition : Definition) (bringer : Option Bringer) (old now then later new : Option (List ℕ)) (a b c d : Gathered) →
    IsEmpty a → PutsSome old now a b → PutsDetail first own m asked definition bringer now then b c → PutsSome then later c d →
    ((at_first : Option (List ℕ)) (text : List ℕ) → Holds at_first later d text → Appends at_first new text) → WritesDetail first own m asked definition bringer old new
detail_written first own m asked definition bringer old now then later new a b c d none (front, before) (its, is, (more, puts)) (last, after) finish =
    let here = puts_both old now then a b c front (its ++ more) before puts in
    let all = puts_both old then later a c d (front ++ (its ++ more)) last here after in
    let same : (front ++ (its ++ more)) ++ last ≡ front ++ (its ++ (more ++ last)) =
    append_assoc front (its ++ more) last ∙ ap (λ x. front ++ x) (append_assoc its more last) in (
      its,
      is,
      (
        front,
        more ++ last,
        subst (Appends old new) same
            (finish old ((front ++ (its ++ more)) ++ last) (all old [] (empty_holds old old a [] none (Appends-nil old)))),
      ),
    )
