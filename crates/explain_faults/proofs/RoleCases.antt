-- What a line is, by what it brings.
use Rattle.std.proofs.Common.{◌≡◌, ℕ, Bool, true, false, ◌&&◌, ◌||◌, List, Option, Some, None, is_none, Result, Ok, Err, refl, sym, ◌∙◌}
use Rattle.macro_operands.specs.declared.faults.FaultKind.{FaultKind}
use Rattle.macro_operands.specs.declared.faults.FaultKind.TheVariants as fault
use Rattle.macro_statements.specs.Requests.{Asked}
use Rattle.macro_statements.specs.Statements.{statement_with}
use Rattle.macro_reader.specs.Columns.{Line, used}
use Rattle.macro_reader.specs.Continuation.{Joined, begun}
use Rattle.macro_reader.specs.Scripts.{Mode, awaiting, dropping, gathering, gathered_with, idle_with}
use Rattle.macro_reader.specs.Roles.{IsStand, aside, first, further, breaking, first_role, further_role}
use Rattle.macro_reader.specs.declared.reading.ReaderState.{ReaderState}
use Rattle.macro_reader.specs.declared.reading.ReaderState.TheVariants as stand
use Rattle.explain_faults.specs.Roles.{brought_as, brought_by}
use Rattle.explain_faults.specs.declared.roles.Brought.{Brought}
use Rattle.explain_faults.specs.declared.roles.Brought.TheVariants as brought
use Rattle.explain_faults.proofs.NoBreaks.{breaks, is_break, no_break}

-- whether what a line brings is CONTINUATION
abbrev pub brings_break : Brought → Bool
brings_break brought.Nothing = false
brings_break brought.Answer = false
brings_break (brought.Fault k) = breaks k

same_break : (r : Result Asked FaultKind) → brings_break (brought_as r) ≡ is_break r
same_break (Ok asked) = refl
same_break (Err k) = refl

pub other_kind : (k : FaultKind) → (k ≡ fault.Continuation → ⊥) → breaks k ≡ false
other_kind fault.Column never = refl
other_kind fault.Continuation never = absurd (never refl)
other_kind fault.Operation never = refl
other_kind fault.Operand never = refl
other_kind fault.Repeated never = refl
other_kind fault.Missing never = refl
other_kind fault.Value never = refl
other_kind fault.LeftOut never = refl

-- a further line, by the field with it, whether it is continued, and whether it's the ninth
pub breaking_is : (r : Option Joined) (c ninth : Bool) (n : ℕ) (card : List ℕ) (count : ℕ)
    → brings_break (brought_by (gathered_with r c ninth n card count).1) ≡ true → breaking ≡ further_role (is_none r || (ninth && c))
breaking_is None c ninth n card count h = refl
breaking_is (Some j) false ninth n card count h =
    let bad : true ≡ false = sym h ∙ same_break (statement_with card j.text) ∙ no_break card j.text in cc
breaking_is (Some j) true true n card count h = refl
breaking_is (Some j) true false n card count h = cc

pub further_is : (r : Option Joined) (c ninth : Bool) (n : ℕ) (card : List ℕ) (count : ℕ)
    → brings_break (brought_by (gathered_with r c ninth n card count).1) ≡ false → further ≡ further_role (is_none r || (ninth && c))
further_is None c ninth n card count h = cc
further_is (Some j) false true n card count h = refl
further_is (Some j) false false n card count h = refl
further_is (Some j) true true n card count h = cc
further_is (Some j) true false n card count h = refl

-- a line when a statement is awaited, by whether it is skipped and whether it is continued
is_told : (r : Result Asked FaultKind) → brought_as r ≡ brought.Nothing → ⊥
is_told (Ok asked) h = cc
is_told (Err k) h = cc

pub aside_is : (skips c : Bool) (n : ℕ) (line : Line) (s : ReaderState) (b : Brought) → IsStand (idle_with skips c n line).0 s → brought_by (idle_with skips c n line).1 ≡ b
    → s ≡ stand.Awaiting → b ≡ brought.Nothing → aside ≡ first_role skips
aside_is true c n line s b h k e f = refl
aside_is false true n line s b h k e f = let bad : stand.Gathering ≡ stand.Awaiting = sym h ∙ e in cc
aside_is false false n line s b h k e f = absurd (is_told (statement_with (used line) (begun (used line)).text) (k ∙ f))

pub open_is : (skips c : Bool) (n : ℕ) (line : Line) (s : ReaderState) → IsStand (idle_with skips c n line).0 s → (s ≡ stand.Awaiting → ⊥) → first ≡ first_role skips
open_is true c n line s h never = absurd (never h)
open_is false c n line s h never = refl

pub told_is : (skips c : Bool) (n : ℕ) (line : Line) (b : Brought) → brought_by (idle_with skips c n line).1 ≡ b → (b ≡ brought.Nothing → ⊥) → first ≡ first_role skips
told_is true c n line b h never = absurd (never (sym h))
told_is false c n line b h never = refl

-- the mode of a reader in this state
pub awaits : (mode : Mode) (s : ReaderState) → IsStand mode s → s ≡ stand.Awaiting → mode ≡ awaiting
awaits awaiting s h e = refl
awaits dropping s h e = let bad : stand.Dropping ≡ stand.Awaiting = sym h ∙ e in cc
awaits (gathering n card j count) s h e = let bad : stand.Gathering ≡ stand.Awaiting = sym h ∙ e in cc

pub gathers : (mode : Mode) (s : ReaderState) → IsStand mode s → s ≡ stand.Gathering
    → (n : ℕ) × (card : List ℕ) × (j : Joined) × (count : ℕ) × (mode ≡ gathering n card j count)
gathers awaiting s h e = let bad : stand.Awaiting ≡ stand.Gathering = sym h ∙ e in cc
gathers dropping s h e = let bad : stand.Dropping ≡ stand.Gathering = sym h ∙ e in cc
gathers (gathering n card j count) s h e = (n, card, j, count, refl)
