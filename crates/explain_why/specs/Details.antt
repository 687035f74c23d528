-- What is written around the reasons: where a statement is wrong, which name isn't defined, and which line brought what
-- keeps a statement from its effect.
use Rattle.std.specs.Prelude.{◌≡◌, ℕ, ◌+◌, min, List, [], ◌∷◌, ◌++◌, codes, decimal, drop, map, Option, Some, None}
use Rattle.std.specs.Io.KnownBytes.{Appends}
use Rattle.vsm_model.specs.Names.{NamedState}
use Rattle.macro_operands.specs.Requests.{asked_in}
use Rattle.macro_operands.specs.declared.faults.FaultKind.{FaultKind}
use Rattle.macro_reader.specs.Columns.{Line, used}
use Rattle.explain_faults.specs.Places.{MarksOperand}
use Rattle.explain_faults.specs.declared.carets.Caret.{Caret}
use Rattle.explain_faults.specs.declared.gathered.TextPlace.{TextPlace}
use Rattle.text_output.specs.Writing.{Puts}
use Rattle.text_output.specs.declared.writing.Gathered.{Gathered}
use Rattle.explain_why.specs.Undefined.{first_undefined, values_asked}
use Rattle.explain_why.specs.Obstacles.{bringer_text}
use Rattle.explain_why.specs.declared.ahead.NextStatement as ahead
use Rattle.explain_why.specs.declared.ahead.NextStatement.TheVariants as variant
use Rattle.explain_why.specs.declared.definitions.Definition.{Definition}
use Rattle.explain_why.specs.declared.definitions.Definition.TheVariants as definition
use Rattle.explain_why.specs.declared.obstacles.Bringer.{Bringer}

-- ---- the texts

-- A place in a statement whose first line has this number; a statement has ten lines at most.
abbrev pub at_text : ℕ → TextPlace → List ℕ
at_text first place =
    codes "  line " ++ (decimal (first + min place.line 9)
    ++ (codes ", column " ++ (decimal place.column ++ codes ": ")))

abbrev pub undefined_text : List ℕ → List ℕ
undefined_text name = codes "  " ++ (name ++ codes " isn't defined\n")

-- the line of a definition, and that of the BACK that undid it
abbrev pub made_text : ℕ → List ℕ
made_text line = codes "  line " ++ (decimal line ++ codes " defined it, ")

abbrev pub back_text : ℕ → List ℕ
back_text line = codes "BACK in line " ++ (decimal line ++ codes " took that back")

-- by how many changes FORWARD makes it again, or which line discarded it
abbrev pub undone_text : ℕ → ℕ → List ℕ
undone_text back steps =
    codes "and " ++ (back_text back ++ (codes ": FORWARD " ++ (decimal steps ++ codes " defines it again\n")))

abbrev pub discarded_text : ℕ → ℕ → List ℕ
discarded_text back by = back_text back ++ (codes ", and line " ++ (decimal by ++ codes " discarded it\n"))

abbrev pub definition_text : Definition → List ℕ
definition_text definition.Missing = codes "  no earlier accepted statement defines it\n"
definition_text (definition.Made line) = []
definition_text (definition.Undone line back steps) = made_text line ++ undone_text back steps
definition_text (definition.Discarded line back by) = made_text line ++ discarded_text back by

-- that a name isn't defined, if there is one, and what became of its definition
abbrev pub name_text : Option (List ℕ) → Definition → List ℕ
name_text None definition = []
name_text (Some name) definition = undefined_text name ++ definition_text definition

-- ---- the details

-- Columns 1 to 71 of the first of some lines, and of the others.
abbrev pub first_used : List Line → List ℕ
first_used [] = used []
first_used (line ∷ lines) = used line

abbrev pub further_used : List Line → List (List ℕ)
further_used lines = map used (drop 1 lines)

-- A statement of these lines, the first of which has this number, has a fault: its caret is there.
abbrev pub IsFaultPlace : ℕ → List Line → FaultKind → List ℕ → Type 0
IsFaultPlace first own kind its =
    (caret : Caret) × MarksOperand (first_used own) (further_used own) kind caret × (its ≡ at_text first caret.place)

-- What is written of lines that ask for this in a state: of a wrong statement where it's wrong; of a request the first
-- name in its values that isn't defined, and what became of its definition, and which line brought what keeps it from
-- its effect. Of others nothing is said here.
abbrev pub IsDetail : ℕ → List Line → NamedState → ahead.NextStatement → Definition → Option Bringer → List ℕ → Type 0
IsDetail first own m (variant.Request request) definition bringer its =
    its ≡ name_text (first_undefined m (values_asked (asked_in request))) definition ++ bringer_text bringer
IsDetail first own m (variant.Fault kind) definition bringer its = IsFaultPlace first own kind its
IsDetail first own m variant.Open definition bringer its = Unit {0}
IsDetail first own m variant.Aside definition bringer its = Unit {0}

-- It follows all text before it, and more may follow it.
abbrev pub PutsDetail : ℕ → List Line → NamedState → ahead.NextStatement → Definition → Option Bringer
    → Option (List ℕ) → Option (List ℕ) → Gathered → Gathered → Type 0
PutsDetail first own m asked definition bringer old new before after =
    (its : List ℕ) × IsDetail first own m asked definition bringer its
    × ((behind : List ℕ) × Puts old new before after (its ++ behind))

-- It's in what is written.
abbrev pub WritesDetail : ℕ → List Line → NamedState → ahead.NextStatement → Definition → Option Bringer
    → Option (List ℕ) → Option (List ℕ) → Type 0
WritesDetail first own m asked definition bringer old new =
    (its : List ℕ) × IsDetail first own m asked definition bringer its
    × ((front : List ℕ) × (behind : List ℕ) × Appends old new (front ++ (its ++ behind)))
