-- What the lines of a script are to its reader, and which of them are listed together.
use Rattle.std.specs.Prelude.{◌≡◌, ◌+◌, ℕ, Bool, true, false, List, [], ◌∷◌, Option, Some, None, length, map}
use Rattle.std.specs.Prelude.{replicate, take}
use Rattle.macro_reader.specs.Columns.{Line}
use Rattle.macro_reader.specs.Roles.{IsStand, Role, aside, breaking, first, further, gone, role, roles_after}
use Rattle.macro_reader.specs.Scripts.{Mode, awaiting, dropping, gathering, moved}
use Rattle.macro_reader.specs.declared.reading.ReaderState.{ReaderState}
use Rattle.script_steps.specs.Output.{Marked}
use Rattle.explain_faults.specs.Places.{line_in}
use Rattle.explain_faults.specs.Roles.{brought_by, role_in}
use Rattle.explain_faults.specs.declared.lines.SourceLine.{SourceLine}
use Rattle.explain_faults.specs.declared.roles.Brought.{Brought}
use Rattle.explain_faults.specs.declared.roles.Brought.TheVariants as brought
use Rattle.explain_faults.specs.declared.roles.Role as code

-- What a reader is fed of a line: columns 1 to 80.
abbrev pub fed_of : List ℕ → SourceLine → Line
fed_of script line = take 80 (line_in script line)

-- What the first lines of a script are to its reader.
abbrev pub roles_in : List ℕ → List SourceLine → List Role
roles_in script lines = roles_after 0 awaiting (map (fed_of script) lines)

-- The line that breaks a rule of continuation isn't carried out, nor are those that are dropped after it.
abbrev pub is_lost : Role → Bool
is_lost aside = false
is_lost first = false
is_lost further = false
is_lost breaking = true
is_lost gone = true

-- The lines of a statement after its first. The last may break a rule of continuation.
abbrev pub AreFurther : List Role → Type 0
AreFurther [] = Unit {0}
AreFurther (further ∷ roles) = AreFurther roles
AreFurther (breaking ∷ []) = Unit {0}
AreFurther _ = ⊥

-- What is listed together: the lines of a statement, with its answer; one comment, empty line or dropped line, without
-- an answer; or no line and no answer.
abbrev pub IsGroup : List Role → Option Marked → Type 0
IsGroup [] None = Unit {0}
IsGroup (aside ∷ []) None = Unit {0}
IsGroup (gone ∷ []) None = Unit {0}
IsGroup (first ∷ roles) (Some m) = AreFurther roles
IsGroup _ _ = ⊥

-- ---- one line

-- Whether it's the last that is listed together with others, by its role and what it brings.
abbrev pub brings : Brought → Bool
brings brought.Nothing = false
brings brought.Answer = true
brings (brought.Fault kind) = true

abbrev pub ends_by : Role → Brought → Bool
ends_by aside b = true
ends_by first b = brings b
ends_by further b = brings b
ends_by breaking b = brings b
ends_by gone b = true

-- Its role is the one that it has to a reader, by the reader's states before and after it, and by what it brings.
abbrev pub IsRoleBy : ReaderState → ReaderState → Brought → code.Role → Type 0
IsRoleBy before after b r =
    (number : ℕ) (mode : Mode) (line : Line) → IsStand mode before → IsStand (moved number mode line).0 after
    → brought_by (moved number mode line).1 ≡ b → role_in r ≡ role mode line

-- ---- the lines of the statement that is open

-- A reader in this state has these lines of its statement, with these roles.
abbrev pub AreOpen : Mode → List SourceLine → List Role → Type 0
AreOpen awaiting lines roles = (lines ≡ []) × (roles ≡ [])
AreOpen dropping lines roles = (lines ≡ []) × (roles ≡ [])
AreOpen (gathering number card joined count) lines roles =
    (length lines ≡ count + 1) × (roles ≡ first ∷ replicate count further)

-- The last of this many lines was taken last.
abbrev pub IsLastTaken : ℕ → Option SourceLine → Type 0
IsLastTaken count None = count ≡ 0
IsLastTaken count (Some line) = line.number ≡ count
