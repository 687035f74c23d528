-- What each line of a script is: whether it begins a statement, continues one, or isn't carried out.
use Rattle.std.specs.Prelude.{◌≡◌, ℕ, ◌+◌, Bool, ◌&&◌, ◌||◌, ◌==◌, if◌then◌else◌, List, [], ◌∷◌, ◌++◌, map, is_none}
use Rattle.std.specs.List.{flat_map}
use Rattle.macro_reader.specs.Columns.{Line, used, is_continued, is_skipped}
use Rattle.macro_reader.specs.Continuation.{Joined, with_line}
use Rattle.macro_reader.specs.Scripts.{Answer, Part, skipped, whole, broken, number_behind, Reads, Drops}
use Rattle.macro_reader.specs.Scripts.{Gathers, Mode, awaiting, dropping, gathering, moved}
use Rattle.macro_reader.specs.declared.reading.ReaderState.{ReaderState}
use Rattle.macro_reader.specs.declared.reading.ReaderState.TheVariants as stand

pub data Role : Type 0 where
  -- a comment or an empty line
  aside : Role
  -- the first line of a statement, and a continuation line
  first : Role
  further : Role
  -- the line that breaks a rule of continuation, and those after it that are dropped
  breaking : Role
  gone : Role

abbrev pub first_role : Bool → Role
first_role skips = if skips then aside else first

abbrev pub further_role : Bool → Role
further_role breaks = if breaks then breaking else further

-- what a line is to a reader in this state
abbrev pub role : Mode → Line → Role
role awaiting line = first_role (is_skipped line)
role dropping line = gone
role (gathering n card j count) line =
    further_role (is_none (with_line j (used line)) || ((count == 8) && is_continued line))

-- what the lines of a script are, the first of which follows this many lines
abbrev pub roles_after : ℕ → Mode → List Line → List Role
roles_after before m [] = []
roles_after before m (l ∷ ls) = role m l ∷ roles_after (before + 1) (moved (number_behind before) m l).0 ls

-- and what those of a part are
abbrev pub roles_of : Part → List Role
roles_of (skipped line) = aside ∷ []
roles_of (whole line lines) = first ∷ map (λ l. further) lines
roles_of (broken line before at dropped) = first ∷ (map (λ l. further) before ++ breaking ∷ map (λ l. gone) dropped)

-- The lines are what the parts say.
abbrev pub RolesAreOfParts : Type 0
RolesAreOfParts =
    (lines : List Line) (answers : List Answer) (parts : List Part) → Reads lines answers parts
    → roles_after 0 awaiting lines ≡ flat_map roles_of parts

-- If a broken statement ends them, or one that is open, its lines are likewise what it says.
abbrev pub RolesAreOfBroken : Type 0
RolesAreOfBroken =
    (lines : List Line) (answers : List Answer) (h : Drops lines answers)
    → roles_after 0 awaiting lines ≡ flat_map roles_of h.parts ++ roles_of (broken h.first h.before h.at h.dropped)

abbrev pub RolesAreOfOpen : Type 0
RolesAreOfOpen =
    (lines : List Line) (answers : List Answer) (number : ℕ) (card : List ℕ) (j : Joined) (count : ℕ)
    (h : Gathers lines answers number card j count)
    → roles_after 0 awaiting lines ≡ flat_map roles_of h.parts ++ first ∷ map (λ l. further) h.before

-- The code's name for a reader's state.
abbrev pub IsStand : Mode → ReaderState → Type 0
IsStand awaiting s = s ≡ stand.Awaiting
IsStand dropping s = s ≡ stand.Dropping
IsStand (gathering n card j count) s = s ≡ stand.Gathering
