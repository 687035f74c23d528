-- The names with their words and what ended the areas and cells there, as they are kept.
use Rattle.std.specs.Prelude.{ℕ, suc, Bool, true, false, not, ◌&&◌, ◌==◌, if◌then◌else◌, Option, Some, None}
use Rattle.std.specs.Prelude.{List, [], ◌∷◌}
use Rattle.vsm_model.specs.Names.{same_name}
use Rattle.vsm_model.specs.State.{State}
use Rattle.explain_who.specs.Taken.{taken_at}
use Rattle.explain_findings.specs.Endings.{first_line, is_of_run, is_used}
use Rattle.explain_findings.specs.declared.endings.CanEnd.{CanEnd}
use Rattle.explain_findings.specs.declared.endings.CanEnd.TheVariants as ends
use Rattle.explain_findings.specs.declared.endings.Endings.{Endings}
use Rattle.explain_findings.specs.declared.endings.NameEnding.{NameEnding}

-- what a service can end
abbrev pub can_end_in : CanEnd → ℕ → Bool
can_end_in ends.Nothing address = false
can_end_in (ends.Run first count) address = is_of_run first count address
can_end_in (ends.Cell cell) address = cell == address
can_end_in ends.Anything address = true

-- neither an area nor a cell in use is at a word any longer
abbrev pub ended_now : State → CanEnd → Option ℕ → Bool
ended_now s can None = false
ended_now s can (Some word) = can_end_in can word && not (is_used (taken_at s word))

-- the entry of a name
abbrev pub entry_of : List NameEnding → List ℕ → Option NameEnding
entry_of [] name = None
entry_of (e ∷ es) name = if same_name e.name.bytes name then Some e else entry_of es name

-- its place, or the number of entries if the name has none
abbrev pub place_of : List NameEnding → List ℕ → ℕ
place_of [] name = 0
place_of (e ∷ es) name = if same_name e.name.bytes name then 0 else suc (place_of es name)

abbrev pub word_in : Option NameEnding → Option ℕ
word_in None = None
word_in (Some e) = Some e.word

abbrev pub ended_in : Option NameEnding → Option ℕ
ended_in None = None
ended_in (Some e) = e.ended

-- the line after a statement: a line that is there stays
abbrev pub ended_after : State → CanEnd → ℕ → NameEnding → Option ℕ
ended_after s can line e = first_line e.ended (if ended_now s can (Some e.word) then Some line else None)

-- the word of a name, and the line of the statement that ended what is there
abbrev pub word_kept : Endings → List ℕ → Option ℕ
word_kept known name = word_in (entry_of known.names.items name)

abbrev pub ending_kept : Endings → List ℕ → Option ℕ
ending_kept known name = ended_in (entry_of known.names.items name)
