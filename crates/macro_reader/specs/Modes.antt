-- The state of the code's reader, as the grammar sees it.
use Rattle.std.specs.Prelude.{ℕ, List, [], ◌∷◌, Err}
use Rattle.macro_reader.specs.Continuation.{Joined, begun}
use Rattle.macro_reader.specs.Scripts as grammar
use Rattle.macro_reader.specs.Scripts.{Answer}
use Rattle.macro_statements.specs.Statements.{statement_with}
use Rattle.macro_operands.specs.declared.faults.FaultKind.TheVariants as kind
use Rattle.macro_reader.specs.declared.modes.OpenField.{OpenField}
use Rattle.macro_reader.specs.declared.modes.OpenStatement.{OpenStatement}
use Rattle.macro_reader.specs.declared.modes.Due.{Due}
use Rattle.macro_reader.specs.declared.modes.Due.TheVariants as due
use Rattle.macro_reader.specs.declared.modes.Mode.{Mode}
use Rattle.macro_reader.specs.declared.modes.Mode.TheVariants.{Awaiting, Dropping, Gathering}

-- The field that is gathered so far.
abbrev pub joined : OpenField → Joined
joined g = record { text = g.text.items; at = g.at; goes_on = g.goes_on }

-- The grammar's state for a reader that has this statement, which is open or was the last one.
abbrev pub mode_of : Mode → OpenStatement → grammar.Mode
mode_of Awaiting o = grammar.awaiting
mode_of Dropping o = grammar.dropping
mode_of Gathering o = grammar.gathering o.number o.first (joined o.gathered) o.gathered.lines

-- The answers that are due, by the statement as the line leaves it.
abbrev pub due_of : Due → OpenStatement → List Answer
due_of due.Nothing o = []
due_of due.Line o = record { line = o.number; what = statement_with o.first (begun o.first).text } ∷ []
due_of due.Whole o = record { line = o.number; what = statement_with o.first (joined o.gathered).text } ∷ []
due_of due.Broken o = record { line = o.number; what = Err kind.Continuation } ∷ []

-- How many continuation lines the statement may have: one that is open may get another.
abbrev pub most_lines : Mode → ℕ
most_lines Awaiting = 9
most_lines Dropping = 9
most_lines Gathering = 8
