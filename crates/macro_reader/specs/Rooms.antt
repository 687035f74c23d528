-- What a line brings if its request is put into a room that the reader is lent.
use Rattle.std.specs.Prelude.{ℕ, List, [], ◌∷◌, Option, Some, None, Result, Ok, Err, ⊤}
use Rattle.macro_statements.specs.Requests.{Asked, IsValidAsked}
use Rattle.macro_reader.specs.Scripts.{Answer}
use Rattle.macro_reader.specs.declared.reading.Fault.{Fault}

-- What a line made a reader answer: the request in the room, if the line ends a statement whose first line has this
-- number.
abbrev pub told_with : Result (Option ℕ) Fault → Asked → List Answer
told_with (Ok None) asked = []
told_with (Ok (Some line)) asked = record { line = line; what = Ok asked } ∷ []
told_with (Err fault) asked = record { line = fault.line; what = Err fault.kind } ∷ []

-- A request that a reader leaves there is one that a line can spell.
abbrev pub IsValidWith : Result (Option ℕ) Fault → Asked → Type 0
IsValidWith (Ok None) asked = ⊤
IsValidWith (Ok (Some line)) asked = IsValidAsked asked
IsValidWith (Err fault) asked = ⊤
