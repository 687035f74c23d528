-- What is noted of an answer.
use Rattle.std.specs.Prelude.{ℕ, List, drop, Option, Some, None, Result, Ok, Err}
use Rattle.explain_standing.specs.Trails.{Marks, with_mark, stepped}
use Rattle.script_steps.specs.Script.{NoFeed}
use Rattle.script_steps.specs.Steps.{IsLineOf}
use Rattle.script_steps.specs.declared.responses.Response.{Response}
use Rattle.script_steps.specs.declared.responses.Response.TheVariants as response
use Rattle.explain_standing.specs.declared.faults.FollowFault.{FollowFault}

-- An accepted statement is noted with what is read after it, and a step by how many changes are kept before it and
-- after it; nothing else is noted.
abbrev pub with_told : {V : Type 0} → V → ℕ → Option (ℕ × Response) → Marks V → Marks V
with_told seen before None t = t
with_told seen before (Some (line, response.Replied reply)) t = with_mark t line seen
with_told seen before (Some (line, response.Kept after)) t = stepped t before after
with_told seen before (Some (line, response.Refused why)) t = t
with_told seen before (Some (line, response.TooFar n)) t = t
with_told seen before (Some (line, response.TooFarAhead n)) t = t
with_told seen before (Some (line, response.Shown)) t = t
with_told seen before (Some (line, response.Map)) t = t
with_told seen before (Some (line, response.Fault kind)) t = t

-- The next line begins after this one's line feed; or no line feed follows from there on.
abbrev pub IsNextLine : List ℕ → ℕ → Result (Option ℕ) FollowFault → Type 0
IsNextLine script at (Ok (Some next)) = IsLineOf script at next
IsNextLine script at (Ok None) = NoFeed (drop at script)
IsNextLine script at (Err fault) = Unit {0}
