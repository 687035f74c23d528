-- What the statements of answers asked for.
use Rattle.std.proofs.Common.{ℕ, Option, Some, None, Result, Ok, Err, refl}
use Rattle.macro_statements.specs.Requests.{Asked}
use Rattle.macro_reader.specs.Rooms.{IsValidWith, told_with}
use Rattle.macro_reader.specs.Scripts.{told_at_end}
use Rattle.macro_reader.specs.declared.reading.Fault.{Fault}
use Rattle.script_steps.specs.Taken.{AreAsked}

-- those of a line
pub asked_with : (fed : Result (Option ℕ) Fault) (asked : Asked) → IsValidWith fed asked → AreAsked asked (told_with fed asked)
asked_with (Ok None) asked valid = tt
asked_with (Ok (Some line)) asked valid = ((refl, valid), tt)
asked_with (Err fault) asked valid = (tt, tt)

-- and of the end, which brings only faults
pub asked_at_end : (ended : Result (Unit {0}) Fault) (asked : Asked) → AreAsked asked (told_at_end ended)
asked_at_end (Ok u) asked = tt
asked_at_end (Err fault) asked = (tt, tt)
