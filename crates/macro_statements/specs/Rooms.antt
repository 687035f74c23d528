-- A room that the code is lent for a request.
use Rattle.std.specs.Prelude.{Result, Ok, Err}
use Rattle.macro_operands.specs.declared.faults.FaultKind.{FaultKind}
use Rattle.macro_operands.specs.Requests.{Asked, asked_in}
use Rattle.macro_operands.specs.declared.requests.Request.{Request}

-- The answer of the code that puts a request into a room or reports a fault.
abbrev pub left : Result (Unit {0}) FaultKind → Request → Result Asked FaultKind
left (Ok u) r = Ok (asked_in r)
left (Err e) r = Err e
