-- What a bench responds to a statement of a script, and its line of output.
use Rattle.std.specs.Prelude.{ℕ, List, [], ◌∷◌, ◌++◌, Bool, true, false, codes, Result, Ok, Err}
use Rattle.std.specs.Fmt.{decimal}
use Rattle.std.specs.List.{flat_map}
use Rattle.macro_operands.specs.declared.faults.FaultKind.{FaultKind}
use Rattle.macro_operands.specs.declared.faults.FaultKind.TheVariants as kind
use Rattle.macro_statements.specs.Requests.{Act}
use Rattle.vsm_model.specs.declared.limits.Settings.{Settings}
use Rattle.vsm_model.specs.declared.replies.Reply.{Reply}
use Rattle.vsm_model.specs.Names.{NamedState}
use Rattle.vsm_model.specs.Map.{map_text}
use Rattle.vsm_model.specs.Texts.{reply_text, code_text, hexadecimal, padded_decimal}
use Rattle.vsm_model.specs.Standing.{Call, Forward, Answer, Replied, RefusedFor, NoMemory, Moved}
use Rattle.vsm_model.specs.Standing.{TooFar, Shown}
use Rattle.bench_core.specs.Machine.{Why}
use Rattle.bench_core.specs.Refusals.{refusal_for}
use Rattle.bench_core.specs.Refusal.{Refusal}
use Rattle.bench_core.specs.Refusal.TheVariants as refusal
use Rattle.script_steps.specs.declared.responses.Response.{Response}
use Rattle.script_steps.specs.declared.responses.Response.TheVariants as response

-- The response to a call, by its answer and by the number of changes that are kept after it.
abbrev pub response_to : Call Act → Answer Reply Why → ℕ → Response
response_to call (Replied reply) kept = response.Replied reply
response_to call (RefusedFor why) kept = response.Refused (refusal_for why)
response_to call NoMemory kept = response.Refused refusal.NoMemory
response_to call Moved kept = response.Kept kept
response_to (Forward m) (TooFar n) kept = response.TooFarAhead n
response_to call (TooFar n) kept = response.TooFar n
response_to call Shown kept = response.Kept kept

-- the response to a reading: that the bytes are shown, or why they aren't
abbrev pub reading_response : Result (List ℕ) Why → Response
reading_response (Ok bytes) = response.Shown
reading_response (Err why) = response.Refused (refusal_for why)

-- and the bytes of it
abbrev pub bytes_of : Result (List ℕ) Why → List ℕ
bytes_of (Ok bytes) = bytes
bytes_of (Err why) = []

abbrev pub fault_word : FaultKind → List ℕ
fault_word kind.Column = codes "COLUMN"
fault_word kind.Continuation = codes "CONTINUATION"
fault_word kind.Operation = codes "OPERATION"
fault_word kind.Operand = codes "OPERAND"
fault_word kind.Repeated = codes "REPEATED"
fault_word kind.Missing = codes "MISSING"
fault_word kind.Value = codes "VALUE"
fault_word kind.LeftOut = codes "LEFTOUT"

-- two hexadecimal digits for each byte
abbrev pub shown_text : List ℕ → List ℕ
shown_text bytes = codes "D=" ++ flat_map (hexadecimal 2) bytes

abbrev pub refusal_text : Refusal → List ℕ
refusal_text refusal.Name = codes "REFUSED NAME"
refusal_text (refusal.Abend code) = codes "ABEND " ++ code_text code
refusal_text refusal.NoMemory = codes "REFUSED MEMORY"

-- the text of a response, with these bytes if they are shown
abbrev pub response_text : List ℕ → Response → List ℕ
response_text bytes (response.Replied reply) = reply_text reply
response_text bytes (response.Refused r) = refusal_text r
response_text bytes response.Shown = shown_text bytes
response_text bytes (response.Kept n) = codes "KEPT=" ++ decimal n
response_text bytes (response.TooFar n) = codes "REFUSED KEPT=" ++ decimal n
response_text bytes (response.TooFarAhead n) = codes "REFUSED UNDONE=" ++ decimal n
response_text bytes (response.Fault k) = codes "FAULT " ++ fault_word k
response_text bytes response.Map = codes "MAP"

-- the lines after that of a response, in this state and with this many changes kept: those of the map, and none after
-- any other
abbrev pub lines_behind : Settings → NamedState → ℕ → Response → List ℕ
lines_behind settings m kept response.Map = map_text settings m kept
lines_behind settings m kept _ = []

-- a response that counts as refused: a fault, a refusal or an abend
abbrev pub is_refused : Response → Bool
is_refused (response.Replied reply) = false
is_refused (response.Refused r) = true
is_refused response.Shown = false
is_refused (response.Kept n) = false
is_refused (response.TooFar n) = true
is_refused (response.TooFarAhead n) = true
is_refused (response.Fault k) = true
is_refused response.Map = false

-- the number of the statement's first line, a blank, the text, a line feed
abbrev pub numbered : ℕ → List ℕ → List ℕ
numbered line text = padded_decimal 7 line ++ (32 ∷ (text ++ 10 ∷ []))
