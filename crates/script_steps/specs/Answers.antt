-- How a bench answers a request or a fault, and what is reported of a line.
use Rattle.std.specs.Prelude.{◌≡◌, ℕ, List, [], ◌∷◌, ◌++◌, length, if◌then◌else◌, Option, Some, None, Result, Ok, Err}
use Rattle.macro_operands.specs.declared.faults.FaultKind.{FaultKind}
use Rattle.macro_statements.specs.Requests.{Act, Asked, act, peek, map_asked, back, forward}
use Rattle.macro_reader.specs.Scripts as grammar
use Rattle.vsm_model.specs.declared.limits.Settings.{Settings}
use Rattle.vsm_model.specs.declared.replies.Reply.{Reply}
use Rattle.vsm_model.specs.Names.{NamedState}
use Rattle.vsm_model.specs.Standing.{Bench, Call, Apply, Back, Forward, Answer, Keeps}
use Rattle.bench_core.specs.Machine.{Why, statement_step, shown_at}
use Rattle.script_steps.specs.Responses.{response_to, reading_response, response_text, lines_behind}
use Rattle.script_steps.specs.Responses.{is_refused, numbered}
use Rattle.script_steps.specs.declared.responses.Response.{Response}
use Rattle.script_steps.specs.declared.responses.Response.TheVariants as response

-- The bench answers a call as the relation of one call allows.
abbrev pub RespondsTo : Settings → Bench NamedState → Call Act → Response → Bench NamedState → Type 0
RespondsTo settings b call told c =
    (answer : Answer Reply Why) × Keeps (statement_step settings) settings.history b call answer c
    × (told ≡ response_to call answer (length c.past))

-- The bytes that are shown are those of the reading, if it has any.
abbrev pub AreShown : Result (List ℕ) Why → List ℕ → Type 0
AreShown (Ok read) bytes = bytes ≡ read
AreShown (Err why) bytes = Unit {0}

-- A reading of bytes shows those of the present state; it, a map and a fault leave the bench as it was.
abbrev pub Responds : Settings → Bench NamedState → Result Asked FaultKind → Response → List ℕ → Bench NamedState
    → Type 0
Responds settings b (Err kind) told bytes c = (told ≡ response.Fault kind) × (c ≡ b)
Responds settings b (Ok (act x)) told bytes c = RespondsTo settings b (Apply x) told c
Responds settings b (Ok (peek address count)) told bytes c =
    (told ≡ reading_response (shown_at b.present address count))
    × AreShown (shown_at b.present address count) bytes × (c ≡ b)
Responds settings b (Ok map_asked) told bytes c = (told ≡ response.Map) × (c ≡ b)
Responds settings b (Ok (back n)) told bytes c = RespondsTo settings b (Back n) told c
Responds settings b (Ok (forward n)) told bytes c = RespondsTo settings b (Forward n) told c

-- A line has at most one answer, which is reported with the number of the statement's first line.
abbrev pub Tells : Settings → Bench NamedState → List grammar.Answer → Option (ℕ × Response) → List ℕ
    → Bench NamedState → Type 0
Tells settings b [] None bytes c = c ≡ b
Tells settings b (a ∷ []) (Some told) bytes c = (told.0 ≡ a.line) × Responds settings b a.what told.1 bytes c
Tells settings b _ _ bytes c = ⊥

-- What is reported whatever the bench is, which stays as it was.
abbrev pub IsToldAlone : List grammar.Answer → Option (ℕ × Response) → Type 0
IsToldAlone told shown =
    (settings : Settings) (b : Bench NamedState) (bytes : List ℕ) → Tells settings b told shown bytes b

-- The printed line of an answer, if there is one, with these bytes if they are shown; and the lines after it: those of
-- a map show the bench as it is then.
abbrev pub told_text : Settings → Bench NamedState → List ℕ → Option (ℕ × Response) → List ℕ
told_text settings b bytes None = []
told_text settings b bytes (Some told) =
    numbered told.0 (response_text bytes told.1) ++ lines_behind settings b.present (length b.past) told.1

-- how many lines are reported, and how many of them are refusals
abbrev pub told_count : Option (ℕ × Response) → ℕ
told_count None = 0
told_count (Some told) = 1

abbrev pub told_refused : Option (ℕ × Response) → ℕ
told_refused None = 0
told_refused (Some told) = if is_refused told.1 then 1 else 0
