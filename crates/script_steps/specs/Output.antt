-- The output of a script: each response is that of the plain machine, run over only the statements in effect then.
use Rattle.std.specs.Prelude.{ℕ, ◌+◌, List, [], ◌∷◌, ◌++◌, length, map, Bool, true, false, nat_le, if◌then◌else◌}
use Rattle.std.specs.Prelude.{Option, Some, None, Result, Ok, Err}
use Rattle.macro_operands.specs.declared.faults.FaultKind.{FaultKind}
use Rattle.macro_statements.specs.Requests.{Act, Asked, act, peek, map_asked, back, forward}
use Rattle.macro_reader.specs.Scripts as grammar
use Rattle.vsm_model.specs.declared.limits.Settings.{Settings}
use Rattle.vsm_model.specs.declared.replies.Reply.{Reply}
use Rattle.vsm_model.specs.Names.{NamedState, first_named_state}
use Rattle.vsm_model.specs.Standing.{Standing, Call, Apply, Back, Forward, Look, Answer, NoMemory, Moved, TooFar, Shown}
use Rattle.vsm_model.specs.Standing.{Heard, IsAccepted, nothing_stands, stand, alone, outcome_answer}
use Rattle.bench_core.specs.Machine.{Why, statement_step, shown_at}
use Rattle.script_steps.specs.Responses.{response_to, reading_response, bytes_of, response_text, lines_behind}
use Rattle.script_steps.specs.Responses.{is_refused, numbered}
use Rattle.script_steps.specs.declared.responses.Response.{Response}
use Rattle.script_steps.specs.declared.responses.Response.TheVariants as response

-- An answer of the grammar, and whether its statement was refused because memory ran out.
pub record Marked : Type 0 where
  pub answer : grammar.Answer
  pub unmet : Bool

-- the call that a request is; a reading of bytes or a map is none
abbrev pub call_in : Asked → Option (Call Act)
call_in (act x) = Some (Apply x)
call_in (back n) = Some (Back n)
call_in (forward n) = Some (Forward n)
call_in _ = None

module _ (settings : Settings) where
  -- The state of the plain machine after only the standing statements.
  abbrev pub alone_now : Standing Act Reply → NamedState
  alone_now l = alone first_named_state (statement_step settings) (map (λ x. x.statement) l.stood)

  -- The answer to a call when these statements are in effect; it is refused because memory runs out, or isn't.
  abbrev pub answer_to : Standing Act Reply → Bool → Call Act → Answer Reply Why
  answer_to l true (Apply x) = NoMemory
  answer_to l false (Apply x) = outcome_answer (statement_step settings (alone_now l) x)
  answer_to l unmet (Back n) = if nat_le n l.kept then Moved else TooFar l.kept
  answer_to l unmet (Forward n) = if nat_le n (length l.undone) then Moved else TooFar (length l.undone)
  answer_to l unmet Look = Shown

  -- Only a statement that the plain machine accepts is refused because memory runs out.
  abbrev pub IsMet : Standing Act Reply → Bool → Result Asked FaultKind → Type 0
  IsMet l false what = Unit {0}
  IsMet l true (Ok (act x)) = IsAccepted (statement_step settings (alone_now l) x)
  IsMet l true _ = ⊥

  -- The statements in effect after a call,
  abbrev pub stands_behind : Standing Act Reply → Bool → Option (Call Act) → Standing Act Reply
  stands_behind l unmet None = l
  stands_behind l unmet (Some call) = stand settings.history l call (answer_to l unmet call)

  -- after a request or a fault,
  abbrev pub stands_with : Standing Act Reply → Bool → Result Asked FaultKind → Standing Act Reply
  stands_with l unmet (Err kind) = l
  stands_with l unmet (Ok asked) = stands_behind l unmet (call_in asked)

  -- and the response to it: to a call, or to a reading of bytes in the state of only the standing statements.
  abbrev pub responded_to : Standing Act Reply → Bool → Call Act → Response
  responded_to l unmet call =
      response_to call (answer_to l unmet call) (stands_behind l unmet (Some call)).kept

  abbrev pub responded : Standing Act Reply → Bool → Result Asked FaultKind → Response
  responded l unmet (Err kind) = response.Fault kind
  responded l unmet (Ok (act x)) = responded_to l unmet (Apply x)
  responded l unmet (Ok (peek address count)) = reading_response (shown_at (alone_now l) address count)
  responded l unmet (Ok map_asked) = response.Map
  responded l unmet (Ok (back n)) = responded_to l unmet (Back n)
  responded l unmet (Ok (forward n)) = responded_to l unmet (Forward n)

  -- The bytes that it shows.
  abbrev pub bytes_shown : Standing Act Reply → Result Asked FaultKind → List ℕ
  bytes_shown l (Ok (peek address count)) = bytes_of (shown_at (alone_now l) address count)
  bytes_shown l _ = []

  abbrev pub stands_after : Standing Act Reply → Marked → Standing Act Reply
  stands_after l m = stands_with l m.unmet m.answer.what

  abbrev pub stands_all : Standing Act Reply → List Marked → Standing Act Reply
  stands_all l [] = l
  stands_all l (m ∷ ms) = stands_all (stands_after l m) ms

  abbrev pub AllMet : Standing Act Reply → List Marked → Type 0
  AllMet l [] = Unit {0}
  AllMet l (m ∷ ms) = IsMet l m.unmet m.answer.what × AllMet (stands_after l m) ms

  -- The lines after that of a response when these statements are in effect: a map is that of only the standing
  -- statements.
  abbrev pub lines_with : Standing Act Reply → Response → List ℕ
  lines_with l told = lines_behind settings (alone_now l) l.kept told

  -- All lines of one answer,
  abbrev pub text_of : Standing Act Reply → Marked → List ℕ
  text_of l m =
      let told = responded l m.unmet m.answer.what in
      numbered m.answer.line (response_text (bytes_shown l m.answer.what) told) ++ lines_with (stands_after l m) told

  -- the lines of output,
  abbrev pub texts : Standing Act Reply → List Marked → List ℕ
  texts l [] = []
  texts l (m ∷ ms) = text_of l m ++ texts (stands_after l m) ms

  -- and how many of them are refusals.
  abbrev pub refusals : Standing Act Reply → List Marked → ℕ
  refusals l [] = 0
  refusals l (m ∷ ms) =
      (if is_refused (responded l m.unmet m.answer.what) then 1 else 0) + refusals (stands_after l m) ms

  -- The output of a script with these answers, at whose start no statement was in effect.
  abbrev pub output : List Marked → List ℕ
  output = texts nothing_stands

  -- The calls that the answers represent, each with its answer.
  abbrev pub heard_call : Standing Act Reply → Bool → Option (Call Act) → List (Heard Act Reply Why)
      → List (Heard Act Reply Why)
  heard_call l unmet None hs = hs
  heard_call l unmet (Some call) hs = record { call = call; answer = answer_to l unmet call } ∷ hs

  abbrev pub heard_with : Standing Act Reply → Bool → Result Asked FaultKind → List (Heard Act Reply Why)
      → List (Heard Act Reply Why)
  heard_with l unmet (Err kind) hs = hs
  heard_with l unmet (Ok asked) hs = heard_call l unmet (call_in asked) hs

  abbrev pub heard_all : Standing Act Reply → List Marked → List (Heard Act Reply Why)
  heard_all l [] = []
  heard_all l (m ∷ ms) = heard_with l m.unmet m.answer.what (heard_all (stands_after l m) ms)
