-- The bytes of a script that a run has taken, and the answers that it gave to them.
use Rattle.std.specs.Prelude.{◌≡◌, ℕ, List, [], ◌∷◌, ◌++◌, length, take, map, Option, Some, None, Result, Ok, Err}
use Rattle.std.specs.List.{AllByRecursion}
use Rattle.macro_reader.specs.Scripts as grammar
use Rattle.vsm_model.specs.declared.limits.Settings.{Settings}
use Rattle.vsm_model.specs.Names.{NamedState, first_named_state}
use Rattle.vsm_model.specs.Standing.{Bench, Leads, Standing, new_bench, nothing_stands}
use Rattle.bench_core.specs.Machine.{statement_step, shown_at}
use Rattle.macro_operands.specs.declared.faults.FaultKind.{FaultKind}
use Rattle.macro_statements.specs.Requests.{Act, Asked, IsValidAsked, peek}
use Rattle.vsm_model.specs.declared.replies.Reply.{Reply}
use Rattle.script_steps.specs.Answers.{AreShown}
use Rattle.script_steps.specs.Output.{Marked, AllMet, alone_now, heard_all, refusals, responded, stands_all, texts}
use Rattle.script_steps.specs.Script.{columns, Within, IsPast, last_line}
use Rattle.bench_core.specs.Stands.{bench_of, settings_in}
use Rattle.script_steps.specs.declared.lines.Ending.{Ending}
use Rattle.script_steps.specs.declared.responses.Response.{Response}
use Rattle.script_steps.specs.declared.totals.RunTotals.{RunTotals}
use Rattle.script_steps.specs.declared.session.Session.{Session}
use Rattle.script_steps.specs.declared.session.TooLong.{TooLong}

abbrev pub answers_of : List Marked → List grammar.Answer
answers_of = map (λ m. m.answer)

-- the answers to the complete lines of a script that has not ended
abbrev pub Told : List (List ℕ) → List grammar.Answer → Type 0
Told lines answers = (kept : grammar.Kept) × grammar.IsBehind lines answers kept

-- A bench is led by the answers up to now, in which only statements that would have been accepted were refused because
-- memory ran out.
pub record Led (settings : Settings) (answers : List Marked) (b : Bench NamedState) : Type 0 where
  pub leads : Leads (statement_step settings) settings.history (new_bench first_named_state)
      (heard_all settings nothing_stands answers) b
  pub met : AllMet settings nothing_stands answers

-- The answers of a script that passes no bound and has ended,
pub record Ended (settings : Settings) (given : List ℕ) (answers : List Marked) : Type 0 where
  pub lines : List (List ℕ)
  pub rest : List ℕ
  pub within : Within given lines rest
  pub told : grammar.Answers (map columns lines ++ last_line rest) (answers_of answers)
  pub met : AllMet settings nothing_stands answers

-- of one that has not ended, without an incomplete last line and an open statement,
pub record Unended (settings : Settings) (given : List ℕ) (answers : List Marked) : Type 0 where
  pub lines : List (List ℕ)
  pub rest : List ℕ
  pub within : Within given lines rest
  pub told : Told (map columns lines) (answers_of answers)
  pub met : AllMet settings nothing_stands answers

-- and of one that passes a bound at a byte, up to that byte.
pub record PassesBound (settings : Settings) (given : List ℕ) (answers : List Marked) : Type 0 where
  pub front : List ℕ
  pub byte : ℕ
  pub more : List ℕ
  pub split : given ≡ front ++ byte ∷ more
  pub lines : List (List ℕ)
  pub rest : List ℕ
  pub within : Within front lines rest
  pub past : IsPast lines rest byte
  pub told : Told (map columns lines) (answers_of answers)
  pub met : AllMet settings nothing_stands answers

-- A session that has taken these bytes, and given these answers.
pub record Took (settings : Settings) (given : List ℕ) (answers : List Marked) (s : Session) : Type 0 where
  pub lines : List (List ℕ)
  pub rest : List ℕ
  pub within : Within given lines rest
  pub count : s.lines ≡ length lines
  pub long : s.length ≡ length rest
  pub kept : s.kept.items ≡ take 80 rest
  pub told : grammar.IsBehind (map columns lines) (answers_of answers) s.reader
  pub led : Led settings answers (bench_of s.bench)
  pub under : settings_in s.bench ≡ settings
  pub statements : s.statements ≡ length answers
  pub refused : s.refused ≡ refusals settings nothing_stands answers

-- Bytes of a line were taken; or one of them passes a bound, whatever follows them.
abbrev pub TakesBytes : Settings → List ℕ → List Marked → Session → Result (Unit {0}) TooLong → Type 0
TakesBytes settings given answers s (Ok u) = Took settings given answers s
TakesBytes settings given answers s (Err e) = (behind : List ℕ) → PassesBound settings (given ++ behind) answers

-- This text is the output of these further answers.
abbrev pub IsTold : Settings → List Marked → List Marked → List ℕ → Type 0
IsTold settings answers more text = text ≡ texts settings (stands_all settings nothing_stands answers) more

-- These further answers are what is reported: none, or one, with its number and its response.
abbrev pub Brings : Settings → List Marked → List Marked → Option (ℕ × Response) → Type 0
Brings settings answers [] None = Unit {0}
Brings settings answers (m ∷ []) (Some told) =
    (told.0 ≡ m.answer.line)
    × (told.1 ≡ responded settings (stands_all settings nothing_stands answers) m.unmet m.answer.what)
Brings settings answers _ _ = ⊥

-- A reading's bytes are shown: those of the state of only the standing statements.
abbrev pub ShowsRead : Settings → Standing Act Reply → Result Asked FaultKind → List ℕ → Type 0
ShowsRead settings l (Ok (peek address count)) bytes = AreShown (shown_at (alone_now settings l) address count) bytes
ShowsRead settings l _ bytes = Unit {0}

-- These bytes are shown by further answers: none, or one.
abbrev pub Shows : Settings → List Marked → List Marked → List ℕ → Type 0
Shows settings answers (m ∷ []) bytes =
    ShowsRead settings (stands_all settings nothing_stands answers) m.answer.what bytes
Shows settings answers _ bytes = Unit {0}

-- This is what a statement asked for, and can be written, unless it's wrong,
abbrev pub IsAskedBy : Asked → Result Asked FaultKind → Type 0
IsAskedBy asked (Ok x) = (asked ≡ x) × IsValidAsked x
IsAskedBy asked (Err kind) = Unit {0}

-- and so did that of each of these answers: of none, or of one.
abbrev pub AreAsked : Asked → List grammar.Answer → Type 0
AreAsked asked = AllByRecursion (λ a. IsAskedBy asked a.what)

-- The totals of a script with these answers.
abbrev pub Counts : Settings → List Marked → RunTotals → Type 0
Counts settings answers totals =
    (totals.statements ≡ length answers) × (totals.refused ≡ refusals settings nothing_stands answers)

-- What the end of a script gives: the answers to a last line without a line feed, and then to an open statement, which
-- leaves the bench as it was; and what the reader keeps between the two.
pub record EndBrings (settings : Settings) (given : List ℕ) (answers : List Marked) (e : Ending) : Type 0 where
  pub more : List Marked
  pub also : List Marked
  pub last : Brings settings answers more e.last
  pub shows : Shows settings answers more e.shown.items
  pub unended : Brings settings (answers ++ more) also e.open_statement
  pub shows_on : Shows settings (answers ++ more) also e.shown.items
  pub led : Led settings (answers ++ more) (bench_of e.bench)
  pub led_on : Led settings ((answers ++ more) ++ also) (bench_of e.bench)
  pub ended : Ended settings given ((answers ++ more) ++ also)
  pub reader : grammar.Kept
  pub read : grammar.IsBehind (map columns ended.lines ++ last_line ended.rest) (answers_of (answers ++ more)) reader
  pub counts : Counts settings ((answers ++ more) ++ also) e.totals

-- And what their statements asked for.
pub record EndAsks (settings : Settings) (given : List ℕ) (answers : List Marked) (e : Ending) (asked : Asked)
    : Type 0 where
  pub brings : EndBrings settings given answers e
  pub last : AreAsked asked (answers_of brings.more)
  pub unended : AreAsked asked (answers_of brings.also)
