-- The PEEKs that show bytes in a state that isn't undone later.
use Rattle.std.specs.Prelude.{ℕ, nat_le, List, [], ◌∷◌, ◌++◌, length, filter, Result, Ok, Err}
use Rattle.bench_core.specs.Machine.{Why, shown_at}
use Rattle.macro_operands.specs.declared.faults.FaultKind.{FaultKind}
use Rattle.macro_statements.specs.Requests.{Act, Asked, Written, peek}
use Rattle.vsm_model.specs.declared.limits.Settings.{Settings}
use Rattle.vsm_model.specs.declared.replies.Reply.{Reply}
use Rattle.vsm_model.specs.Standing.{Standing}
use Rattle.script_steps.specs.Output.{Marked, alone_now}
use Rattle.explain_standing.specs.Lined.{lined_after, plain}

-- A PEEK: how many statements are in effect, its line, its address, and how many bytes it shows.
pub record Reading : Type 0 where
  pub depth : ℕ
  pub line : ℕ
  pub address : Written
  pub count : ℕ

abbrev pub if_shown : Result (List ℕ) Why → Reading → List Reading
if_shown (Ok bytes) r = r ∷ []
if_shown (Err why) r = []

module _ (settings : Settings) where
  -- the PEEK of an answer, if it shows bytes
  abbrev pub reading_asked : Standing (ℕ × Act) Reply → ℕ → Result Asked FaultKind → List Reading
  reading_asked l line (Ok (peek address count)) =
      if_shown (shown_at (alone_now settings (plain l)) address count)
      (record { depth = length l.stood; line = line; address = address; count = count })
  reading_asked l line _ = []

  -- Of the PEEKs up to an answer, the newest first, those in whose state nothing is undone by it.
  abbrev pub readings_after : Standing (ℕ × Act) Reply → List Reading → Marked → List Reading
  readings_after l rs m =
      filter (λ r. nat_le r.depth (length (lined_after settings l m).stood))
      (reading_asked l m.answer.line m.answer.what ++ rs)

  abbrev pub readings_all : Standing (ℕ × Act) Reply → List Reading → List Marked → List Reading
  readings_all l rs [] = rs
  readings_all l rs (m ∷ ms) = readings_all (lined_after settings l m) (readings_after l rs m) ms
