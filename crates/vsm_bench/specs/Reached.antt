-- What holds of each state of a bench.
use Rattle.std.specs.Prelude.{◌≡◌, true, List, All, ⊤}
use Rattle.vsm_model.specs.declared.limits.Settings.{Settings}
use Rattle.vsm_model.specs.declared.replies.Reply.{Reply}
use Rattle.vsm_model.specs.Regions.{settings_valid}
use Rattle.vsm_model.specs.Names.{NamedState, first_named_state}
use Rattle.vsm_model.specs.Standing.{Accepted, Call, Apply, Heard, Bench, new_bench, alone, Leads}
use Rattle.vsm_model.specs.WellFormed.{IsWellFormedNamed}
use Rattle.macro_reader.specs.Requests.{Act, act, IsValidAct, AskedHasBytes}
use Rattle.bench_core.specs.Machine.{Why, statement_step}

-- A statement as a bench is given it: it can be written, and what it stores are bytes, as for each statement of the
-- code (`laws::stores_bytes`).
pub record IsGiven (x : Act) : Type 0 where
  pub valid : IsValidAct x
  pub has_bytes : AskedHasBytes (act x)

-- If accepted, it leaves a well-formed state well-formed.
abbrev pub AcceptedLeavesWellFormed : Type 0
AcceptedLeavesWellFormed =
    (settings : Settings) (m n : NamedState) (x : Act) (reply : Reply) →
    settings_valid settings ≡ true → IsGiven x → IsWellFormedNamed settings m →
    statement_step settings m x ≡ Accepted n reply → IsWellFormedNamed settings n

-- So the state after any list of statements run alone, as the headline runs those in effect, is well-formed,
abbrev pub ReachedIsWellFormed : Type 0
ReachedIsWellFormed =
    (settings : Settings) (xs : List Act) → settings_valid settings ≡ true → All IsGiven xs →
    IsWellFormedNamed settings (alone first_named_state (statement_step settings) xs)

-- the statement of a call, if it has one, is as a bench is given it
abbrev pub IsGivenCall : Call Act → Type 0
IsGivenCall (Apply x) = IsGiven x
IsGivenCall _ = ⊤

-- each state that a bench represents is well-formed
pub record HasWellFormed (settings : Settings) (b : Bench NamedState) : Type 0 where
  pub past : All (IsWellFormedNamed settings) b.past
  pub present : IsWellFormedNamed settings b.present
  pub later : All (IsWellFormedNamed settings) b.later

-- and so are all states of a bench after any list of calls: the present one, and those that it can go back and forward
-- to.
abbrev pub BenchIsWellFormed : Type 0
BenchIsWellFormed =
    (settings : Settings) (calls : List (Heard Act Reply Why)) (c : Bench NamedState) →
    settings_valid settings ≡ true → All (λ h. IsGivenCall h.call) calls →
    Leads (statement_step settings) settings.history (new_bench first_named_state) calls c →
    HasWellFormed settings c
