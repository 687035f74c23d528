-- What a service takes: the doublewords that are taken after it and weren't before.
use Rattle.std.specs.Prelude.{◌≡◌, ◌≢◌, ◌⊎◌, ℕ, zero, suc, ◌-◌, ◌/◌, ◌^◌, min, Bool, true, false, not, ◌&&◌}
use Rattle.std.specs.Prelude.{List, [], ◌∷◌}
use Rattle.std.specs.List.{list_any}
use Rattle.vsm_model.specs.declared.limits.Settings.{Settings}
use Rattle.vsm_model.specs.declared.replies.Reply.{Reply}
use Rattle.vsm_model.specs.declared.replies.Reply.TheVariants.{Obtained, Returned, Cell, Attached, Turn, Stored}
use Rattle.vsm_model.specs.Map.{total_bytes}
use Rattle.vsm_model.specs.Regions.{among, settings_valid}
use Rattle.vsm_model.specs.Runs.{runs}
use Rattle.vsm_model.specs.Services.{Service}
use Rattle.vsm_model.specs.Standing.{Accepted}
use Rattle.vsm_model.specs.State.{State, is_task}
use Rattle.vsm_model.specs.Step.{step}
use Rattle.vsm_model.specs.WellFormed.{IsWellFormed}
use Rattle.explain_standing.specs.Since.{is_cell_in_use}

-- a doubleword is taken in the second state, and not in the first
abbrev pub is_newly : State → State → ℕ → Bool
is_newly s t d = t.taken d && not (s.taken d)

-- The longest runs of such doublewords, each with its first one. Closed, since they may be many; an address of the
-- regions is below 2^31.
unfoldable pub newly_between : State → State → List (ℕ × ℕ)
newly_between s t = runs (is_newly s t) 0 (2 ^ 28)

-- one of these runs, each a first number and how many numbers it has, has the number
abbrev pub is_in : ℕ → List (ℕ × ℕ) → Bool
is_in d runs = list_any (λ r. among r.0 r.1 d) runs

-- ---- what the reply says of it

abbrev pub run_of : ℕ → ℕ → List (ℕ × ℕ)
run_of first zero = []
run_of first (suc count) = (first, suc count) ∷ []

-- by how many doublewords the taken bytes grew
abbrev pub grown : ℕ → ℕ → ℕ
grown before after = min ((after - before) / 8) 4294967295

abbrev pub taken_by : Reply → ℕ → ℕ → List (ℕ × ℕ)
taken_by (Obtained address length) before after = run_of (address / 8) (length / 8)
taken_by (Cell address) before after = run_of (address / 8) (grown before after)
taken_by (Returned code) before after = []
taken_by (Attached task) before after = []
taken_by (Turn task) before after = []
taken_by Stored before after = []

abbrev pub TakenByTheReply : Type 0
TakenByTheReply =
    (settings : Settings) (names_full : Bool) (s t : State) (x : Service) (reply : Reply) →
    settings_valid settings ≡ true → IsWellFormed settings s → step settings names_full s x ≡ Accepted t reply →
    taken_by reply (total_bytes settings s true) (total_bytes settings t true) ≡ newly_between s t

-- A cell is in use after a service only if it was before or the reply gives it; and one that the reply gives wasn't.
abbrev pub CellIsInTheReply : Type 0
CellIsInTheReply =
    (settings : Settings) (names_full : Bool) (s t : State) (x : Service) (reply : Reply) →
    settings_valid settings ≡ true → IsWellFormed settings s → step settings names_full s x ≡ Accepted t reply →
    (cell : ℕ) → is_cell_in_use t cell ≡ true →
    ((reply ≡ Cell cell) × (is_cell_in_use s cell ≡ false))
    ⊎ (is_cell_in_use s cell ≡ true) × ((address : ℕ) → reply ≡ Cell address → address ≢ cell)

-- A task exists after a service only if it did before or the reply gives it; and one that the reply gives didn't.
abbrev pub TaskIsInTheReply : Type 0
TaskIsInTheReply =
    (settings : Settings) (names_full : Bool) (s t : State) (x : Service) (reply : Reply) →
    settings_valid settings ≡ true → IsWellFormed settings s → step settings names_full s x ≡ Accepted t reply →
    (task : ℕ) → is_task t task ≡ true →
    ((reply ≡ Attached task) × (is_task s task ≡ false))
    ⊎ (is_task s task ≡ true) × ((other : ℕ) → reply ≡ Attached other → other ≢ task)
