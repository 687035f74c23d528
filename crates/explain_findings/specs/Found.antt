-- What is found in a script: of each statement in effect at its end, judged on the state before it; of each PEEK whose
-- state isn't undone later; and what is left taken at the end.
use Rattle.std.specs.Prelude.{◌≡◌, ℕ, ◌-◌, ◌/◌, ◌^◌, ◌<◌, ◌==◌, ◌&&◌, ◌||◌, Bool, if◌then◌else◌, Option, Some, None}
use Rattle.std.specs.Prelude.{is_some, List, [], ◌∷◌, drop, length, map, Result, Ok, Err}
use Rattle.bench_core.specs.Machine.{looked_up, service_asked}
use Rattle.macro_statements.specs.Requests.{Act, Written, act, peek}
use Rattle.vsm_model.specs.declared.limits.Settings.{Settings}
use Rattle.vsm_model.specs.declared.replies.Reply.{Reply}
use Rattle.vsm_model.specs.declared.replies.Reply.TheVariants.{Returned}
use Rattle.vsm_model.specs.Regions.{doublewords}
use Rattle.vsm_model.specs.Services as services
use Rattle.vsm_model.specs.Services.{Service}
use Rattle.vsm_model.specs.Standing.{nothing_stands}
use Rattle.script_steps.specs.Output.{Marked}
use Rattle.script_steps.specs.Taken.{Ended}
use Rattle.explain_standing.specs.Since.{taken_since}
use Rattle.explain_standing.specs.Lined.{standing}
use Rattle.explain_standing.specs.Faults.{FollowsNot}
use Rattle.explain_standing.specs.declared.faults.FollowFault.{FollowFault}
use Rattle.explain_findings.specs.Accesses.{outside_at}
use Rattle.explain_standing.specs.Since.{machine_after, reply_to}
use Rattle.explain_findings.specs.Endings.{name_used, stale_name}
use Rattle.explain_findings.specs.Homes.{home_after}
use Rattle.explain_findings.specs.Parts.{part_at}
use Rattle.explain_standing.specs.Readings.{Reading, readings_all}
use Rattle.explain_findings.specs.declared.findings.Finding.{Finding}
use Rattle.explain_findings.specs.declared.findings.Findings.{Findings}
use Rattle.explain_findings.specs.declared.findings.Outside.{Outside}
use Rattle.explain_findings.specs.declared.findings.Part.{Part}
use Rattle.explain_findings.specs.declared.findings.Unset.{Unset}
use Rattle.explain_findings.specs.Left.{left_after, left_in_all}
use Rattle.explain_findings.specs.Stores.{unset_after}
use Rattle.explain_findings.specs.Tables.{found_on, left_on, sum_left}

abbrev pub nothing_found : Finding
nothing_found = record { outside = None; stale = None; part = None; unset = None }

abbrev pub is_something : Finding → Bool
is_something f = is_some f.outside || is_some f.stale || is_some f.part || is_some f.unset

-- what is found on a line, if something is
abbrev pub on_line : List (ℕ × Finding) → ℕ → Option Finding
on_line [] line = None
on_line (f ∷ fs) line = if (f.0 == line) && is_something f.1 then Some f.1 else on_line fs line

-- of a statement, or of a PEEK
abbrev pub either : Option Finding → Option Finding → Option Finding
either (Some f) other = Some f
either None other = other

module _ (settings : Settings) where
  -- OUTSIDE of a POKE
  abbrev pub stored_outside : List (ℕ × Act) → Option Service → Option Outside
  stored_outside older (Some (services.store address bytes)) =
      outside_at (home_after settings older) address (length bytes)
  stored_outside older _ = None

  -- PART of a release that isn't answered 4
  abbrev pub released_part : List (ℕ × Act) → Option Service → Option Reply → Option Part
  released_part older (Some (services.release r)) (Some (Returned code)) =
      if code == 0
      then part_at (home_after settings older) (taken_since settings older) (r.address / 8) (doublewords r.length)
      else None
  released_part older _ _ = None

  -- What is found of a statement, whose state is that after those before it, the newest first;
  abbrev pub finding_at : List (ℕ × Act) → Act → Finding
  finding_at older x =
      record {
        outside = stored_outside older (service_asked (machine_after settings older) x);
        stale = stale_name settings older (name_used (act x));
        part =
            released_part older (service_asked (machine_after settings older) x) (reply_to settings older x);
        unset = None;
      }

  -- and of a PEEK.
  abbrev pub read_outside : List (ℕ × Act) → Option ℕ → ℕ → Option Outside
  read_outside xs None count = None
  read_outside xs (Some word) count = outside_at (home_after settings xs) word count

  abbrev pub read_unset : List (ℕ × Act) → Option ℕ → ℕ → Option Unset
  read_unset xs None count = None
  read_unset xs (Some word) count = unset_after settings xs word count

  abbrev pub reading_finding : List (ℕ × Act) → Written → ℕ → Finding
  reading_finding xs address count =
      record {
        outside = read_outside xs (looked_up (machine_after settings xs) address) count;
        stale = stale_name settings xs (name_used (peek address count));
        part = None;
        unset = read_unset xs (looked_up (machine_after settings xs) address) count;
      }

  -- Of each of these statements and PEEKs, the newest first, with its line.
  abbrev pub judged : List (ℕ × Act) → List (ℕ × Finding)
  judged [] = []
  judged (x ∷ older) = (x.0, finding_at older x.1) ∷ judged older

  abbrev pub judged_readings : List (ℕ × Act) → List Reading → List (ℕ × Finding)
  judged_readings xs =
      map (λ r. (r.line, reading_finding (drop (length xs - r.depth) xs) r.address r.count))

  -- What is found on a line: of its statement, or of its PEEK.
  abbrev pub finding_on : List Marked → ℕ → Option Finding
  finding_on answers line =
      either (on_line (judged (standing settings answers)) line)
      (on_line (judged_readings (standing settings answers) (readings_all settings nothing_stands [] answers)) line)

  -- Exactly that is found in a script, or it can't be followed.
  abbrev pub AreFound : List ℕ → Result Findings FollowFault → Type 0
  AreFound script (Ok found) =
      (answers : List Marked) × Ended settings script answers
      × ((line : ℕ) → found_on found line ≡ finding_on answers line)
      × ((line : ℕ) → line < 2 ^ 32 → left_on found line ≡ left_after settings (standing settings answers) line)
      × (sum_left found ≡ left_in_all settings (standing settings answers))
  AreFound script (Err fault) = FollowsNot settings script fault
