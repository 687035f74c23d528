-- Which statement ended the area or the cell at the word of a name.
use Rattle.std.specs.Prelude.{ℕ, ◌+◌, ◌/◌, Bool, true, false, not, ◌&&◌, ◌==◌, nat_le, nat_lt, if◌then◌else◌}
use Rattle.std.specs.Prelude.{Option, Some, None, List, [], ◌∷◌}
use Rattle.macro_statements.specs.Requests.{Act, Asked, act, peek, named, free, poke, release}
use Rattle.bench_core.specs.Machine.{name_asked, service_asked}
use Rattle.vsm_model.specs.declared.limits.Settings.{Settings}
use Rattle.vsm_model.specs.declared.replies.Reply.{Reply}
use Rattle.vsm_model.specs.declared.replies.Reply.TheVariants.{Obtained, Cell}
use Rattle.vsm_model.specs.Names.{same_name, word_of}
use Rattle.vsm_model.specs.Regions.{doublewords}
use Rattle.vsm_model.specs.Services as services
use Rattle.vsm_model.specs.Services.{Service}
use Rattle.explain_standing.specs.Since.{machine_after, reply_to}
use Rattle.explain_who.specs.Taken.{taken_at}
use Rattle.explain_who.specs.declared.takers.Taken.{Taken}
use Rattle.explain_who.specs.declared.takers.Taken.TheVariants as taken

-- an obtain's area or a cell in use
abbrev pub is_used : Taken → Bool
is_used taken.Unassigned = false
is_used taken.Free = false
is_used (taken.Obtained p) = true
is_used (taken.UsedCell name) = true
is_used (taken.FreeCell name) = false
is_used (taken.PastCells name) = false

-- the doubleword of an address is one of this many
abbrev pub is_of_run : ℕ → ℕ → ℕ → Bool
is_of_run first count address = nat_le first (address / 8) && nat_lt (address / 8) (first + count)

-- A service that can end what is at an address: a release of it, a FREE of the cell, a release of a whole subpool, a
-- DELETE, or the end of a task.
abbrev pub can_end : Option Service → ℕ → Bool
can_end (Some (services.release r)) address = is_of_run (r.address / 8) (doublewords r.length) address
can_end (Some (services.free pool cell)) address = cell == address
can_end (Some (services.whole number)) address = true
can_end (Some (services.delete pool)) address = true
can_end (Some (services.detach task)) address = true
can_end (Some services.end_task) address = true
can_end _ address = false

-- the name that the address of an area or a cell went to
abbrev pub gives : Option Reply → Option (List ℕ) → List ℕ → Bool
gives (Some (Obtained address length)) (Some name) other = same_name name other
gives (Some (Cell address)) (Some name) other = same_name name other
gives _ _ other = false

-- the first of two lines, if there is one
abbrev pub first_line : Option ℕ → Option ℕ → Option ℕ
first_line (Some line) other = Some line
first_line None other = other

-- The name in the address of a statement that uses storage.
abbrev pub name_used : Asked → Option (List ℕ)
name_used (act (poke (named name) content)) = Some name
name_used (act (release length (named name) subpool form)) = Some name
name_used (act (free pool (named name))) = Some name
name_used (peek (named name) count) = Some name
name_used _ = None

module _ (settings : Settings) where
  -- A statement after which neither an area nor a cell in use is at the word of a name.
  abbrev pub ends_at : List (ℕ × Act) → ℕ × Act → Option ℕ → Bool
  ends_at older x None = false
  ends_at older x (Some word) =
      can_end (service_asked (machine_after settings older) x.1) word
      && not (is_used (taken_at (machine_after settings (x ∷ older)).storage word))

  -- The line of the first statement that ended what is at the word of a name since the name was given that word.
  abbrev pub ended_by : List (ℕ × Act) → List ℕ → Option ℕ
  ended_by [] name = None
  ended_by (x ∷ older) name =
      if gives (reply_to settings older x.1) (name_asked x.1) name then None
      else first_line (ended_by older name)
      (if ends_at older x (word_of (machine_after settings older).names name) then Some x.0 else None)

  -- The same of the name that a statement uses.
  abbrev pub stale_name : List (ℕ × Act) → Option (List ℕ) → Option ℕ
  stale_name xs None = None
  stale_name xs (Some name) = ended_by xs name
