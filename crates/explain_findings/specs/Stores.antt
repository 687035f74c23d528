-- Bytes that are read, and that nothing stored since their area or their cell was taken.
use Rattle.std.specs.Prelude.{ℕ, zero, suc, ◌/◌, Bool, true, false, if◌then◌else◌, nat_lt, Option, Some, None}
use Rattle.std.specs.Prelude.{unwrap_or, List, [], ◌∷◌, length}
use Rattle.bench_core.specs.Machine.{service_asked}
use Rattle.macro_statements.specs.Requests.{Act}
use Rattle.vsm_model.specs.declared.limits.Settings.{Settings}
use Rattle.vsm_model.specs.Regions.{among}
use Rattle.vsm_model.specs.Services as services
use Rattle.vsm_model.specs.Services.{Service}
use Rattle.explain_standing.specs.Carried.{state_in}
use Rattle.explain_standing.specs.NumberMaps.{number_in}
use Rattle.explain_standing.specs.Since.{got_since, machine_after}
use Rattle.explain_standing.specs.declared.carried.Carried.{Carried}
use Rattle.explain_findings.specs.Homes.{home_after, home_at}
use Rattle.explain_findings.specs.declared.findings.Unset.{Unset}
use Rattle.explain_findings.specs.declared.homes.Home.{Home}
use Rattle.explain_findings.specs.declared.homes.Home.TheVariants as home

-- a service stores a byte at this address
abbrev pub stores : Option Service → ℕ → Bool
stores (Some (services.store address bytes)) byte = among address (length bytes) byte
stores _ byte = false

-- the line that took the area or the cell in use in which something is; `cells` says which line got a cell
abbrev pub line_at_home : (ℕ → Option ℕ) → Home → Option ℕ
line_at_home cells (home.Area p line) = Some line
line_at_home cells (home.Cell pool start) = Some (unwrap_or (cells start) 0)
line_at_home cells home.Unassigned = None
line_at_home cells (home.Free p) = None
line_at_home cells (home.FreeCell pool) = None
line_at_home cells (home.PastCells pool) = None

-- the same of a fullword, by what is known of the storage
abbrev pub line_kept : Carried → ℕ → Option ℕ
line_kept c word =
    line_at_home (λ cell. number_in c.cells (cell / 4)) (home_at (state_in c) (number_in c.lines) word)

-- a byte of an area or a cell that this line took, if one did, wasn't stored after that, if it was stored at all
abbrev pub is_unset : Option ℕ → Option ℕ → Bool
is_unset None stored = false
is_unset (Some line) None = true
is_unset (Some line) (Some stored) = nat_lt stored line

-- The first of this many bytes that wasn't, with the line that took it: by where fullwords are, which line got a cell,
-- and which stored a byte last.
abbrev pub first_unset : (ℕ → Home) → (ℕ → Option ℕ) → (ℕ → Option ℕ) → ℕ → ℕ → Option Unset
first_unset homes cells stored zero byte = None
first_unset homes cells stored (suc count) byte =
    if is_unset (line_at_home cells (homes (byte / 4))) (stored byte)
    then Some (record { address = byte; line = unwrap_or (line_at_home cells (homes (byte / 4))) 0 })
    else first_unset homes cells stored count (suc byte)

module _ (settings : Settings) where
  -- The line of the newest of these statements that stored a byte.
  abbrev pub stored_since : List (ℕ × Act) → ℕ → Option ℕ
  stored_since [] byte = None
  stored_since (x ∷ older) byte =
      if stores (service_asked (machine_after settings older) x.1) byte then Some x.0 else stored_since older byte

  -- The first unset one of this many bytes at an address, after these statements.
  abbrev pub unset_after : List (ℕ × Act) → ℕ → ℕ → Option Unset
  unset_after xs address count =
      first_unset (home_after settings xs) (got_since settings xs) (stored_since xs) count address
