-- The areas that are taken, by the lines that took them.
use Rattle.std.specs.Prelude.{ℕ, ◌/◌, if◌then◌else◌, Option, None, List, flat_map}
use Rattle.macro_statements.specs.Requests.{Act}
use Rattle.vsm_model.specs.declared.Subpool.{Subpool}
use Rattle.vsm_model.specs.declared.limits.Settings.{Settings}
use Rattle.vsm_model.specs.Map.{numbers}
use Rattle.vsm_model.specs.Search.{holds}
use Rattle.vsm_model.specs.Subpools.{same_subpool}
use Rattle.explain_standing.specs.Since.{acts, storage_after, taken_since}
use Rattle.explain_areas.specs.Areas.{areas_of}
use Rattle.explain_areas.specs.declared.parts.LineArea.{LineArea}

module _ (settings : Settings) where
  -- The same of a doubleword of a subpool as of a doubleword.
  abbrev pub line_of : List (ℕ × Act) → Subpool → ℕ → Option ℕ
  line_of xs p d =
      if holds (same_subpool p) ((storage_after settings (acts xs)).pages (d / 512)) then taken_since settings xs d
      else None

  -- All areas that are taken after these statements: those of each subpool, by its number and its owner.
  abbrev pub taken_areas : List (ℕ × Act) → List LineArea
  taken_areas xs =
      flat_map
      (λ number. flat_map
      (λ owner. areas_of (record { number = number; owner = owner })
      (line_of xs (record { number = number; owner = owner })))
      (numbers 1 65))
      (numbers 0 128)
