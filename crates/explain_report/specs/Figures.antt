-- The figures of a state, and of a subpool in it.
use Rattle.std.specs.Prelude.{◌≡◌, ℕ, Bool, not, ◌&&◌, if◌then◌else◌, is_some, Option, Some, None, unwrap_or, List, map}
use Rattle.std.specs.Prelude.{flat_map}
use Rattle.std.specs.List.{filter_map}
use Rattle.run_set.specs.Runs.{Run}
use Rattle.storage_map.specs.Totals.{totals_of}
use Rattle.storage_plans.specs.Places.{IsUpTo, region_on}
use Rattle.vsm_model.specs.Areas.{extents, free_areas, least_fit, least_run}
use Rattle.vsm_model.specs.Map.{ascending_regions, numbers}
use Rattle.vsm_model.specs.Regions.{Region, within}
use Rattle.vsm_model.specs.Runs.{runs}
use Rattle.vsm_model.specs.State.{State}
use Rattle.vsm_model.specs.declared.Subpool.{Subpool}
use Rattle.vsm_model.specs.declared.limits.Residence.TheVariants.{Below, Above}
use Rattle.vsm_model.specs.declared.limits.Settings.{Settings}
use Rattle.explain_report.specs.PoolFigures.{sums_of}
use Rattle.explain_report.specs.Tallies.{tally_of, low_runs, high_runs}
use Rattle.explain_report.specs.declared.rows.SubpoolRow.{SubpoolRow}
use Rattle.explain_report.specs.declared.times.Figures.{Figures}
use Rattle.explain_report.specs.declared.times.Figures.TheVariants as figures
use Rattle.explain_report.specs.declared.times.Moment.{Moment}

-- the subpools that exist, by number and then by owner: closed, since the numbers are many
abbrev pub subpool_at : (ℕ → ℕ → Bool) → ℕ → ℕ → Option Subpool
subpool_at subpools number owner =
    if subpools number owner then Some (record { number = number; owner = owner }) else None

unfoldable pub all_subpools : (ℕ → ℕ → Bool) → List Subpool
all_subpools subpools = flat_map (λ n. filter_map (subpool_at subpools n) (numbers 1 65)) (numbers 0 128)

-- the longest runs of a region's unassigned pages
abbrev pub unassigned_pages : State → Region → List (ℕ × ℕ)
unassigned_pages s r = runs (λ k. within r k && not (is_some (s.pages k))) r.first r.count

-- a run by its first number and how many numbers it has
abbrev pub as_run : ℕ × ℕ → Run
as_run r = record { start = r.0; len = r.1 }

-- the subpool that a task sees at a number, or a new one of its own
abbrev pub seen_or_own : State → ℕ → ℕ → Subpool
seen_or_own s task number = record { number = number; owner = unwrap_or (s.sight task number) task }

module _ (settings : Settings) (s : State) where
  -- These in the region below the line, and then in that above it: a subpool's extents, in pages; its free areas, in
  -- doublewords; and unassigned pages.
  abbrev pub extents_of : Subpool → List Run
  extents_of p = map as_run (flat_map (extents s p) (ascending_regions settings))

  abbrev pub free_areas_of : Subpool → List Run
  free_areas_of p = map as_run (flat_map (free_areas s p) (ascending_regions settings))

  abbrev pub unassigned : List Run
  unassigned = map as_run (flat_map (unassigned_pages s) (ascending_regions settings))

  -- the sums of the whole state
  pub record IsMomentOf (m : Moment) : Type 0 where
    pub totals : m.totals ≡ totals_of settings s
    pub low : m.unassigned.low ≡ tally_of (low_runs 4096 unassigned)
    pub high : m.unassigned.high ≡ tally_of (high_runs 4096 unassigned)
    pub free : m.free ≡ tally_of (flat_map free_areas_of (all_subpools s.subpools))
    pub pools : m.pools ≡ sums_of s.cell_pools

  -- what a subpool has on both sides of the line
  pub record IsRowOf (p : Subpool) (row : SubpoolRow) : Type 0 where
    pub subpool : row.subpool ≡ p
    pub low_pages : row.low.pages ≡ (tally_of (low_runs 4096 (extents_of p))).total
    pub high_pages : row.high.pages ≡ (tally_of (high_runs 4096 (extents_of p))).total
    pub low_free : row.low.free ≡ tally_of (low_runs 2097152 (free_areas_of p))
    pub high_free : row.high.free ≡ tally_of (high_runs 2097152 (free_areas_of p))
    pub low_largest : IsUpTo (λ count. is_some (least_fit s (region_on settings Below) p count 1)) row.low.largest
    pub high_largest : IsUpTo (λ count. is_some (least_fit s (region_on settings Above) p count 1)) row.high.largest
    pub low_unassigned : IsUpTo (λ count. is_some (least_run s (region_on settings Below) count)) row.low.unassigned
    pub high_unassigned : IsUpTo (λ count. is_some (least_run s (region_on settings Above) count)) row.high.unassigned

  -- The figures are those of the state.
  abbrev pub IsFiguresOf : Figures → Type 0
  IsFiguresOf (figures.Whole m) = IsMomentOf m
  IsFiguresOf (figures.Subpool seen row) = IsRowOf (seen_or_own s seen.0 seen.1) row

-- of what the figures are: of a subpool that a task sees at a number, or of the whole storage
abbrev pub seen_in : Figures → Option (ℕ × ℕ)
seen_in (figures.Whole m) = None
seen_in (figures.Subpool seen row) = Some seen
