-- The figures of states that have the same areas are the same.
use Rattle.std.specs.Prelude.{unwrap_or}
use Rattle.std.proofs.Common.{◌≡◌, ℕ, is_some, flat_map, sym, ap, subst, ◌∙◌}
use Rattle.storage_map.specs.Totals.{totals_of}
use Rattle.storage_plans.specs.Places.{region_on}
use Rattle.vsm_model.specs.declared.Subpool.{Subpool}
use Rattle.vsm_model.specs.declared.limits.Residence.{Residence}
use Rattle.vsm_model.specs.declared.limits.Residence.TheVariants.{Below, Above}
use Rattle.vsm_model.specs.declared.limits.Settings.{Settings}
use Rattle.vsm_model.specs.Areas as plain
use Rattle.vsm_model.specs.State.{State}
use Rattle.explain_report.specs.Changes.{HaveSameAreas}
use Rattle.explain_report.specs.PoolFigures.{sums_of}
use Rattle.explain_report.specs.Figures.{IsFiguresOf, IsMomentOf, IsRowOf, all_subpools, extents_of, free_areas_of, seen_or_own, unassigned}
use Rattle.explain_report.specs.Tallies.{tally_of, low_runs, high_runs}
use Rattle.explain_report.specs.declared.rows.SubpoolRow.{SubpoolRow}
use Rattle.explain_report.specs.declared.times.Figures.{Figures}
use Rattle.explain_report.specs.declared.times.Figures.TheVariants as figures
use Rattle.explain_report.specs.declared.times.Moment.{Moment}

module _ (settings : Settings) (s t : State) (h : HaveSameAreas s t) where
  same_totals : totals_of settings s ≡ totals_of settings t
  same_totals = λ i. totals_of settings (record s { pages = h.pages i; taken = h.taken i })

  same_unassigned : unassigned settings s ≡ unassigned settings t
  same_unassigned = λ i. unassigned settings (record s { pages = h.pages i })

  same_extents : (p : Subpool) → extents_of settings s p ≡ extents_of settings t p
  same_extents p = λ i. extents_of settings (record s { pages = h.pages i }) p

  same_free : (p : Subpool) → free_areas_of settings s p ≡ free_areas_of settings t p
  same_free p = λ i. free_areas_of settings (record s { pages = h.pages i; taken = h.taken i }) p

  same_fit : (side : Residence) (p : Subpool) (count : ℕ) → is_some (plain.least_fit t (region_on settings side) p count 1) ≡ is_some (plain.least_fit s (region_on settings side) p count 1)
  same_fit side p count = sym (λ i. is_some (plain.least_fit (record s { pages = h.pages i; taken = h.taken i }) (region_on settings side) p count 1))

  same_run : (side : Residence) (count : ℕ) → is_some (plain.least_run t (region_on settings side) count) ≡ is_some (plain.least_run s (region_on settings side) count)
  same_run side count = sym (λ i. is_some (plain.least_run (record s { pages = h.pages i }) (region_on settings side) count))

  moment_is : (m : Moment) → IsMomentOf settings s m → IsMomentOf settings t m
  moment_is m k = record {
    totals = k.totals ∙ same_totals;
    low = k.low ∙ ap (λ rs. tally_of (low_runs 4096 rs)) same_unassigned;
    high = k.high ∙ ap (λ rs. tally_of (high_runs 4096 rs)) same_unassigned;
    free = k.free ∙ (λ i. tally_of (flat_map (λ p. same_free p i) (all_subpools (h.subpools i))));
    pools = k.pools ∙ ap sums_of h.cell_pools;
  }

  row_is : (p : Subpool) (row : SubpoolRow) → IsRowOf settings s p row → IsRowOf settings t p row
  row_is p row k = record {
    subpool = k.subpool;
    low_pages = k.low_pages ∙ ap (λ rs. (tally_of (low_runs 4096 rs)).total) (same_extents p);
    high_pages = k.high_pages ∙ ap (λ rs. (tally_of (high_runs 4096 rs)).total) (same_extents p);
    low_free = k.low_free ∙ ap (λ rs. tally_of (low_runs 2097152 rs)) (same_free p);
    high_free = k.high_free ∙ ap (λ rs. tally_of (high_runs 2097152 rs)) (same_free p);
    low_largest = λ count some. same_fit Below p count ∙ k.low_largest count some;
    high_largest = λ count some. same_fit Above p count ∙ k.high_largest count some;
    low_unassigned = λ count some. same_run Below count ∙ k.low_unassigned count some;
    high_unassigned = λ count some. same_run Above count ∙ k.high_unassigned count some;
  }

  pub figures_are : (f : Figures) → IsFiguresOf settings s f → IsFiguresOf settings t f
  figures_are (figures.Whole m) k = moment_is m k
  figures_are (figures.Subpool seen row) k =
      subst (λ owner. IsRowOf settings t (record { number = seen.1; owner = unwrap_or owner seen.0 }) row) (λ i. h.sight i seen.0 seen.1)
      (row_is (seen_or_own s seen.0 seen.1) row k)
