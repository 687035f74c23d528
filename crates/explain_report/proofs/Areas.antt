-- The free areas of all subpools, subpool by subpool.
use Rattle.std.proofs.Common.{◌≡◌, ◌+◌, ◌<◌, ◌≤◌, List, [], ◌∷◌, length, sym, ap, ◌∙◌, arith}
use Rattle.std.specs.Prelude.{◌^◌, flat_map}
use Rattle.std.proofs.Props.{props}
use mathlib.Core.Logic.{∥∥₁_elim}
use Rattle.vsm_model.specs.declared.Subpool.{Subpool}
use Rattle.subpool_storage.specs.Subpools.{Subpools}
use Rattle.subpool_storage.specs.Extents.{free_areas}
use Rattle.subpool_storage.specs.Order.{subpools_in_order}
use Rattle.storage_changes.specs.MapTotals.{sum_of, subpool_free, all_free, TotalsAreFew}
use Rattle.storage_core.specs.declared.storage.Storage.{Storage}
use Rattle.storage_core.specs.Meaning.{state_in_place, settings_of}
use Rattle.explain_report.specs.declared.tallies.Tally.{Tally}
use Rattle.explain_report.specs.Tallies.{no_runs, with_runs, tally_of, numbers_in}
use Rattle.explain_report.proofs.TallyLemmas.{total_of, count_of, with_append}
use Rattle.explain_report.proofs.Few.{areas_are_not_empty}

-- all free doublewords can be counted
pub all_free_few : TotalsAreFew → (s : Storage) → all_free (state_in_place s).subpools ≤ 2 ^ 29
all_free_few few s = ∥∥₁_elim s.held.sound (hlevel props) (λ h. (few (settings_of s) (state_in_place s) s.held.valid h).3)

-- the areas of some subpools were tallied, and those of these remain
pub record Gathered (m : Subpools) (rest : List Subpool) (t : Tally) : Type 0 where
  pub whole : with_runs t (flat_map (free_areas m) rest) ≡ tally_of (flat_map (free_areas m) (subpools_in_order m))
  pub total : t.total + sum_of (subpool_free m) rest ≡ all_free m
  pub count : t.count ≤ t.total

pub none_gathered : (m : Subpools) (rest : List Subpool) → rest ≡ subpools_in_order m → Gathered m rest no_runs
none_gathered m rest e = record {
  whole = ap (λ (ps : List Subpool). tally_of (flat_map (free_areas m) ps)) e;
  total = (let k = ap (sum_of (subpool_free m)) e in omega (arith, k));
  count = omega arith;
}

pub gathered_room : (m : Subpools) (all rest : List Subpool) (p : Subpool) (t : Tally) → all_free m ≤ 2 ^ 29 → Gathered m all t → all ≡ p ∷ rest
    → (t.total + numbers_in (free_areas m p) < 2 ^ 32) × (t.count + length (free_areas m p) < 2 ^ 32)
gathered_room m all rest p t few h e =
    let sum = ap (sum_of (subpool_free m)) e in
    let size = areas_are_not_empty m p in
    (omega (arith, sum, h.total, few), omega (arith, sum, h.total, h.count, few, size))

pub one_gathered : (m : Subpools) (all rest : List Subpool) (p : Subpool) (old new : Tally) → Gathered m all old → all ≡ p ∷ rest
    → new ≡ with_runs old (free_areas m p) → Gathered m rest new
one_gathered m all rest p old new h e is =
    let sum = ap (sum_of (subpool_free m)) e in
    let total = ap (λ (x : Tally). x.total) is ∙ total_of old (free_areas m p) in
    let count = ap (λ (x : Tally). x.count) is ∙ count_of old (free_areas m p) in
    record {
      whole = ap (λ (x : Tally). with_runs x (flat_map (free_areas m) rest)) is ∙ with_append old (free_areas m p) (flat_map (free_areas m) rest)
          ∙ ap (λ (ps : List Subpool). with_runs old (flat_map (free_areas m) ps)) (sym e) ∙ h.whole;
      total = omega (arith, sum, h.total, total);
      count = omega (arith, h.count, total, count, areas_are_not_empty m p);
    }

pub all_gathered : (m : Subpools) (rest : List Subpool) (t : Tally) → Gathered m rest t → rest ≡ []
    → t ≡ tally_of (flat_map (free_areas m) (subpools_in_order m))
all_gathered m rest t h none = ap (λ (ps : List Subpool). with_runs t (flat_map (free_areas m) ps)) (sym none) ∙ h.whole

-- the next subpool is the one before the place after it
pub shorter : (xs ys : List Subpool) (x : Subpool) → xs ≡ x ∷ ys → length ys < length xs
shorter xs ys x e = (let k = ap (λ (ps : List Subpool). length ps) e in omega (arith, k))
