-- The runs of unassigned pages are those of the plain machine, end in the regions, and are one list.
use Rattle.std.proofs.Common.{◌≡◌, ℕ, ◌+◌, ◌≤◌, inr, Bool, true, false, not, ◌&&◌, ◌||◌, List, [], ◌∷◌, ◌++◌, map, refl, sym, ap, ◌∙◌, arith}
use Rattle.std.specs.Prelude.{◌/◌, ◌^◌, is_some}
use Rattle.std.proofs.lemmas.Bool.{and_parts}
use Rattle.run_set.specs.Runs.{Run, contains, Spaced}
use Rattle.run_set.proofs.PartLemmas.{outside}
use Rattle.run_set.proofs.OneLemmas.{runs_one}
use Rattle.vsm_model.specs.declared.limits.Settings.{Settings}
use Rattle.vsm_model.specs.Regions.{Region, within, in_a_region, low_region, high_region, settings_valid}
use Rattle.vsm_model.specs.Runs.{runs}
use Rattle.subpool_storage.specs.Extents.{run_in}
use Rattle.subpool_storage.proofs.ExtentLemmas.{are_below}
use Rattle.storage_changes.specs.State.{StorageState}
use Rattle.storage_changes.specs.Meaning.{subpool_of, model_of, IsSound}
use Rattle.storage_changes.specs.MapLists.{unassigned_in, unassigned_runs, UnassignedAreShown, UnassignedEndInRegions, UnassignedAreOne}
use Rattle.storage_changes.proofs.MapRunLists.{runs_agree}
use Rattle.storage_changes.proofs.MapRanges.{InEither, sizes, is_within, either_region}
use Rattle.storage_changes.proofs.MapListsShown.{parted, as_runs, append_nil, ends_of_two}

-- if two tests pass, either may be before a third
swapped : (a b x : Bool) → a ≡ true → b ≡ true → (a && x) ≡ (b && x)
swapped a b x e h = ap (λ (z : Bool). z && x) (e ∙ sym h)

first_passes : (a b : Bool) → a ≡ true → (a || b) ≡ true
first_passes a b e = ap (λ (z : Bool). z || b) e

second_passes : (a b : Bool) → b ≡ true → (a || (b || false)) ≡ true
second_passes true b e = refl
second_passes false b e = first_passes b false e

module _ (settings : Settings) (m : StorageState) (valid : settings_valid settings ≡ true) (sound : IsSound settings m) where
  -- an unassigned page is in one of the regions
  lies : (page : ℕ) → m.unassigned page ≡ true → InEither 6 (settings.low_k / 4) 32768 (settings.high_k / 4) page
  lies page e =
      either_region settings page
      (and_parts (in_a_region settings page) (not (is_some (subpool_of m.subpools page))) (sym (sound.rest page) ∙ e)).0

  pub open_runs : (top : ℕ) → top ≡ 2 ^ 29
      → runs m.unassigned 0 top ≡ runs m.unassigned 6 (settings.low_k / 4) ++ runs m.unassigned 32768 (settings.high_k / 4)
  open_runs top e =
      let most = sizes settings valid in
      let low : settings.low_k / 4 ≤ 4090 = most.0 in
      let high : settings.high_k / 4 ≤ 393216 = most.1 in
      parted m.unassigned 6 (settings.low_k / 4) 32768 (settings.high_k / 4) top (omega (arith, low)) (omega (arith, high, e)) lies

  -- the plain machine's runs of a region
  plain : (r : Region) → ((k : ℕ) → within r k ≡ true → in_a_region settings k ≡ true) → unassigned_in (model_of m) r ≡ runs m.unassigned r.first r.count
  plain r has =
      runs_agree (λ k. within r k && not (is_some (subpool_of m.subpools k))) m.unassigned r.first r.count
      (λ k low high. (let inside : within r k ≡ true = is_within r.first r.count k low high in
      swapped (within r k) (in_a_region settings k) (not (is_some (subpool_of m.subpools k))) inside (has k inside) ∙ sym (sound.rest k)))

pub unassigned_are_shown : UnassignedAreShown
unfolding unassigned_runs
unassigned_are_shown settings m valid sound =
    ap (λ (z : List (ℕ × ℕ)). z ++ (unassigned_in (model_of m) (high_region settings) ++ []))
    (plain settings m valid sound (low_region settings) (λ k e. second_passes (within (high_region settings) k) (within (low_region settings) k) e))
    ∙ ap (λ (z : List (ℕ × ℕ)). runs m.unassigned 6 (settings.low_k / 4) ++ z)
    (append_nil (unassigned_in (model_of m) (high_region settings))
    ∙ plain settings m valid sound (high_region settings) (λ k e. first_passes (within (high_region settings) k) (within (low_region settings) k || false) e))
    ∙ sym (as_runs (runs m.unassigned 0 (2 ^ 29)) ∙ open_runs settings m valid sound (2 ^ 29) refl)

pub unassigned_end_in_regions : UnassignedEndInRegions
unfolding unassigned_runs
unassigned_end_in_regions settings m i r valid sound at =
    let most = sizes settings valid in
    let low : settings.low_k / 4 ≤ 4090 = most.0 in
    let high : settings.high_k / 4 ≤ 393216 = most.1 in
    ends_of_two m.unassigned 6 (settings.low_k / 4) 32768 (settings.high_k / 4) (2 ^ 20) i r (runs m.unassigned 0 (2 ^ 29))
    (omega (arith, low)) (omega (arith, high)) (open_runs settings m valid sound (2 ^ 29) refl) at

-- runs end by the number 2^29
none_above : (low n : ℕ) (rs : List Run) → Spaced low rs → 2 ^ 29 ≤ n → contains n rs ≡ false
none_above low n [] h high = refl
none_above low n (r ∷ rs) h high =
    let ends : r.start + r.len ≤ 2 ^ 29 = h.2 in
    ap (λ (b : Bool). b || contains n rs) (outside n r (inr (omega (arith, ends, high)))) ∙ none_above (r.start + r.len + 1) n rs h.3 high

pub unassigned_are_one : UnassignedAreOne
unfolding unassigned_runs
unassigned_are_one m rs h =
    runs_one m.unassigned m.unassigned rs (map run_in (runs m.unassigned 0 (2 ^ 29))) h
    (are_below m.unassigned (2 ^ 29) (omega arith) (λ n high. sym (h.holds n) ∙ none_above 0 n rs h.spaced high))
    (λ d. refl)
