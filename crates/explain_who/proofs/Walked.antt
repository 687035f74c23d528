-- The sums of runs on both sides of a line; and of those of a subpool.
use Rattle.std.proofs.Common.{◌≡◌, ℕ, zero, suc, ◌+◌, ◌<◌, ◌≤◌, ◌==◌, Bool, true, false, if◌then◌else◌, List, [], ◌∷◌, length, map, flat_map, refl, sym, ap, ◌∙◌, arith}
use Rattle.std.specs.Prelude.{◌^◌}
use Rattle.std.proofs.Props.{props}
use Rattle.std.proofs.lemmas.List.{length-map}
use mathlib.Core.Logic.{∥∥₁_elim}
use Rattle.run_set.specs.Runs.{Run}
use Rattle.run_set.specs.Sums.{IsSidesOf}
use Rattle.run_set.specs.Sums as sums
use Rattle.run_set.specs.declared.sums.SideSums.{SideSums}
use Rattle.run_set.proofs.SumLemmas.{both_numbers, both_lengths}
use Rattle.storage_changes.specs.MapLists.{pair_of, ExtentsAreShown, FreeAreasAreShown}
use Rattle.storage_changes.proofs.MapSums.{total, runs_total, passing_few}
use Rattle.storage_changes.specs.State.{StorageState}
use Rattle.storage_changes.specs.Meaning.{model_of, IsSound}
use Rattle.subpool_storage.specs.Subpools.{Subpools}
use Rattle.subpool_storage.specs.Extents as in_place
use Rattle.subpool_storage.specs.Extents.{run_in, extents, free_areas}
use Rattle.vsm_model.specs.Areas as plain
use Rattle.vsm_model.specs.Runs.{with_first, runs}
use Rattle.vsm_model.specs.declared.Subpool.{Subpool}
use Rattle.vsm_model.specs.declared.limits.Settings.{Settings}
use Rattle.vsm_model.specs.Map.{ascending_regions}
use Rattle.vsm_model.specs.Regions.{settings_valid}
use Rattle.explain_who.specs.declared.holdings.Runs.{Runs}
use Rattle.explain_who.specs.Holdings.{numbers_in, in_short, holding_of}

-- bounds for the numbers in these runs, and for the number of runs
abbrev pub AreFew : List Run → Type 0
AreFew rs = (numbers_in (map pair_of rs) ≤ 2 ^ 29) × (length rs ≤ 2 ^ 29)

-- ---- both sides of a line in short

numbers_are : (rs : List Run) → sums.numbers_in rs ≡ numbers_in (map pair_of rs)
numbers_are [] = refl
numbers_are (r ∷ rs) = ap (λ (n : ℕ). r.len + n) (numbers_are rs)

both_numbers_in : (line : ℕ) (rs : List Run) (s : SideSums) → IsSidesOf line rs s → s.low.total + s.high.total ≡ numbers_in (map pair_of rs)
both_numbers_in line rs s h = omega (arith, h.low.total, h.high.total, both_numbers line rs, numbers_are rs)

both_counted : (line : ℕ) (rs : List Run) (s : SideSums) → IsSidesOf line rs s → s.low.count + s.high.count ≡ length rs
both_counted line rs s h = omega (arith, h.low.count, h.high.count, both_lengths line rs)

pub are_both : (line : ℕ) (rs : List Run) (s : SideSums) → IsSidesOf line rs s →
    record { total = s.low.total + s.high.total; count = s.low.count + s.high.count } ≡ in_short (map pair_of rs)
are_both line rs s h =
    let total : s.low.total + s.high.total ≡ numbers_in (map pair_of rs) = both_numbers_in line rs s h in
    let count : s.low.count + s.high.count ≡ length (map pair_of rs) = both_counted line rs s h ∙ sym (length-map rs pair_of) in
    λ i. record { total = total i; count = count i }

-- and there is room for them, if they aren't too many
pub room : (line : ℕ) (rs : List Run) (s : SideSums) → AreFew rs → IsSidesOf line rs s → (s.low.total + s.high.total < 2 ^ 32) × (s.low.count + s.high.count < 2 ^ 32)
room line rs s few h = (omega (arith, both_numbers_in line rs s h, few.0), omega (arith, both_counted line rs s h, few.1))

-- ---- there are not too many

front_length : (k : ℕ) (xs : List (ℕ × ℕ)) → length (with_first k xs) ≤ suc (length xs)
front_length k [] = omega arith
front_length k (x ∷ xs) = go (x.0 == suc k) where
  go : (b : Bool) → length (if b then (k, suc x.1) ∷ xs else (k, 1) ∷ x ∷ xs) ≤ suc (suc (length xs))
  go true = omega arith
  go false = omega arith

few_runs : (f : ℕ → Bool) (k n : ℕ) → length (runs f k n) ≤ n
few_runs f k zero = omega arith
few_runs f k (suc n) = go (f k) (few_runs f (suc k) n) (front_length k (runs f (suc k) n)) where
  go : (b : Bool) → length (runs f (suc k) n) ≤ n → length (with_first k (runs f (suc k) n)) ≤ suc (length (runs f (suc k) n))
      → length (if b then with_first k (runs f (suc k) n) else runs f (suc k) n) ≤ suc n
  go true h l = omega (arith, h, l)
  go false h l = omega (arith, h)

pairs_total : (rs : List (ℕ × ℕ)) → numbers_in (map pair_of (map run_in rs)) ≡ total rs
pairs_total [] = refl
pairs_total (r ∷ rs) = ap (λ n. r.1 + n) (pairs_total rs)

few : (f : ℕ → Bool) (n : ℕ) → n ≡ 2 ^ 29 → AreFew (map run_in (runs f 0 n))
few f n e = (omega (arith, pairs_total (runs f 0 n), runs_total f 0 n, passing_few f 0 n, e), omega (arith, length-map (runs f 0 n) run_in, few_runs f 0 n, e))

pub extents_few : (m : Subpools) (p : Subpool) → AreFew (extents m p)
unfolding extents
extents_few m p = few (m.pages p) (2 ^ 29) refl

pub free_areas_few : (m : Subpools) (p : Subpool) → AreFew (free_areas m p)
unfolding free_areas
free_areas_few m p = few (m.free p) (2 ^ 29) refl

-- ---- they are those of the plain machine

pub holding_is : (settings : Settings) (m : StorageState) (p : Subpool) (pages free : Runs) → settings_valid settings ≡ true → ∥ IsSound settings m ∥₁ →
    ExtentsAreShown → FreeAreasAreShown → pages ≡ in_short (map pair_of (in_place.extents m.subpools p)) →
    free ≡ in_short (map pair_of (in_place.free_areas m.subpools p)) → record { pages = pages; free = free } ≡ holding_of settings (model_of m) p
holding_is settings m p pages free valid sound extents_law areas_law is_pages is_free =
    let extents : flat_map (plain.extents (model_of m) p) (ascending_regions settings) ≡ map pair_of (in_place.extents m.subpools p) =
    ∥∥₁_elim sound (hlevel props) (λ h. extents_law settings m p valid h) in
    let areas : flat_map (plain.free_areas (model_of m) p) (ascending_regions settings) ≡ map pair_of (in_place.free_areas m.subpools p) =
    ∥∥₁_elim sound (hlevel props) (λ h. areas_law settings m p valid h) in
    let first : pages ≡ in_short (flat_map (plain.extents (model_of m) p) (ascending_regions settings)) = is_pages ∙ sym (ap in_short extents) in
    let second : free ≡ in_short (flat_map (plain.free_areas (model_of m) p) (ascending_regions settings)) = is_free ∙ sym (ap in_short areas) in
    λ i. record { pages = first i; free = second i }
