-- The totals of the plain machine are sums over the subpools of the storage in place.
use Rattle.std.proofs.Common.{◌≡◌, ℕ, ◌+◌, ◌*◌, ◌<◌, ◌≤◌, Bool, true, false, ◌&&◌, not, nat_lt, if◌then◌else◌, List, [], ◌∷◌, ◌++◌, map, is_some, refl, sym, ap, ◌∙◌, arith}
use Rattle.std.specs.Prelude.{◌/◌, ◌^◌}
use Rattle.std.proofs.lemmas.Bool.{ltb-true, lt-ltb, false_from_ne_true}
use Rattle.run_set.specs.Runs.{Run}
use Rattle.vsm_model.specs.declared.Subpool.{Subpool}
use Rattle.vsm_model.specs.declared.limits.Settings.{Settings}
use Rattle.vsm_model.specs.Regions.{low_region, high_region, settings_valid}
use Rattle.vsm_model.specs.Runs.{runs}
use Rattle.vsm_model.specs.Search.{passing}
use Rattle.vsm_model.specs.Map.{assigned_pages, taken_doublewords}
use Rattle.subpool_storage.specs.Extents.{run_in, extents, free_areas}
use Rattle.subpool_storage.specs.Order.{subpools_in_order}
use Rattle.storage_changes.specs.State.{StorageState}
use Rattle.storage_changes.specs.Meaning.{subpool_of, is_taken, model_of, IsSound}
use Rattle.storage_changes.specs.MapTotals.{sum_of, pages_on_side, subpool_pages, all_pages, subpool_free, all_free, PagesAreCounted, BytesAreCounted, TotalsAreFew}
use Rattle.storage_changes.proofs.MapRunLists.{Between, runs_between}
use Rattle.storage_changes.proofs.MapRanges.{sizes}
use Rattle.storage_changes.proofs.MapListsShown.{page_runs, free_runs}
use Rattle.storage_changes.proofs.MapSums.{one_if, total, passing_few, sum_same, sum_append, sum_plus, sum_map, passing_plus, passing_blocks, passing_sum, runs_total}
use Rattle.storage_changes.proofs.MapCounts.{page_counts, free_counts}

-- what a run below the line, or above it, counts on a side
below_counts : (below : Bool) (low high : ℕ) (xs : List (ℕ × ℕ)) → high ≤ 4096 → Between low high xs
    → sum_of (λ x. pages_on_side below (run_in x)) xs ≡ (if below then total xs else 0)
below_counts true low high [] most h = refl
below_counts false low high [] most h = refl
below_counts below low high (x ∷ xs) most h =
    let some : 0 < x.1 = h.1 in
    let ends : x.0 + x.1 ≤ high = h.2 in
    let side : nat_lt x.0 4096 ≡ true = lt-ltb x.0 4096 (omega (arith, some, ends, most)) in
    ap (λ (b : Bool). (if b then (if below then x.1 else 0) else (if below then 0 else x.1)) + sum_of (λ x. pages_on_side below (run_in x)) xs) side
    ∙ ap (λ (z : ℕ). (if below then x.1 else 0) + z) (below_counts below low high xs most h.3) ∙ joined below
  where
    joined : (b : Bool) → (if b then x.1 else 0) + (if b then total xs else 0) ≡ (if b then x.1 + total xs else 0)
    joined true = refl
    joined false = refl

above_counts : (below : Bool) (low high : ℕ) (xs : List (ℕ × ℕ)) → 4096 ≤ low → Between low high xs
    → sum_of (λ x. pages_on_side below (run_in x)) xs ≡ (if below then 0 else total xs)
above_counts true low high [] least h = refl
above_counts false low high [] least h = refl
above_counts below low high (x ∷ xs) least h =
    let far : low ≤ x.0 = h.0 in
    let side : nat_lt x.0 4096 ≡ false = false_from_ne_true (nat_lt x.0 4096) (λ e. (let near : x.0 < 4096 = ltb-true x.0 4096 e in omega (arith, near, far, least))) in
    ap (λ (b : Bool). (if b then (if below then x.1 else 0) else (if below then 0 else x.1)) + sum_of (λ x. pages_on_side below (run_in x)) xs) side
    ∙ ap (λ (z : ℕ). (if below then 0 else x.1) + z) (above_counts below low high xs least h.3) ∙ joined below
  where
    joined : (b : Bool) → (if b then 0 else x.1) + (if b then 0 else total xs) ≡ (if b then 0 else x.1 + total xs)
    joined true = refl
    joined false = refl

-- runs of a range on each side of the line, by side and all together
sides_of : (f : ℕ → Bool) (below : Bool) (n m : ℕ) (xs : List (ℕ × ℕ)) → n ≤ 4090 → xs ≡ runs f 6 n ++ runs f 32768 m
    → sum_of (pages_on_side below) (map run_in xs) ≡ (if below then passing f 6 n else passing f 32768 m)
sides_of f below n m xs most e =
    sum_map (pages_on_side below) run_in xs
    ∙ ap (sum_of (λ x. pages_on_side below (run_in x))) e
    ∙ sum_append (λ x. pages_on_side below (run_in x)) (runs f 6 n) (runs f 32768 m)
    ∙ ap (λ (z : ℕ). z + sum_of (λ x. pages_on_side below (run_in x)) (runs f 32768 m)) (below_counts below 6 (6 + n) (runs f 6 n) (omega (arith, most)) (runs_between f 6 n))
    ∙ ap (λ (z : ℕ). (if below then total (runs f 6 n) else 0) + z) (above_counts below 32768 (32768 + m) (runs f 32768 m) (omega arith) (runs_between f 32768 m))
    ∙ joined below
  where
    joined : (b : Bool) → (if b then total (runs f 6 n) else 0) + (if b then 0 else total (runs f 32768 m)) ≡ (if b then passing f 6 n else passing f 32768 m)
    joined true = omega (arith, runs_total f 6 n)
    joined false = omega (arith, runs_total f 32768 m)

all_of : (f : ℕ → Bool) (a n b m : ℕ) (xs : List (ℕ × ℕ)) → xs ≡ runs f a n ++ runs f b m → sum_of (λ r. r.len) (map run_in xs) ≡ passing f a n + passing f b m
all_of f a n b m xs e =
    sum_map (λ (r : Run). r.len) run_in xs ∙ ap total e ∙ sum_append (λ (x : ℕ × ℕ). x.1) (runs f a n) (runs f b m)
    ∙ ap (λ (z : ℕ). z + total (runs f b m)) (runs_total f a n) ∙ ap (λ (z : ℕ). passing f a n + z) (runs_total f b m)

module _ (settings : Settings) (m : StorageState) (valid : settings_valid settings ≡ true) (sound : IsSound settings m) where
  -- the pages of a subpool on a side, and its free doublewords, as numbers that pass
  pages_pass : (below : Bool) (p : Subpool)
      → (if below then passing (m.subpools.pages p) 6 (settings.low_k / 4) else passing (m.subpools.pages p) 32768 (settings.high_k / 4)) ≡ subpool_pages m.subpools below p
  unfolding extents
  pages_pass below p =
      sym (sides_of (m.subpools.pages p) below (settings.low_k / 4) (settings.high_k / 4) (runs (m.subpools.pages p) 0 (2 ^ 29)) (sizes settings valid).0 (page_runs settings m p valid sound (2 ^ 29) refl))

  free_pass : (p : Subpool)
      → passing (m.subpools.free p) (512 * 6) (512 * (settings.low_k / 4)) + passing (m.subpools.free p) (512 * 32768) (512 * (settings.high_k / 4)) ≡ subpool_free m.subpools p
  unfolding free_areas
  free_pass p =
      sym (all_of (m.subpools.free p) (512 * 6) (512 * (settings.low_k / 4)) (512 * 32768) (512 * (settings.high_k / 4)) (runs (m.subpools.free p) 0 (2 ^ 29)) (free_runs settings m p valid sound (2 ^ 29) refl))

  assigned_are : (first count : ℕ) → assigned_pages (model_of m) (record { first = first; count = count }) ≡ sum_of (λ p. passing (m.subpools.pages p) first count) (subpools_in_order m.subpools)
  assigned_are first count =
      passing_sum (λ k. is_some (subpool_of m.subpools k)) (λ p k. m.subpools.pages p k) (subpools_in_order m.subpools) (page_counts settings m sound) first count

  free_are : (first count : ℕ) → taken_doublewords (model_of m) false (record { first = first; count = count })
      ≡ sum_of (λ p. passing (m.subpools.free p) (512 * first) (512 * count)) (subpools_in_order m.subpools)
  free_are first count =
      passing_sum (λ d. is_some (subpool_of m.subpools (d / 512)) && not (is_taken m.subpools (subpool_of m.subpools (d / 512)) d)) (λ p d. m.subpools.free p d)
      (subpools_in_order m.subpools) (free_counts settings m sound) (512 * first) (512 * count)

  -- the doublewords of assigned pages are taken or free
  either_way : (first count : ℕ)
      → taken_doublewords (model_of m) true (record { first = first; count = count }) + taken_doublewords (model_of m) false (record { first = first; count = count })
      ≡ 512 * assigned_pages (model_of m) (record { first = first; count = count })
  either_way first count =
      passing_plus (λ d. is_some (subpool_of m.subpools (d / 512)) && is_taken m.subpools (subpool_of m.subpools (d / 512)) d)
      (λ d. is_some (subpool_of m.subpools (d / 512)) && not (is_taken m.subpools (subpool_of m.subpools (d / 512)) d)) (λ d. is_some (subpool_of m.subpools (d / 512)))
      (λ d. both (is_some (subpool_of m.subpools (d / 512))) (is_taken m.subpools (subpool_of m.subpools (d / 512)) d)) (512 * first) (512 * count)
      ∙ passing_blocks (λ k. is_some (subpool_of m.subpools k)) first count
    where
      both : (a b : Bool) → one_if (a && b) + one_if (a && not b) ≡ one_if a
      both true true = refl
      both true false = refl
      both false b = refl

  pages_low : assigned_pages (model_of m) (low_region settings) ≡ all_pages m.subpools true
  pages_low =
      assigned_are 6 (settings.low_k / 4)
      ∙ sum_same (λ p. passing (m.subpools.pages p) 6 (settings.low_k / 4)) (subpool_pages m.subpools true) (pages_pass true) (subpools_in_order m.subpools)

  pages_high : assigned_pages (model_of m) (high_region settings) ≡ all_pages m.subpools false
  pages_high =
      assigned_are 32768 (settings.high_k / 4)
      ∙ sum_same (λ p. passing (m.subpools.pages p) 32768 (settings.high_k / 4)) (subpool_pages m.subpools false) (pages_pass false) (subpools_in_order m.subpools)

  free_all : taken_doublewords (model_of m) false (low_region settings) + taken_doublewords (model_of m) false (high_region settings) ≡ all_free m.subpools
  free_all =
      ap (λ (z : ℕ). z + taken_doublewords (model_of m) false (high_region settings)) (free_are 6 (settings.low_k / 4))
      ∙ ap (λ (z : ℕ). sum_of (λ p. passing (m.subpools.free p) (512 * 6) (512 * (settings.low_k / 4))) (subpools_in_order m.subpools) + z) (free_are 32768 (settings.high_k / 4))
      ∙ sym (sum_plus (λ p. passing (m.subpools.free p) (512 * 6) (512 * (settings.low_k / 4))) (λ p. passing (m.subpools.free p) (512 * 32768) (512 * (settings.high_k / 4))) (subpools_in_order m.subpools))
      ∙ sum_same (λ p. passing (m.subpools.free p) (512 * 6) (512 * (settings.low_k / 4)) + passing (m.subpools.free p) (512 * 32768) (512 * (settings.high_k / 4))) (subpool_free m.subpools) free_pass (subpools_in_order m.subpools)

  -- no more than the pages of the regions, and their doublewords
  pages_few : (below : Bool) (p : Subpool) → subpool_pages m.subpools below p ≤ 2 ^ 20
  pages_few true p = omega (arith, pages_pass true p, passing_few (m.subpools.pages p) 6 (settings.low_k / 4), (sizes settings valid).0)
  pages_few false p = omega (arith, pages_pass false p, passing_few (m.subpools.pages p) 32768 (settings.high_k / 4), (sizes settings valid).1)

  all_pages_few : (below : Bool) → all_pages m.subpools below ≤ 2 ^ 20
  all_pages_few true = omega (arith, pages_low, passing_few (λ k. is_some (subpool_of m.subpools k)) 6 (settings.low_k / 4), (sizes settings valid).0)
  all_pages_few false = omega (arith, pages_high, passing_few (λ k. is_some (subpool_of m.subpools k)) 32768 (settings.high_k / 4), (sizes settings valid).1)

  free_few : (p : Subpool) → subpool_free m.subpools p ≤ 2 ^ 29
  free_few p =
      omega (arith, free_pass p, passing_few (m.subpools.free p) (512 * 6) (512 * (settings.low_k / 4)), passing_few (m.subpools.free p) (512 * 32768) (512 * (settings.high_k / 4)), (sizes settings valid).0, (sizes settings valid).1)

  all_free_few : all_free m.subpools ≤ 2 ^ 29
  all_free_few =
      let free : ℕ → Bool = λ d. is_some (subpool_of m.subpools (d / 512)) && not (is_taken m.subpools (subpool_of m.subpools (d / 512)) d) in
      omega (arith, free_all, passing_few free (512 * 6) (512 * (settings.low_k / 4)), passing_few free (512 * 32768) (512 * (settings.high_k / 4)), (sizes settings valid).0, (sizes settings valid).1)

pub pages_are_counted : PagesAreCounted
pages_are_counted settings m valid sound = (pages_low settings m valid sound, pages_high settings m valid sound)

-- bytes of doublewords on both sides
in_bytes : (taken_low taken_high free_low free_high low high pages_low pages_high : ℕ) → taken_low + free_low ≡ 512 * low → taken_high + free_high ≡ 512 * high
    → low ≡ pages_low → high ≡ pages_high → 8 * (taken_low + taken_high) + 8 * (free_low + free_high) ≡ 4096 * (pages_low + pages_high)
in_bytes taken_low taken_high free_low free_high low high pages_low pages_high e f g h = omega (arith, e, f, g, h)

pub bytes_are_counted : BytesAreCounted
bytes_are_counted settings m valid sound = (
  ap (λ (z : ℕ). 8 * z) (free_all settings m valid sound),
  in_bytes (taken_doublewords (model_of m) true (low_region settings)) (taken_doublewords (model_of m) true (high_region settings))
      (taken_doublewords (model_of m) false (low_region settings)) (taken_doublewords (model_of m) false (high_region settings))
      (assigned_pages (model_of m) (low_region settings)) (assigned_pages (model_of m) (high_region settings)) (all_pages m.subpools true) (all_pages m.subpools false)
      (either_way settings m valid sound 6 (settings.low_k / 4)) (either_way settings m valid sound 32768 (settings.high_k / 4))
      (pages_low settings m valid sound) (pages_high settings m valid sound),
)

pub totals_are_few : TotalsAreFew
totals_are_few settings m valid sound =
    (pages_few settings m valid sound, all_pages_few settings m valid sound, free_few settings m valid sound, all_free_few settings m valid sound)
