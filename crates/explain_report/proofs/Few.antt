-- There are no more free areas than doublewords in them.
use Rattle.std.proofs.Common.{◌≡◌, ℕ, zero, suc, ◌+◌, ◌≤◌, ◌==◌, Bool, true, false, if◌then◌else◌, List, [], ◌∷◌, length, map, refl, arith}
use Rattle.std.specs.Prelude.{◌^◌}
use Rattle.std.proofs.lemmas.List.{length-map}
use Rattle.run_set.specs.Runs.{Run}
use Rattle.vsm_model.specs.Runs.{with_first, runs}
use Rattle.vsm_model.specs.declared.Subpool.{Subpool}
use Rattle.subpool_storage.specs.Subpools.{Subpools}
use Rattle.subpool_storage.specs.Extents.{run_in, free_areas}
use Rattle.storage_changes.proofs.MapSums.{sum_map, total}
use Rattle.explain_report.specs.Tallies.{numbers_in}

front_length : (k : ℕ) (xs : List (ℕ × ℕ)) → length (with_first k xs) ≤ suc (length xs)
front_length k [] = omega arith
front_length k (x ∷ xs) = go (x.0 == suc k) where
  go : (b : Bool) → length (if b then (k, suc x.1) ∷ xs else (k, 1) ∷ x ∷ xs) ≤ suc (suc (length xs))
  go true = omega arith
  go false = omega arith

-- No run is empty, so there are no more runs than numbers in them.
front_more : (k : ℕ) (xs : List (ℕ × ℕ)) → total (with_first k xs) ≡ 1 + total xs
front_more k [] = refl
front_more k (x ∷ xs) = go (x.0 == suc k) where
  go : (b : Bool) → total (if b then (k, suc x.1) ∷ xs else (k, 1) ∷ x ∷ xs) ≡ 1 + (x.1 + total xs)
  go true = omega arith
  go false = omega arith

none_empty : (f : ℕ → Bool) (k n : ℕ) → length (runs f k n) ≤ total (runs f k n)
none_empty f k zero = omega arith
none_empty f k (suc n) = go (f k) (none_empty f (suc k) n) (front_length k (runs f (suc k) n)) (front_more k (runs f (suc k) n)) where
  go : (b : Bool) → length (runs f (suc k) n) ≤ total (runs f (suc k) n) → length (with_first k (runs f (suc k) n)) ≤ suc (length (runs f (suc k) n))
      → total (with_first k (runs f (suc k) n)) ≡ 1 + total (runs f (suc k) n)
      → length (if b then with_first k (runs f (suc k) n) else runs f (suc k) n) ≤ total (if b then with_first k (runs f (suc k) n) else runs f (suc k) n)
  go true h l t = omega (arith, h, l, t)
  go false h l t = h

pub areas_are_not_empty : (m : Subpools) (p : Subpool) → length (free_areas m p) ≤ numbers_in (free_areas m p)
unfolding free_areas
areas_are_not_empty m p = go (2 ^ 29) where
  go : (n : ℕ) → length (map run_in (runs (m.free p) 0 n)) ≤ numbers_in (map run_in (runs (m.free p) 0 n))
  go n =
      let k : numbers_in (map run_in (runs (m.free p) 0 n)) ≡ total (runs (m.free p) 0 n) = sum_map (λ (r : Run). r.len) run_in (runs (m.free p) 0 n) in
      omega (arith, length-map (runs (m.free p) 0 n) run_in, none_empty (m.free p) 0 n, k)
