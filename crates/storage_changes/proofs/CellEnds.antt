-- The extents of a cell pool lie in the pages of its subpool, which lie in the regions: so none ends past these.
use Rattle.std.proofs.Common.{◌≡◌, ℕ, ◌+◌, ◌-◌, ◌*◌, ◌^◌, ◌<◌, ◌≤◌, inl, inr, true, Option, Some, None, List, [], ◌∷◌, All, map, sym, ◌∙◌, subst, arith}
use Rattle.std.specs.Prelude.{◌/◌, ◌%◌, ◌==◌, ◌&&◌, nat_le, nat_lt}
use Rattle.std.specs.Ordering.{nat_cmp, eq_by_cmp}
use Rattle.std.specs.Cmp.Lexicographic.{slice_cmp}
use Rattle.std.proofs.Math.Nat.{mul-le-mul_left}
use Rattle.std.proofs.lemmas.Bool.{and_parts, and_from, leb-true, le-leb, lt-ltb, cond-true, cond-false, cases_Bool}
use Rattle.std.proofs.lemmas.List.Elements.{All-head, All-tail, All-cons, All-nil}
use Rattle.cell_pool.specs.declared.settings.Extent.{Extent}
use Rattle.cell_pool.specs.Pools.{Pool, rounded}
use Rattle.storage_changes.specs.PoolTable.{extent_of, cell_pool_of}
use Rattle.storage_changes.specs.TableLaws.{PoolsAreFound}
use Rattle.storage_changes.specs.State.{StorageState}
use Rattle.storage_changes.specs.Meaning.{model_of, IsSound}
use Rattle.vsm_model.specs.declared.limits.Settings.{Settings}
use Rattle.vsm_model.specs.Regions.{among, in_a_region, settings_valid}
use Rattle.vsm_model.specs.CellPools.{CellPool, CellPools, cell_pool_in, extent_doublewords}
use Rattle.vsm_model.specs.State.{State}
use Rattle.vsm_model.specs.WellFormed.{IsInSubpool, PoolIsSound}
use Rattle.storage_changes.specs.MapCells.{CellExtentsEndInRegions}
use Rattle.storage_changes.proofs.MapRanges.{sizes, either_region}

some_none : (pool : CellPool) → ◌≡◌ {A = Option CellPool} None (Some pool) → ⊥
some_none pool e = cc

same_some : (x y : CellPool) → ◌≡◌ {A = Option CellPool} (Some x) (Some y) → x ≡ y
same_some x y e = cc

-- what holds of each row holds of one that is found
found_has : (P : CellPool → Type 0) (table : CellPools) (name : List ℕ) (pool : CellPool) → All (λ row. P row.1) table → cell_pool_in table name ≡ Some pool → P pool
found_has P [] name pool all e = absurd (some_none pool e)
found_has P (row ∷ rows) name pool all e =
    elim (cases_Bool (eq_by_cmp (slice_cmp nat_cmp) name row.0)) [
      | inl is ↦ subst P (same_some row.1 pool (sym (cond-true (eq_by_cmp (slice_cmp nat_cmp) name row.0) (Some row.1) (cell_pool_in rows name) is) ∙ e)) (All-head (λ (r : List ℕ × CellPool). P r.1) row rows all)
      | inr other ↦ found_has P rows name pool (All-tail (λ (r : List ℕ × CellPool). P r.1) row rows all) (sym (cond-false (eq_by_cmp (slice_cmp nat_cmp) name row.0) (Some row.1) (cell_pool_in rows name) other) ∙ e)
    ]

-- the last doubleword of an area lies in a page below the end of both regions
area_ends : (start count d : ℕ) → start % 8 ≡ 0 → 1 ≤ count → d + 1 ≡ start / 8 + count → d / 512 < 425984 → start + 8 * count < 2 ^ 31
area_ends start count d even some last page = omega arith

page_ends : (settings : Settings) (page : ℕ) → settings_valid settings ≡ true → in_a_region settings page ≡ true → page < 425984
page_ends settings page valid e =
    let most = sizes settings valid in
    let low : settings.low_k / 4 ≤ 4090 = most.0 in
    let high : settings.high_k / 4 ≤ 393216 = most.1 in
    elim (either_region settings page e) [ inl h ↦ omega (arith, h.1, low) | inr h ↦ omega (arith, h.1, high) ]

-- a cell is of four bytes at least
cell_size : (size count : ℕ) → ((size % 4 == 0) && nat_le 4 size && nat_le size 4096 && nat_le 1 count && nat_le count 4096) ≡ true → 4 ≤ size
cell_size size count e =
    let a = and_parts ((size % 4 == 0) && nat_le 4 size && nat_le size 4096 && nat_le 1 count) (nat_le count 4096) e in
    let b = and_parts ((size % 4 == 0) && nat_le 4 size && nat_le size 4096) (nat_le 1 count) a.0 in
    let c = and_parts ((size % 4 == 0) && nat_le 4 size) (nat_le size 4096) b.0 in
    let d = and_parts (size % 4 == 0) (nat_le 4 size) c.0 in
    leb-true 4 size d.1

some_doublewords : (cells size : ℕ) → 1 ≤ cells → 4 ≤ size → 1 ≤ (cells * size + 7) / 8
some_doublewords cells size some h = let k = mul-le-mul_left cells h in omega (arith, k)

module _ (settings : Settings) (m : StorageState) (p : Pool) (valid : settings_valid settings ≡ true) (sound : IsSound settings m) (size : 4 ≤ p.settings.size) where
  abbrev s : State
  s = model_of m

  abbrev pool : CellPool
  pool = cell_pool_of p

  from_last : (x : Extent) → IsInSubpool s pool (extent_of x) → 1 ≤ extent_doublewords pool x.count → (d : ℕ) → d + 1 ≡ x.start / 8 + extent_doublewords pool x.count
      → x.start + rounded (x.count * p.settings.size) < 2 ^ 31
  from_last x h some d is =
      let low : x.start / 8 ≤ d = omega (arith, some, is) in
      let high : d < x.start / 8 + extent_doublewords pool x.count = omega (arith, is) in
      let inside : among (x.start / 8) (extent_doublewords pool x.count) d ≡ true = and_from (nat_le (x.start / 8) d) (nat_lt d (x.start / 8 + extent_doublewords pool x.count)) (le-leb (x.start / 8) d low) (lt-ltb d (x.start / 8 + extent_doublewords pool x.count) high) in
      area_ends x.start (extent_doublewords pool x.count) d h.on_doubleword some is
      (page_ends settings (d / 512) valid (sound.well_formed.pages.in_region (d / 512) pool.subpool (h.in_pages d inside)))

  extent_ends : (x : Extent) → IsInSubpool s pool (extent_of x) → x.start + rounded (x.count * p.settings.size) < 2 ^ 31
  extent_ends x h =
      let some : 1 ≤ extent_doublewords pool x.count = some_doublewords x.count p.settings.size h.has_cells size in
      from_last x h some (x.start / 8 + (extent_doublewords pool x.count - 1)) (omega (arith, some))

  ends : (xs : List Extent) → All (IsInSubpool s pool) (map extent_of xs) → All (λ (x : Extent). x.start + rounded (x.count * p.settings.size) < 2 ^ 31) xs
  ends [] h = All-nil (λ (x : Extent). x.start + rounded (x.count * p.settings.size) < 2 ^ 31)
  ends (x ∷ xs) h =
      All-cons (λ (x : Extent). x.start + rounded (x.count * p.settings.size) < 2 ^ 31) x xs
      (extent_ends x (All-head (IsInSubpool s pool) (extent_of x) (map extent_of xs) h))
      (ends xs (All-tail (IsInSubpool s pool) (extent_of x) (map extent_of xs) h))

pub cell_extents_end : PoolsAreFound → CellExtentsEndInRegions
cell_extents_end law settings m id p valid sound named there =
    let found : cell_pool_in (model_of m).cell_pools p.name ≡ Some (cell_pool_of p) = (law m.subpools.cells named).0 id p there in
    let is : PoolIsSound (model_of m) (cell_pool_of p) = found_has (PoolIsSound (model_of m)) (model_of m).cell_pools p.name (cell_pool_of p) sound.well_formed.cell_pools.each found in
    ends settings m p valid sound (cell_size p.settings.size p.settings.primary is.bounds.0) p.extents is.in_subpool
