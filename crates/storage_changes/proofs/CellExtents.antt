-- An extent that is added: it overlaps no other one of its cell pool, and its first cell is the first free one.
use Rattle.std.proofs.Common.{◌≡◌, ℕ, zero, suc, ◌+◌, ◌*◌, ◌/◌, ◌%◌, ◌<◌, ◌≤◌, Bool, true, false, not, ◌||◌, nat_lt, ◌==◌, List, [], ◌∷◌, ◌++◌, Some, refl, sym, ◌∙◌, ap, subst, arith, inl, inr, true≢false}
use Rattle.std.specs.Prelude.{drop}
use Rattle.std.proofs.Math.Nat.{mul-pos}
use Rattle.std.proofs.lemmas.Bool.{and_parts, and_from, or_right, eq-eqb, ltb-true, cases_lt, false_from_ne_true}
use Rattle.vsm_elements.specs.Store.{among, Distinct}
use Rattle.vsm_model.specs.declared.limits.Settings.{Settings}
use Rattle.vsm_model.specs.Areas.{Place, address_of}
use Rattle.vsm_model.specs.WellFormed.{PoolIsSound, IsInSubpool}
use Rattle.service_laws.proofs.Deleting.{any_at}
use Rattle.service_laws.proofs.Pools.{sound_of}
use Rattle.service_laws.proofs.Spans.{all_unmapped, in-among}
use Rattle.cell_pool.specs.declared.settings.Extent.{Extent}
use Rattle.cell_pool.specs.Pool.{cells_of, overlaps}
use Rattle.cell_pool.proofs.CellLemmas.{cells_more}
use Rattle.cell_pool.proofs.WalkLemmas.{distinct_cells}
use Rattle.cell_pool.specs.Pools.{Pool, cells_from, meets, uses, extended, without_first}
use Rattle.storage_changes.specs.TableLaws.{PoolsAreFound}
use Rattle.storage_changes.specs.NamedPools.{AreNamed}
use Rattle.storage_changes.specs.PoolTable.{cell_pool_of, extent_of}
use Rattle.storage_changes.specs.Meaning.{model_of, IsSound}
use Rattle.storage_changes.specs.State.{StorageState}
use Rattle.storage_changes.specs.CellActions.{HasRoom, doublewords_for}
use Rattle.storage_changes.proofs.Places.{untaken, on_doubleword}

module _ (settings : Settings) (m : StorageState) (p : Pool) (count : ℕ) (goes : Place) (sound : IsSound settings m) (size : 0 < p.settings.size)
    (more : 0 < doublewords_for p count) (room : HasRoom m p.settings.subpool (doublewords_for p count) goes) where
  abbrev start : ℕ
  start = address_of goes

  abbrev new : ℕ
  new = count * p.settings.size

  -- a doubleword isn't both in an extent and in the new area
  not_both : (x : Extent) → IsInSubpool (model_of m) (cell_pool_of p) (extent_of x) → (k : ℕ)
      → x.start / 8 ≤ k → k < x.start / 8 + (x.count * p.settings.size + 7) / 8 → start ≤ 8 * k → 8 * k < start + 8 * ((new + 7) / 8) → ⊥
  not_both x h k low high from below =
      true≢false (sym (h.is_taken k (in-among (x.start / 8) ((x.count * p.settings.size + 7) / 8) k low high))
      ∙ untaken settings m p.settings.subpool (doublewords_for p count) sound goes room k from below)

  overlaps_none : (x : Extent) → IsInSubpool (model_of m) (cell_pool_of p) (extent_of x) → overlaps p.settings.size start new x ≡ true → ⊥
  overlaps_none x h e =
      let old = x.count * p.settings.size in
      let parts = and_parts (nat_lt start (x.start + 8 * ((old + 7) / 8))) (nat_lt x.start (start + new)) e in
      let low : start < x.start + 8 * ((old + 7) / 8) = ltb-true start (x.start + 8 * ((old + 7) / 8)) parts.0 in
      let high : x.start < start + new = ltb-true x.start (start + new) parts.1 in
      let on : x.start % 8 ≡ 0 = h.on_doubleword in
      let too : (start / 8) * 8 ≡ start = on_doubleword goes in
      let some : 0 < old = mul-pos h.has_cells size in
      elim (cases_lt x.start start) [
        | inl before ↦ not_both x h (start / 8) (omega (arith, before)) (omega (arith, low, on, too)) (omega (arith, too)) (omega (arith, too, more))
        | inr behind ↦ not_both x h (x.start / 8) (omega arith) (omega (arith, some)) (omega (arith, on, behind)) (omega (arith, on, high))
      ]

  pub meets_none : PoolsAreFound → AreNamed m.subpools.cells → m.subpools.cells p.id ≡ Some p → meets start new p ≡ false
  meets_none are_found named there =
      let its : PoolIsSound (model_of m) (cell_pool_of p) =
      sound_of (model_of m) p.name (cell_pool_of p) sound.well_formed.cell_pools ((are_found m.subpools.cells named).0 p.id p there) in
      false_from_ne_true (meets start new p) (λ e.
      let P : Extent → Type 0 = λ x. IsInSubpool (model_of m) (cell_pool_of p) (extent_of x) in
      let hit = any_at P (overlaps p.settings.size start new) p.extents
      (all_unmapped (IsInSubpool (model_of m) (cell_pool_of p)) extent_of p.extents its.in_subpool) e in
      overlaps_none hit.0 hit.1 hit.2)

-- the first cell of an extent
pub first_cell : (size start count : ℕ) → 0 < count → cells_from size start count ≡ start ∷ drop 1 (cells_from size start count)
unfolding cells_from
first_cell size start zero some = absurd (omega (arith, some))
first_cell size start (suc n) some = ap (λ k. k ∷ drop 1 (cells_from size start (suc n))) (omega arith)

among_right : (xs ys : List ℕ) (k : ℕ) → among k ys ≡ true → among k (xs ++ ys) ≡ true
among_right [] ys k e = e
among_right (x ∷ xs) ys k e = or_right (k == x) (among k (xs ++ ys)) (among_right xs ys k e)

among_first : (ys zs : List ℕ) (k : ℕ) → ys ≡ k ∷ zs → among k ys ≡ true
among_first ys zs k e = ap (among k) e ∙ here (k == k) (eq-eqb k k refl) where
  here : (b : Bool) → b ≡ true → (b || among k zs) ≡ true
  here true f = refl
  here false f = cc

module _ (p : Pool) (start count : ℕ) (empty : p.cells ≡ []) (some : 0 < count) (size : 0 < p.settings.size) where
  -- it is the first free one if none was free,
  pub first_free : (extended start count p).cells ≡ start ∷ drop 1 (cells_from p.settings.size start count)
  first_free = ap (λ (z : List ℕ). z ++ cells_from p.settings.size start count) empty ∙ first_cell p.settings.size start count some

  -- and in use once it is handed out
  pub first_is_used : uses (without_first (extended start count p)) start ≡ true
  first_is_used =
      let new = cells_from p.settings.size start count in
      let first = first_cell p.settings.size start count some in
      let q = extended start count p in
      let there = ap (among start) (cells_more p.settings.size p.extents (record { start = start; count = count }))
      ∙ among_right (cells_of p.settings.size p.extents) new start (among_first new (drop 1 new) start first) in
      let once = (subst Distinct first (distinct_cells p.settings.size start count size)).0 in
      let gone = ap (λ (z : List ℕ). among start (drop 1 z)) first_free ∙ once in
      and_from (among start (cells_of p.settings.size q.extents)) (not (among start (drop 1 q.cells))) there (ap not gone)
