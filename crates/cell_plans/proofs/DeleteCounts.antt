-- How many records and blank elements the change that deletes a cell pool has.
use Rattle.std.proofs.Common.{◌≡◌, ℕ, zero, suc, ◌+◌, ◌-◌, ◌*◌, ◌/◌, ◌<◌, ◌≤◌, min, Bool, true, false, Option, Some, None, List, [], ◌∷◌, ◌++◌, length, arith}
use Rattle.std.proofs.lemmas.List.{length-append}
use Rattle.vsm_model.specs.declared.Subpool.{Subpool}
use Rattle.vsm_model.specs.Regions.{doublewords}
use Rattle.cell_pool.specs.declared.settings.Extent.{Extent}
use Rattle.cell_pool.specs.Pools.{Pool}
use Rattle.subpool_storage.specs.Subpools.{Subpools, with_free}
use Rattle.storage_changes.specs.declared.record.Record.{Record}
use Rattle.storage_changes.specs.State.{StorageState}
use Rattle.storage_changes.specs.StorageActions.{run_of, area_records, returned_records, give_back_records, emptied_pages, register_records}
use Rattle.storage_changes.specs.CellActions.{extents_given_back, deleting_records}
use Rattle.storage_changes.proofs.Rows.{few_records}
use Rattle.cell_plans.specs.CellPlans.{deleting_change, extents_of_pool}

-- an area is one record, or none
area-count : (p : Subpool) (start count : ℕ) (free : Bool) → length (area_records p start count free) ≡ min 1 count
area-count p start zero free = omega arith
area-count p start (suc n) free = omega arith

-- an area with the pages that it empties is four: one on either side of the pages, and two for the pages
given-back-short : (p : Subpool) (d count page n : ℕ) → length (give_back_records p d count page n) ≤ 4
given-back-short p d count page zero = omega (arith, area-count p d count true)
given-back-short p d count page (suc n) =
    let past : ℕ = 512 * (page + suc n) in
    let freeing = area_records p d (512 * page - d) true in
    let taking = area_records p (512 * page) (d - 512 * page) false in
    let freeing_behind = area_records p past (d + count - past) true in
    let taking_behind = area_records p (d + count) (past - (d + count)) false in
    omega (
      arith,
      length-append (freeing ++ taking ++ freeing_behind ++ taking_behind) (returned_records p page (suc n)),
      length-append (freeing ++ taking ++ freeing_behind) taking_behind,
      length-append (freeing ++ taking) freeing_behind,
      length-append freeing taking,
      area-count p d (512 * page - d) true,
      area-count p (512 * page) (d - 512 * page) false,
      area-count p past (d + count - past) true,
      area-count p (d + count) (past - (d + count)) false,
    )

four-more : (rs ss : List Record) (n : ℕ) → length rs ≤ 4 → length ss ≤ 4 * n → length (rs ++ ss) ≤ 4 * suc n
four-more rs ss n short rest = omega (arith, length-append rs ss, short, rest)

-- so each extent is four
pub extents-short : (m : Subpools) (p : Subpool) (size : ℕ) (xs : List Extent) → length (extents_given_back m p size xs) ≤ 4 * length xs
extents-short m p size [] = omega arith
extents-short m p size (x ∷ xs) =
    let count = doublewords (x.count * size) in
    let run = emptied_pages m p (x.start / 8) count in
    let then_free = with_free m p (run_of (x.start / 8) count) true in
    four-more (give_back_records p (x.start / 8) count run.start run.len) (extents_given_back then_free p size xs) (length xs)
    (given-back-short p (x.start / 8) count run.start run.len) (extents-short then_free p size xs)

-- and with the blank elements the change has no more than eight for each, and three
pub delete-short :
    (m : StorageState) (o : Option Pool) → length (deleting_change m o).records + (deleting_change m o).blanks < 32 + 8 * (1 + extents_of_pool o)
delete-short m None = omega arith
delete-short m (Some p) =
    omega (
      arith,
      length-append (deleting_records m.subpools p) (register_records m ((15, 0) ∷ [])),
      few_records m.tasks.current (m.tasks.words m.tasks.current) (15, 0) [],
      extents-short m.subpools p.settings.subpool p.settings.size p.extents,
    )
