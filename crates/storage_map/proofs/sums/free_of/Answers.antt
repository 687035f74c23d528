use Rattle.std.proofs.Common.{◌≡◌, ◌+◌, arith}
use Rattle.subpool_storage.specs.Extents.{free_areas}
use Rattle.storage_core.specs.Meaning.{state_in_place}
use Rattle.storage_core.specs.Walks.{subpool_before}
use Rattle.storage_map.proofs.Sides.{all_numbers}
use Rattle.storage_map.proofs.sums.free_of.Goals as goal

pub free_area_sums-sums-requires : goal.free_area_sums-sums-requires
free_area_sums-sums-requires c = (subpool_before c.args.storage.now c.args.place, 0, c.first_free_area_at.ensures)

pub overflow_add-result : goal.overflow_add-result
overflow_add-result c =
    let p = subpool_before c.args.storage.now c.args.place in
    let sides = c.free_area_sums-sums.ensures p 0 c.first_free_area_at.ensures in
    omega (arith, all_numbers 2097152 (free_areas (state_in_place c.args.storage.now).subpools p) c.free_area_sums-sums.result sides, c.requires.few)

pub returns : goal.returns
returns c =
    let p = subpool_before c.args.storage.now c.args.place in
    let sides = c.free_area_sums-sums.ensures p 0 c.first_free_area_at.ensures in
    all_numbers 2097152 (free_areas (state_in_place c.args.storage.now).subpools p) c.free_area_sums-sums.result sides
