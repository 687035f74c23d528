use Rattle.std.proofs.Common.{◌∙◌, ap, arith}
use Rattle.subpool_storage.specs.Extents.{free_areas}
use Rattle.storage_core.specs.Meaning.{state_in_place}
use Rattle.storage_core.specs.Walks.{subpool_before}
use Rattle.explain_report.specs.declared.tallies.Tally.{Tally}
use Rattle.explain_report.specs.Tallies.{with_tally}
use Rattle.explain_report.proofs.TallyLemmas.{both_joined, room_for_both}
use Rattle.explain_report.proofs.walks.with_free_areas.Goals as goal

pub free_area_sums-requires : goal.free_area_sums-requires
free_area_sums-requires c = (subpool_before c.args.storage.now c.args.subpool_place, 0, c.first_free_area_at.ensures)

pub joined-requires-clause-total : goal.joined-requires-clause-total
joined-requires-clause-total c =
    let p = subpool_before c.args.storage.now c.args.subpool_place in
    let rs = free_areas (state_in_place c.args.storage.now).subpools p in
    let sides = c.free_area_sums.ensures p 0 c.first_free_area_at.ensures in
    let made = c.from_sums-sides in
    let k = (room_for_both 2097152 c.args.before made.result.low made.result.high rs (made.ensures.low 2097152 rs sides) (made.ensures.high 2097152 rs sides) c.requires.total c.requires.count).0 in
    omega (arith, k)

pub joined-requires-clause-count : goal.joined-requires-clause-count
joined-requires-clause-count c =
    let p = subpool_before c.args.storage.now c.args.subpool_place in
    let rs = free_areas (state_in_place c.args.storage.now).subpools p in
    let sides = c.free_area_sums.ensures p 0 c.first_free_area_at.ensures in
    let made = c.from_sums-sides in
    let k = (room_for_both 2097152 c.args.before made.result.low made.result.high rs (made.ensures.low 2097152 rs sides) (made.ensures.high 2097152 rs sides) c.requires.total c.requires.count).1 in
    omega (arith, k)

pub joined-requires-2-clause-total : goal.joined-requires-2-clause-total
joined-requires-2-clause-total c =
    let p = subpool_before c.args.storage.now c.args.subpool_place in
    let rs = free_areas (state_in_place c.args.storage.now).subpools p in
    let sides = c.free_area_sums.ensures p 0 c.first_free_area_at.ensures in
    let made = c.from_sums-sides in
    let k = (room_for_both 2097152 c.args.before made.result.low made.result.high rs (made.ensures.low 2097152 rs sides) (made.ensures.high 2097152 rs sides) c.requires.total c.requires.count).0 in
    let e = ap (λ (x : Tally). x.total) c.joined.ensures in
    omega (arith, k, e)

pub joined-requires-2-clause-count : goal.joined-requires-2-clause-count
joined-requires-2-clause-count c =
    let p = subpool_before c.args.storage.now c.args.subpool_place in
    let rs = free_areas (state_in_place c.args.storage.now).subpools p in
    let sides = c.free_area_sums.ensures p 0 c.first_free_area_at.ensures in
    let made = c.from_sums-sides in
    let k = (room_for_both 2097152 c.args.before made.result.low made.result.high rs (made.ensures.low 2097152 rs sides) (made.ensures.high 2097152 rs sides) c.requires.total c.requires.count).1 in
    let e = ap (λ (x : Tally). x.count) c.joined.ensures in
    omega (arith, k, e)

pub returns : goal.returns
returns c =
    let p = subpool_before c.args.storage.now c.args.subpool_place in
    let rs = free_areas (state_in_place c.args.storage.now).subpools p in
    let sides = c.free_area_sums.ensures p 0 c.first_free_area_at.ensures in
    let made = c.from_sums-sides in
    c.joined-2.ensures
    ∙ ap (λ (x : Tally). with_tally x made.result.high) c.joined.ensures
    ∙ both_joined 2097152 c.args.before made.result.low made.result.high rs (made.ensures.low 2097152 rs sides) (made.ensures.high 2097152 rs sides) sides.order
