use Rattle.std.proofs.Common.{true, false, ap, arith}
use Rattle.storage_core.specs.Walks.{subpools_left, subpool_before}
use Rattle.storage_changes.specs.MapTotals.{sum_of, subpool_pages, subpool_free}
use Rattle.storage_core.specs.Meaning.{state_in_place}
use Rattle.storage_map.proofs.Remaining.{shorter}
use Rattle.storage_map.proofs.Walked.{next_before}
use Rattle.storage_map.proofs.sums.sums.Goals as goal

pub loop-behind-init : goal.loop-behind-init
loop-behind-init c =
    let m = (state_in_place c.args.storage.now).subpools in
    record {
      place = c.first_subpool_place-place.ensures.place c.args.storage.now;
      low = (let k = ap (sum_of (subpool_pages m true)) (c.first_subpool_place-place.ensures.all c.args.storage.now) in omega (arith, k));
      high = (let k = ap (sum_of (subpool_pages m false)) (c.first_subpool_place-place.ensures.all c.args.storage.now) in omega (arith, k));
      free = (let k = ap (sum_of (subpool_free m)) (c.first_subpool_place-place.ensures.all c.args.storage.now) in omega (arith, k));
    }

pub free_of-free-requires-clause-few : goal.free_of-free-requires-clause-few
free_of-free-requires-clause-few c =
    let m = (state_in_place c.args.storage.now).subpools in
    let step = ap (sum_of (subpool_free m)) (next_before c.args.storage.now c.loop-behind.place c.in-Some.behind _ c.in-Some.ensures.next c.in-Some.ensures.before) in
    omega (arith, step, c.loop-behind.invariant.free, c.requires.free)

pub overflow_add-pages : goal.overflow_add-pages
overflow_add-pages c =
    let m = (state_in_place c.args.storage.now).subpools in
    let step = ap (sum_of (subpool_pages m true)) (next_before c.args.storage.now c.loop-behind.place c.in-Some.behind _ c.in-Some.ensures.next c.in-Some.ensures.before) in
    omega (arith, step, c.loop-behind.invariant.low, c.requires.low, c.pages_of-own.ensures.low)

pub overflow_add-pages-in-Some : goal.overflow_add-pages-in-Some
overflow_add-pages-in-Some c =
    let m = (state_in_place c.args.storage.now).subpools in
    let step = ap (sum_of (subpool_pages m false)) (next_before c.args.storage.now c.loop-behind.place c.in-Some.behind _ c.in-Some.ensures.next c.in-Some.ensures.before) in
    omega (arith, step, c.loop-behind.invariant.high, c.requires.high, c.pages_of-own.ensures.high)

pub overflow_add-free : goal.overflow_add-free
overflow_add-free c =
    let m = (state_in_place c.args.storage.now).subpools in
    let step = ap (sum_of (subpool_free m)) (next_before c.args.storage.now c.loop-behind.place c.in-Some.behind _ c.in-Some.ensures.next c.in-Some.ensures.before) in
    omega (arith, step, c.loop-behind.invariant.free, c.requires.free, c.free_of-free.ensures)

pub loop-behind-smaller : goal.loop-behind-smaller
loop-behind-smaller c =
    let s = c.args.storage.now in
    shorter (subpools_left s c.loop-behind.place) (subpools_left s c.in-Some.behind) (subpool_before s c.in-Some.behind) (next_before c.args.storage.now c.loop-behind.place c.in-Some.behind _ c.in-Some.ensures.next c.in-Some.ensures.before)

pub loop-behind-preserved : goal.loop-behind-preserved
loop-behind-preserved c =
    let m = (state_in_place c.args.storage.now).subpools in
    let low = ap (sum_of (subpool_pages m true)) (next_before c.args.storage.now c.loop-behind.place c.in-Some.behind _ c.in-Some.ensures.next c.in-Some.ensures.before) in
    let high = ap (sum_of (subpool_pages m false)) (next_before c.args.storage.now c.loop-behind.place c.in-Some.behind _ c.in-Some.ensures.next c.in-Some.ensures.before) in
    let free = ap (sum_of (subpool_free m)) (next_before c.args.storage.now c.loop-behind.place c.in-Some.behind _ c.in-Some.ensures.next c.in-Some.ensures.before) in
    record {
      place = c.in-Some.ensures.place;
      low = omega (arith, low, c.loop-behind.invariant.low, c.pages_of-own.ensures.low);
      high = omega (arith, high, c.loop-behind.invariant.high, c.pages_of-own.ensures.high);
      free = omega (arith, free, c.loop-behind.invariant.free, c.free_of-free.ensures);
    }

pub returns-clause-low : goal.returns-clause-low
returns-clause-low c =
    let m = (state_in_place c.args.storage.now).subpools in
    let none = ap (sum_of (subpool_pages m true)) c.in_default.ensures.none in
    omega (arith, none, c.loop-behind.invariant.low)

pub returns-clause-high : goal.returns-clause-high
returns-clause-high c =
    let m = (state_in_place c.args.storage.now).subpools in
    let none = ap (sum_of (subpool_pages m false)) c.in_default.ensures.none in
    omega (arith, none, c.loop-behind.invariant.high)

pub returns-clause-free : goal.returns-clause-free
returns-clause-free c =
    let m = (state_in_place c.args.storage.now).subpools in
    let none = ap (sum_of (subpool_free m)) c.in_default.ensures.none in
    omega (arith, none, c.loop-behind.invariant.free)
