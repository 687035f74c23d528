use Rattle.std.proofs.Common.{◌+◌, ◌*◌, ◌/◌, ◌^◌, ◌∙◌, [], reverse, sym, ap, arith}
use Rattle.std.proofs.lemmas.List.{reverse-reverse}
use Rattle.subpool_storage.specs.Extents.{extents, free_areas}
use Rattle.storage_core.specs.Meaning.{state_in_place}
use Rattle.explain_areas.specs.Areas.{areas_of}
use Rattle.explain_areas.proofs.Bounds.{not_free, pages_are_runs, free_are_runs, same_to}
use Rattle.explain_areas.proofs.Walking.{all_ahead, next_of, others_of, none_of, on_to, in_list}
use Rattle.explain_areas.proofs.walks.areas_in.Goals as goal

pub loop-extent-init : goal.loop-extent-init
loop-extent-init c =
    let s = c.args.storage.now in
    let p = c.args.subpool in
    let m = (state_in_place s).subpools in (
      0,
      omega arith,
      (0, c.first_extent-place.ensures, all_ahead (m.pages p) (extents m p) (pages_are_runs s p)),
      (0, c.first_free_area-free.ensures, all_ahead (m.free p) (free_areas m p) (free_are_runs s p)),
      λ f lines. ap reverse c.new-areas.ensures.items,
    )

pub add_extent-requires-clause-pages : goal.add_extent-requires-clause-pages
add_extent-requires-clause-pages c =
    let (k, small, (i, at, ahead), free, done) = c.loop-extent.invariant in
    let m = (state_in_place c.args.storage.now).subpools in
    let p = c.args.subpool in
    (next_of (m.pages p) (extents m p) i k ahead c.in-Some.extent (sym (c.in-Some.ensures.is p i at))).within

pub add_extent-requires-clause-past : goal.add_extent-requires-clause-past
add_extent-requires-clause-past c =
    let (k, small, (i, at, ahead), free, done) = c.loop-extent.invariant in
    let m = (state_in_place c.args.storage.now).subpools in
    let p = c.args.subpool in
    (next_of (m.pages p) (extents m p) i k ahead c.in-Some.extent (sym (c.in-Some.ensures.is p i at))).past

pub add_extent-requires-clause-place : goal.add_extent-requires-clause-place
add_extent-requires-clause-place c =
    let (k, small, (i, at, ahead), (j, there, free), done) = c.loop-extent.invariant in
    let s = c.args.storage.now in
    let m = (state_in_place s).subpools in
    let p = c.args.subpool in
    let next = next_of (m.pages p) (extents m p) i k ahead c.in-Some.extent (sym (c.in-Some.ensures.is p i at)) in (
      j,
      there,
      on_to (m.free p) (free_areas m p) j (512 * k) free (512 * c.in-Some.extent.start) (let from = next.from in omega (arith, from))
          (λ n from to. not_free s p n (next.before (n / 512) (omega (arith, from)) (omega (arith, to)))),
    )

pub loop-extent-smaller : goal.loop-extent-smaller
loop-extent-smaller c =
    let (k, small, (i, at, ahead), free, done) = c.loop-extent.invariant in
    let m = (state_in_place c.args.storage.now).subpools in
    let p = c.args.subpool in
    let in_it = in_list (extents m p) i c.in-Some.extent (sym (c.in-Some.ensures.is p i at)) in
    let next = (c.in-Some.ensures.next p i at).index in
    omega (arith, in_it, next, at.index)

pub loop-extent-preserved : goal.loop-extent-preserved
loop-extent-preserved c =
    let (k, small, (i, at, ahead), free, done) = c.loop-extent.invariant in
    let m = (state_in_place c.args.storage.now).subpools in
    let p = c.args.subpool in
    let extent = c.in-Some.extent in
    let got = sym (c.in-Some.ensures.is p i at) in
    let next = next_of (m.pages p) (extents m p) i k ahead extent got in (
      extent.start + extent.len,
      omega (arith, c.in-Some.ensures.end),
      (i + 1, c.in-Some.ensures.next p i at, others_of (m.pages p) (extents m p) i k ahead extent got),
      c.in_ok-free.ensures.place,
      λ f lines.
          c.in_ok-free.ensures.areas f [] lines
          (done f lines
          ∙ sym (same_to p f [] (512 * k) (512 * extent.start) (let from = next.from in omega (arith, from))
          (λ d from to. lines.elsewhere d (next.before (d / 512) (omega (arith, from)) (omega (arith, to)))))),
    )

pub returns : goal.returns
unfolding areas_of
returns c = λ f lines.
    let (k, small, (i, at, ahead), free, done) = c.loop-extent.invariant in
    let m = (state_in_place c.args.storage.now).subpools in
    let p = c.args.subpool in
    let none = none_of (m.pages p) (extents m p) i k ahead (sym (c.in_default.ensures.is p i at)) in
    sym (reverse-reverse c.loop-extent.areas.items) ∙ ap reverse
    (done f lines
    ∙ sym (same_to p f [] (512 * k) (2 ^ 29) (omega (arith, small)) (λ d from to. lines.elsewhere d (none (d / 512) (omega (arith, from))))))
