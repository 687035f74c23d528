use Rattle.std.proofs.Common.{◌+◌, ◌/◌, ◌∙◌, sym, arith}
use Rattle.explain_areas.proofs.Bounds.{ends_within, same_to}
use Rattle.explain_areas.proofs.walks.add_extent.Goals as goal

pub add_taken-requires : goal.add_taken-requires
add_taken-requires c =
    let (next, free) = c.in-Some.ensures.next c.args.subpool c.loop-area.at c.loop-area.invariant.place in
    next.from

pub loop-area-smaller : goal.loop-area-smaller
loop-area-smaller c =
    let (next, free) = c.in-Some.ensures.next c.args.subpool c.loop-area.at c.loop-area.invariant.place in
    omega (arith, next.from, next.some, c.in-Some.ensures.before)

pub loop-area-preserved : goal.loop-area-preserved
loop-area-preserved c =
    let l = c.loop-area in
    let p = c.args.subpool in
    let area = c.in-Some.area in
    let (next, free) = c.in-Some.ensures.next p l.at l.invariant.place in
    record {
      from = omega (arith, l.invariant.from, next.from);
      within = ends_within c.args.storage.now p l.at area (c.args.extent.start + c.args.extent.len) next c.in-Some.ensures.before c.requires.past;
      place = free;
      areas = λ f others lines before.
          c.in_ok-add_taken.ensures f others
          (λ d from to.
          lines.taken d (c.requires.pages (d / 512) (omega (arith, l.invariant.from, from)) (omega (arith, to, c.in-Some.ensures.before))) (next.before d from to))
          (l.invariant.areas f others lines before)
          ∙ sym (same_to p f others area.start (area.start + area.len) (omega (arith, next.some)) (λ d from to. lines.free d (next.within d from to)));
    }

pub returns-clause-place : goal.returns-clause-place
returns-clause-place c =
    let (free, none) = c.in_default.ensures.none c.args.subpool c.loop-area.at c.loop-area.invariant.place c.loop-area.invariant.within in
    free

pub returns-clause-areas : goal.returns-clause-areas
returns-clause-areas c = λ f others lines before.
    let l = c.loop-area in
    let (free, none) = c.in_default.ensures.none c.args.subpool l.at l.invariant.place l.invariant.within in
    c.in_ok-add_taken-2.ensures f others
    (λ d from to. lines.taken d (c.requires.pages (d / 512) (omega (arith, l.invariant.from, from)) (omega (arith, to))) (none d from to))
    (l.invariant.areas f others lines before)
