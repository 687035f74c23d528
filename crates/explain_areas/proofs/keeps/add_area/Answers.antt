use Rattle.std.proofs.Common.{◌-◌, ap, ◌∙◌, arith}
use Rattle.explain_areas.specs.Keeps.{held, with_doublewords}
use Rattle.explain_areas.proofs.Keeping.{next_part}
use Rattle.explain_areas.proofs.keeps.add_area.Goals as goal

pub loop-at-preserved : goal.loop-at-preserved
loop-at-preserved c =
    let a = c.args.area.now in
    let at = c.loop-at.at in
    let next = c.min-next.result in
    record {
      from = omega arith;
      within = omega arith;
      pages = λ others before.
          c.in_ok-add_bytes.ensures (with_doublewords a.line a.start (at - a.start) others) (c.loop-at.invariant.pages others before)
          ∙ ap held (next_part a.line a.start at next others c.loop-at.invariant.from (omega arith) (omega arith));
    }
