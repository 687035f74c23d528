use Rattle.std.proofs.Common.{arith, refl, ◌++◌}
use Rattle.explain_report.proofs.Following.{rest_none}
use Rattle.explain_report.proofs.Lines.{next_open}
use Rattle.explain_report.proofs.runs.take_all.Goals as goal

pub loop-at-init : goal.loop-at-init
loop-at-init g c = record { within = omega arith; begins = refl; reaches = λ settings h. h }

pub loop-at-preserved : goal.loop-at-preserved
loop-at-preserved g c =
    let place = rw c.in-Ok-Some.field-0-is at c.in-Ok-Some.ensures.place in
    let reaches = rw c.in-Ok-Some.field-0-is at c.in-Ok-Some.ensures.reaches in
    record {
      within = place.1.within;
      begins = next_open c.args.script.now c.loop-at.at c.in-Ok-Some.step.next place.1;
      reaches = λ settings h.
          let r = c.loop-at.invariant.reaches settings h in
          let e = reaches settings r.0 r.1 in
          (r.0 ++ e.0, e.2);
    }

pub returns-in-Err : goal.returns-in-Err
returns-in-Err g c = record {
  reaches = λ settings h. let r = c.loop-at.invariant.reaches settings h in c.in-Err.ensures.reaches settings r.0 r.1;
  rest = tt;
}

pub returns-in-Ok-None : goal.returns-in-Ok-None
returns-in-Ok-None g c =
    let place = rw c.in-Ok-None.field-0-is at c.in-Ok-None.ensures.place in
    let reaches = rw c.in-Ok-None.field-0-is at c.in-Ok-None.ensures.reaches in
    record {
      reaches = λ settings h. let r = c.loop-at.invariant.reaches settings h in (r.0, reaches settings r.0 r.1);
      rest = (c.loop-at.invariant.within, place, c.loop-at.invariant.begins);
    }

pub returns : goal.returns
returns g c = record {
  reaches = c.loop-at.invariant.reaches;
  rest = (c.loop-at.invariant.within, rest_none c.args.script.now c.loop-at.at c.loop-at-test.false, c.loop-at.invariant.begins);
}
