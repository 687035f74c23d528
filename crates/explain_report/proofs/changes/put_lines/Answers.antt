use Rattle.std.proofs.Common.{arith}
use Rattle.explain_report.proofs.Following.{rest_none}
use Rattle.explain_report.proofs.changes.put_lines.Goals as goal

pub loop-at-init : goal.loop-at-init
loop-at-init g c = (omega arith, λ settings seen first h. h)

pub loop-at-preserved : goal.loop-at-preserved
loop-at-preserved g c =
    let next = rw c.in-Ok-Some.field-0-is at c.in-Ok-Some.ensures.next in
    let rows = rw c.in-Ok-Some.field-0-is at c.in-Ok-Some.ensures.rows in
    (next.1, λ settings seen first h. rows settings seen first (c.loop-at.invariant.1 settings seen first h))

pub returns-in-Err : goal.returns-in-Err
returns-in-Err g c = record {
  rows = λ settings seen first h. c.in-Err.ensures.rows settings seen first (c.loop-at.invariant.1 settings seen first h);
  rest = tt;
}

pub returns-in-Ok-None : goal.returns-in-Ok-None
returns-in-Ok-None g c =
    let next = rw c.in-Ok-None.field-0-is at c.in-Ok-None.ensures.next in
    let rows = rw c.in-Ok-None.field-0-is at c.in-Ok-None.ensures.rows in
    record {
      rows = λ settings seen first h. rows settings seen first (c.loop-at.invariant.1 settings seen first h);
      rest = (c.loop-at.invariant.0, next);
    }

pub returns : goal.returns
returns g c = record {
  rows = c.loop-at.invariant.1;
  rest = (c.loop-at.invariant.0, rest_none c.args.script.now c.loop-at.at c.loop-at-test.false);
}
