use Rattle.std.proofs.Common.{arith}
use Rattle.explain_list.proofs.Rests.{rest_none}
use Rattle.explain_list.proofs.listing.list_lines.Goals as goal

pub loop-at-init : goal.loop-at-init
loop-at-init g c = (omega arith, λ settings first h. h)

pub loop-at-preserved : goal.loop-at-preserved
loop-at-preserved g c =
    let next = rw c.in-Ok-Some.field-0-is at c.in-Ok-Some.ensures.next in
    let lists = rw c.in-Ok-Some.field-0-is at c.in-Ok-Some.ensures.lists in
    (next.1, λ settings first h. lists settings first (c.loop-at.invariant.1 settings first h))

pub returns-in-Err : goal.returns-in-Err
returns-in-Err g c = record {
  lists = λ settings first h. c.in-Err.ensures.lists settings first (c.loop-at.invariant.1 settings first h);
  rest = tt;
}

pub returns-in-Ok-None : goal.returns-in-Ok-None
returns-in-Ok-None g c =
    let next = rw c.in-Ok-None.field-0-is at c.in-Ok-None.ensures.next in
    let lists = rw c.in-Ok-None.field-0-is at c.in-Ok-None.ensures.lists in
    record {
      lists = λ settings first h. lists settings first (c.loop-at.invariant.1 settings first h);
      rest = (c.loop-at.invariant.0, next);
    }

pub returns : goal.returns
returns g c = record {
  lists = c.loop-at.invariant.1;
  rest = (c.loop-at.invariant.0, rest_none c.args.script.now c.loop-at.at c.loop-at-test.false);
}
