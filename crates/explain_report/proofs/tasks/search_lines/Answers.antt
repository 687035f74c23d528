use Rattle.std.proofs.Common.{arith, ◌++◌, ap, ◌∙◌}
use Rattle.bench_core.specs.Stands.{bench_of}
use Rattle.vsm_model.specs.State.{is_task}
use Rattle.explain_report.proofs.Following.{rest_none}
use Rattle.explain_report.proofs.Existing.{exists_then, made_there, never_more}
use Rattle.explain_report.proofs.tasks.search_lines.Goals as goal

pub loop-at-init : goal.loop-at-init
loop-at-init g c = record { within = omega arith; lacks = λ settings h. h }

pub loop-at-preserved : goal.loop-at-preserved
loop-at-preserved g c =
    let place = rw c.in-Ok-Some.field-0-is at c.in-Ok-Some.ensures.place in
    let brings = rw c.in-Ok-Some.field-0-is at c.in-Ok-Some.ensures.brings in
    let task = c.args.task in
    record {
      within = place.1.within;
      lacks = λ settings h.
          let before = c.loop-at.invariant.lacks settings h in
          let e = brings settings before.0 before.1 in
          let there = c.has_task.ensures ∙ ap (λ b. is_task (bench_of b).present.storage task) c.bench.ensures in
          (before.0 ++ e.0, e.2, never_more settings task before.0 e.0 _ e.1 before.2 (exists_then settings task (before.0 ++ e.0) _ _ e.2.led there ∙ c.if-has_task.false));
    }

pub returns-then-has_task : goal.returns-then-has_task
returns-then-has_task g c =
    let brings = rw c.in-Ok-Some.field-0-is at c.in-Ok-Some.ensures.brings in
    let task = c.args.task in
    record {
      found = λ settings h.
          let before = c.loop-at.invariant.lacks settings h in
          let e = brings settings before.0 before.1 in
          let there = c.has_task.ensures ∙ ap (λ b. is_task (bench_of b).present.storage task) c.bench.ensures in
          made_there settings task c.args.script.now c.in-Ok-Some.step.next (before.0 ++ e.0) _ e.2 (exists_then settings task (before.0 ++ e.0) _ _ e.2.led there ∙ c.if-has_task.true);
      rest = tt;
    }

pub returns-in-Err : goal.returns-in-Err
returns-in-Err g c = record {
  found = λ settings h. let before = c.loop-at.invariant.lacks settings h in (before.0, c.in-Err.ensures.takes settings before.0 before.1, before.2);
  rest = tt;
}

pub returns-in-Ok-None : goal.returns-in-Ok-None
returns-in-Ok-None g c =
    let place = rw c.in-Ok-None.field-0-is at c.in-Ok-None.ensures.place in
    let takes = rw c.in-Ok-None.field-0-is at c.in-Ok-None.ensures.takes in
    record {
      found = λ settings h. let before = c.loop-at.invariant.lacks settings h in (before.0, takes settings before.0 before.1, before.2);
      rest = (c.loop-at.invariant.within, place);
    }

pub returns : goal.returns
returns g c = record {
  found = c.loop-at.invariant.lacks;
  rest = (c.loop-at.invariant.within, rest_none c.args.script.now c.loop-at.at c.loop-at-test.false);
}
