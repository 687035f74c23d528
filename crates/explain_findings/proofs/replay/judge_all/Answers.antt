use Rattle.std.proofs.Common.{arith, length}
use Rattle.explain_findings.proofs.ReadInOrder.{all_replayed, goes_on, on_ok_both}
use Rattle.explain_findings.proofs.Rising.{its_turn}
use Rattle.explain_findings.proofs.replay.judge_all.Goals as goal

pub loop-reading-preserved : goal.loop-reading-preserved
loop-reading-preserved c = (
  (its_turn c.args.readings.now c.loop-reading.reading-index c.reading-item.result c.loop-reading.done (length c.args.entries.now) c.loop-reading-test.true c.reading-item.is c.loop-reading.invariant.1).1,
  (its_turn c.args.readings.now c.loop-reading.reading-index c.reading-item.result c.loop-reading.done (length c.args.entries.now) c.loop-reading-test.true c.reading-item.is c.loop-reading.invariant.1).2,
  λ settings.
      goes_on settings c.args.entries.now c.args.readings.now c.loop-reading.reading-index c.reading-item.result c.loop-reading.done c.args.replay.now c.loop-reading.replay c.judge_to.new.replay c.judge_reading.new.replay
      c.loop-reading-test.true c.reading-item.is (c.loop-reading.invariant.2 settings) c.in_ok-judge_to.ensures.goes_to c.in_ok-judge_to.ensures.readings c.in_ok-judge_reading.ensures,
)

pub returns : goal.returns
returns c =
    on_ok_both c.judge_to-2.result
    (all_replayed c.args.entries.now c.args.readings.now c.loop-reading.reading-index c.loop-reading.done c.args.replay.now c.loop-reading.replay c.judge_to-2.new.replay (omega arith) c.loop-reading.invariant.2)
    c.judge_to-2.ensures.goes_to c.judge_to-2.ensures.readings

pub judge_to-requires : goal.judge_to-requires
judge_to-requires c =
    let turn = its_turn c.args.readings.now c.loop-reading.reading-index c.reading-item.result c.loop-reading.done (length c.args.entries.now) c.loop-reading-test.true c.reading-item.is c.loop-reading.invariant.1 in
    record { ordered = turn.0; within = turn.1 }
