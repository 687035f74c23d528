use Rattle.explain_findings.proofs.AllFound.{everything_found}
use Rattle.explain_findings.proofs.Rising.{readings_rise}
use Rattle.explain_findings.proofs.replay.find_in.Goals as goal

pub returns : goal.returns
returns c = λ settings script new followed.
    everything_found settings script c.args.followed.now c.start-replay.result c.judge_all.new.replay c.in_ok-left.left c.standing-entries.result.now c.as_slice-readings.result.now
    (c.start-replay.ensures.carried settings new) followed c.standing-entries.ensures c.as_slice-readings.ensures.value c.start-replay.ensures.nothing c.in_ok-judge_all.ensures c.in_ok-left.ensures

pub judge_all-requires : goal.judge_all-requires
judge_all-requires c = readings_rise c.requires.0 c.requires.1 c.args.followed.now c.requires.2 c.standing-entries.result.now c.as_slice-readings.result.now c.standing-entries.ensures c.as_slice-readings.ensures.value
