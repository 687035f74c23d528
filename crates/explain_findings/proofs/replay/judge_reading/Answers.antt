use Rattle.std.proofs.lemmas.Result.{on_ok_weaker}
use Rattle.explain_findings.proofs.ReadInOrder.{reads}
use Rattle.explain_findings.proofs.replay.judge_reading.Goals as goal

pub returns : goal.returns
returns c =
    on_ok_weaker c.note.result
    (reads c.args.reading.now c.args.replay.now c.reading_finding-finding.new.known c.note.new.table c.reading_finding-finding.result c.reading_finding-finding.ensures.endings c.reading_finding-finding.ensures.stored
    c.reading_finding-finding.ensures.found)
    c.note.ensures
