use Rattle.explain_standing.specs.Carried.{line_act}
use Rattle.explain_findings.specs.declared.judging.Known.{Known}
use Rattle.explain_findings.proofs.Carried.{knows_more}
use Rattle.explain_findings.proofs.replay.carry_out.Goals as goal

pub returns : goal.returns
returns c = λ settings older knows served.
    let known = c.args.known.now in
    let did = c.in_ok-reply.ensures settings older knows.carried in
    let knew : Known = record { endings = c.give.new.endings; stored = c.note_stored.new.stored; guess = known.guess } in (
      knows_more settings older (line_act c.args.entry.now) c.args.carried.now c.carry_out.new.self known c.args.can_end c.args.stores c.in_ok-reply.reply
          knows served did.0 did.1 knew c.end.new.self _ c.storage.ensures.state c.in_ok-note_stored.ensures c.end.ensures.ended c.end.ensures.words c.in_ok-give.ensures,
      did.1,
    )
