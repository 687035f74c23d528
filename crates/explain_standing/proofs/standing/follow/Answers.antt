use Rattle.std.proofs.Common.{[], Ok, Err, arith}
use Rattle.explain_standing.proofs.StandingWhole.{next_followed, nothing_followed, passed_up, script_followed, whole_followed}
use Rattle.explain_standing.proofs.standing.follow.Goals as goal

pub loop-session-init : goal.loop-session-init
loop-session-init g c = (
  omega arith,
  ([], c.new-session.ensures c.args.settings c.in-Ok.ensures, nothing_followed c.args.settings c.new-followed.result c.new-followed.ensures.acts c.new-followed.ensures.readings),
)

pub loop-session-preserved : goal.loop-session-preserved
loop-session-preserved g c =
    let line =
    next_followed c.args.settings c.args.script.now c.loop-session.at c.in_ok-next.field-0 c.in-Some.next c.loop-session.session c.follow_line.new.session c.loop-session.followed
    c.follow_line.new.followed c.in-Some.is c.in_ok-next.ensures.place c.loop-session.invariant.1 c.in_ok-next.ensures.follows in
    (line.0.within, line.1)

pub returns : goal.returns
returns g c =
    let settings = c.args.settings in
    let script = c.args.script.now in
    whole_followed settings script c.follow_end.new.followed
    (script_followed settings script c.rest_from-rest.result.now c.loop-session.at c.in_ok-next.field-0 c.loop-session.session c.follow_line.new.session c.loop-session.followed
    c.follow_line.new.followed c.follow_end.new.followed (Ok tt) c.in_default.not-Some c.rest_from-rest.ensures c.loop-session.invariant.1 c.in_ok-next.ensures.follows c.in_ok-follow_end.ensures)

pub returns-in_err-follow_end : goal.returns-in_err-follow_end
returns-in_err-follow_end g c =
    let settings = c.args.settings in
    let script = c.args.script.now in
    let fault = c.in_err-follow_end.field-0.0 in
    passed_up settings script c.from_residual-in_err-follow_end.result fault c.from_residual-in_err-follow_end.ensures.1
    (script_followed settings script c.rest_from-rest.result.now c.loop-session.at c.in_ok-next.field-0 c.loop-session.session c.follow_line.new.session c.loop-session.followed
    c.follow_line.new.followed c.follow_end.new.followed (Err fault) c.in_default.not-Some c.rest_from-rest.ensures c.loop-session.invariant.1 c.in_ok-next.ensures.follows c.in_err-follow_end.ensures)
