use Rattle.std.proofs.Common.{Some, take, sym, subst}
use Rattle.script_steps.specs.Script.{NoFeed}
use Rattle.script_steps.specs.Taken.{Took}
use Rattle.explain_report.proofs.Following.{script_past, whole_script}
use Rattle.explain_report.proofs.Reached.{has_line, lacks_line}
use Rattle.explain_areas.proofs.ends.end_after.Goals as goal

pub take_bytes-requires : goal.take_bytes-requires
take_bytes-requires c = record { plain = subst NoFeed (sym c.rest_from-rest.ensures) c.requires.1 }

pub returns-in-Err-clause-end : goal.returns-in-Err-clause-end
returns-in-Err-clause-end c = λ settings answers took stays.
    let script = c.args.script.now in
    (answers, script_past settings script c.args.at _ answers c.rest_from-rest.ensures (c.in-Err.ensures settings (take c.args.at script) answers took))

pub returns-then-line-lines-clause-end : goal.returns-then-line-lines-clause-end
returns-then-line-lines-clause-end c = λ settings answers took stays.
    let script = c.args.script.now in
    let taken = c.in-Ok.ensures settings (take c.args.at script) answers took in
    let whole = subst (λ x. Took settings x answers c.take_bytes.new.self) (whole_script script c.args.at _ c.rest_from-rest.ensures) taken in
    lacks_line settings script c.args.at answers c.take_bytes.new.self (Some c.args.line) _ _ whole c.requires c.rest_from-rest.ensures c.lines_with-lines.ensures c.if-line-lines.true

pub returns-else-line-lines-clause-end : goal.returns-else-line-lines-clause-end
returns-else-line-lines-clause-end c = λ settings answers took stays.
    let script = c.args.script.now in
    let taken = c.in-Ok.ensures settings (take c.args.at script) answers took in
    let whole = subst (λ x. Took settings x answers c.take_bytes.new.self) (whole_script script c.args.at _ c.rest_from-rest.ensures) taken in
    c.answered_end.ensures.end settings answers whole
    (has_line settings script c.args.at answers c.take_bytes.new.self (Some c.args.line) _ _ c.args.session took stays whole c.requires c.rest_from-rest.ensures c.lines_with-lines.ensures c.if-line-lines.false)
