use Rattle.std.proofs.Common.{take, subst, sym, arith}
use Rattle.script_steps.specs.Script.{NoFeed}
use Rattle.script_steps.specs.Taken.{Took}
use Rattle.text_output.proofs.Known.{appends_nothing}
use Rattle.explain_report.proofs.Following.{whole_script, script_past}
use Rattle.explain_report.proofs.Reached.{lacks_line, has_line}
use Rattle.explain_report.proofs.runs.report_rest.Goals as goal

pub take_bytes-requires : goal.take_bytes-requires
take_bytes-requires g c = record { plain = subst NoFeed (sym c.rest_from-rest.ensures) c.requires.1 }

pub returns-in-Err : goal.returns-in-Err
returns-in-Err g c = λ settings h stays.
    let script = c.args.script.now in
    let past = c.in-Err.ensures settings (take c.args.at script) h.0 h.1.took in
    ((h.0, script_past settings script c.args.at _ h.0 c.rest_from-rest.ensures past), appends_nothing (g.W.Write.contents c.args.out.now))

pub returns-then-unwrap_or-lines : goal.returns-then-unwrap_or-lines
returns-then-unwrap_or-lines g c = λ settings h stays.
    let script = c.args.script.now in
    let taken = c.in-Ok.ensures settings (take c.args.at script) h.0 h.1.took in
    let took = subst (λ x. Took settings x h.0 c.take_bytes.new.self) (whole_script script c.args.at _ c.rest_from-rest.ensures) taken in
    (lacks_line settings script c.args.at h.0 c.take_bytes.new.self c.args.line _ _ took c.requires c.rest_from-rest.ensures c.lines_with-lines.ensures (omega (arith, c.if-unwrap_or-lines.true, c.unwrap_or.ensures)), appends_nothing (g.W.Write.contents c.args.out.now))

pub returns-else-unwrap_or-lines : goal.returns-else-unwrap_or-lines
returns-else-unwrap_or-lines g c = λ settings h stays.
    let script = c.args.script.now in
    let taken = c.in-Ok.ensures settings (take c.args.at script) h.0 h.1.took in
    let took = subst (λ x. Took settings x h.0 c.take_bytes.new.self) (whole_script script c.args.at _ c.rest_from-rest.ensures) taken in
    c.report_end.ensures settings script (h.0, record { took = took; said = h.1.said })
    (has_line settings script c.args.at h.0 c.take_bytes.new.self c.args.line _ _ c.args.session h.1.took stays took c.requires c.rest_from-rest.ensures c.lines_with-lines.ensures (omega (arith, c.if-unwrap_or-lines.false, c.unwrap_or.ensures)))
