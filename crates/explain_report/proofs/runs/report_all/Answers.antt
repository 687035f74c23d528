use Rattle.std.proofs.Common.{[]}
use Rattle.text_output.proofs.Known.{appends_nothing}
use Rattle.explain_report.proofs.runs.report_all.Goals as goal

pub returns-in-Ok : goal.returns-in-Ok
returns-in-Ok g c = λ settings new.
    c.report_rest.ensures settings (c.in-Ok.ensures.reaches settings ([], record { took = c.new-session.ensures settings new; said = c.new-last.ensures })) tt

pub returns-in-Err : goal.returns-in-Err
returns-in-Err g c = λ settings new.
    (c.in-Err.ensures.reaches settings ([], record { took = c.new-session.ensures settings new; said = c.new-last.ensures }), appends_nothing (g.W.Write.contents c.args.out.now))
