use Rattle.std.proofs.Common.{[], Some, inl, inr, subst}
use Rattle.explain_report.specs.Said.{said_by}
use Rattle.text_output.proofs.Known.{appends_nothing}
use Rattle.bench_core.specs.Stands.{bench_of, settings_in}
use Rattle.explain_report.specs.Reports.{WritesReport}
use Rattle.explain_report.proofs.Following.{led_state}
use Rattle.explain_report.proofs.Told.{reported, stopped}
use Rattle.explain_report.proofs.runs.report_at.Goals as goal

pub returns-then-line-eq0 : goal.returns-then-line-eq0
returns-then-line-eq0 g c = λ settings new. (inl c.if-line-eq0.true, appends_nothing (g.W.Write.contents c.args.out.now))

pub returns-in-Ok-LastFeed : goal.returns-in-Ok-LastFeed
returns-in-Ok-LastFeed g c = λ settings new.
    let stays = (rw c.in-Ok-LastFeed.field-0-is at c.in-Ok-LastFeed.ensures.reaches) settings ([], record { took = c.new-session.ensures settings new; said = c.new-last.ensures }) in
    c.report_rest.ensures settings stays.reaches stays.open_since

pub returns-in-Ok-Statement : goal.returns-in-Ok-Statement
returns-in-Ok-Statement g c = λ settings new.
    let s = c.take_to.new.session in
    let first = g.W.Write.contents c.args.out.now in
    let now = g.W.Write.contents c.write_report-outcome.new.out in
    let r = c.write_report-outcome.result in
    let said = said_by c.take_to.new.last in
    let e = (rw c.in-Ok-Statement.field-0-is at c.in-Ok-Statement.ensures.reaches) settings ([], record { took = c.new-session.ensures settings new; said = c.new-last.ensures }) in
    let wrote = subst (λ b. WritesReport (settings_in b) c.args.form (bench_of b).present.storage said first now r) c.bench.ensures c.write_report-outcome.ensures in
    reported settings c.args.script.now c.args.form (Some c.args.line) e.0 (bench_of s.bench).present.storage said first now r (inr (_, e.2))
    (led_state settings e.0 (bench_of s.bench) e.1.took.led) e.1.said (subst (λ k. WritesReport k c.args.form (bench_of s.bench).present.storage said first now r) e.1.took.under wrote)

pub returns-in-Err : goal.returns-in-Err
returns-in-Err g c = λ settings new.
    stopped settings c.args.script.now c.args.form c.args.line c.take_to.new.session c.take_to.new.last (g.W.Write.contents c.args.out.now) c.in-Err.fault
    (c.in-Err.ensures.reaches settings ([], record { took = c.new-session.ensures settings new; said = c.new-last.ensures }))
