use Rattle.std.proofs.Common.{◌++◌, ap, sym, ◌∙◌, subst}
use Rattle.bench_core.specs.Stands.{bench_of}
use Rattle.explain_report.specs.Reports.{WritesReport}
use Rattle.explain_report.specs.Said.{said_by, said_with}
use Rattle.explain_report.proofs.Following.{answered_end, said_more, led_state, quiet_end, read_by}
use Rattle.explain_report.proofs.Told.{ended_reported, no_answer, reported, silent_end, some_answer}
use Rattle.explain_report.proofs.runs.report_end.Goals as goal

pub returns : goal.returns
returns g c = λ settings script h has.
    let ending = c.end-ending.result in
    let first = g.W.Write.contents c.args.out.now in
    let now = g.W.Write.contents c.write_report-outcome.new.out in
    let shown = ending.shown.items in
    let e = c.end-ending.ensures.brings settings script h.0 h.1.took in
    let all = (h.0 ++ e.more) ++ e.also in
    let one = c.note.ensures ∙ ap (said_with ending.last shown) h.1.said ∙ said_more settings h.0 e.more ending.last shown e.last e.shows in
    let two = c.note-2.ensures ∙ ap (said_with ending.open_statement shown) one
    ∙ said_more settings (h.0 ++ e.more) e.also ending.open_statement shown e.unended e.shows_on in
    let under = c.end-ending.ensures.settings ∙ h.1.took.under in
    reported settings script c.args.form c.args.line all (bench_of ending.bench).present.storage (said_by c.note-2.new.self) first now c.write_report-outcome.result
    (ended_reported settings script c.args.line all e.ended has
    (λ some. answered_end settings script h.0 c.args.session ending h.1.took e (some_answer c.args.line ending.last ending.open_statement (sym c.lacks_answer.ensures ∙ c.if-lacks_answer.false) some)))
    (led_state settings all (bench_of ending.bench) e.led_on) two
    (subst (λ k. WritesReport k c.args.form (bench_of ending.bench).present.storage (said_by c.note-2.new.self) first now c.write_report-outcome.result) under c.write_report-outcome.ensures)

pub returns-then-lacks_answer : goal.returns-then-lacks_answer
returns-then-lacks_answer g c = λ settings script h has.
    let ending = c.end-ending.result in
    let e = c.end-ending.ensures.brings settings script h.0 h.1.took in
    let none = no_answer c.args.line ending.last ending.open_statement (sym c.lacks_answer.ensures ∙ c.if-lacks_answer.true) in
    silent_end settings script c.args.form c.args.line (g.W.Write.contents c.args.out.now) c.unanswered.result none.0 has (record {
      answers = h.0;
      before = c.args.session.reader;
      read = read_by settings script h.0 c.args.session h.1.took;
      ended = quiet_end settings script h.0 ending e none.1 none.2;
      why = c.unanswered.ensures c.args.session.reader.mode c.stand-before.ensures;
    })
