use Rattle.std.proofs.Common.{◌++◌, Some, inr, refl, sym, ◌∙◌}
use Rattle.explain_report.proofs.Following.{answered_end, quiet_end, read_by}
use Rattle.explain_report.proofs.Told.{no_answer, some_answer}
use Rattle.explain_areas.proofs.Stops.{silent_there}
use Rattle.explain_areas.proofs.ends.answered_end.Goals as goal

pub returns-then-lacks-clause-end : goal.returns-then-lacks-clause-end
returns-then-lacks-clause-end c = λ settings answers took has.
    let script = c.args.script.now in
    let ending = c.end-ending.result in
    let e = c.end-ending.ensures.brings settings script answers took in
    let none = no_answer (Some c.args.line) ending.last ending.open_statement (sym c.lacks_answer-lacks.ensures ∙ c.if-lacks.true) in
    let why = c.unanswered.ensures c.args.session.reader.mode c.stand-before.ensures in
    silent_there settings script c.args.line c.args.session.reader.mode c.unanswered.result why
    (inr (has, record { answers = answers; before = c.args.session.reader; read = read_by settings script answers c.args.session took; ended = quiet_end settings script answers ending e none.1 none.2; why = why }))

pub returns-else-lacks-clause-end : goal.returns-else-lacks-clause-end
returns-else-lacks-clause-end c = λ settings answers took has.
    let script = c.args.script.now in
    let ending = c.end-ending.result in
    let e = c.end-ending.ensures.brings settings script answers took in
    let some = some_answer (Some c.args.line) ending.last ending.open_statement (sym c.lacks_answer-lacks.ensures ∙ c.if-lacks.false) refl in
    inr (refl, has, (answers ++ e.more) ++ e.also, e.ended, answered_end settings script answers c.args.session ending took e some)
