use Rattle.script_steps.proofs.session.Session.end_line.Goals as goal

pub returns : goal.returns
returns c = λ settings given answers h.
    let e = c.end_line_into.ensures settings given answers h in
    (e.0, e.1, e.2, e.3, e.4)
