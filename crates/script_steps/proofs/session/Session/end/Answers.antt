use Rattle.script_steps.proofs.session.Session.end.Goals as goal

pub returns-clause-brings : goal.returns-clause-brings
returns-clause-brings c = λ settings given answers h. (c.end_into.ensures.asks settings given answers h).brings
