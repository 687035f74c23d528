use Rattle.explain_why.proofs.lines.new_session.Goals as goal

pub returns-in-Ok-clause-took : goal.returns-in-Ok-clause-took
returns-in-Ok-clause-took c = c.new-in-Ok.ensures c.args.settings c.in-Ok.ensures
