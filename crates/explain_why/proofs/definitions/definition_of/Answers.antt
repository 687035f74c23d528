use Rattle.explain_why.proofs.definitions.definition_of.Goals as goal

pub returns : goal.returns
returns g c = λ settings took.
    let h = c.in_ok-definition.ensures settings took in
    (h.0, h.1, c.with_steps.ensures settings c.args.name.now.bytes h.0 h.2)
