use Rattle.std.proofs.Common.{Some, None, sym, ◌∙◌}
use Rattle.explain_why.proofs.Bringers.{brought_in}
use Rattle.explain_why.proofs.earlier.bringer_in.Goals as goal

pub returns-in-Ok-Some-clause-its : goal.returns-in-Ok-Some-clause-its
returns-in-Ok-Some-clause-its g c =
    brought_in c.args.settings c.args.obstacle c.args.script.now c.in-Ok.followed c.standing.result.now (Some c.in-Ok-Some.line) c.in-Ok.ensures c.standing.ensures
    (sym c.in-Ok-Some.field-0-is ∙ c.in-Ok-Some.ensures c.args.settings c.in-Ok-new.ensures)

pub returns-in-Ok-None-clause-its : goal.returns-in-Ok-None-clause-its
returns-in-Ok-None-clause-its g c =
    brought_in c.args.settings c.args.obstacle c.args.script.now c.in-Ok.followed c.standing.result.now None c.in-Ok.ensures c.standing.ensures
    (sym c.in-Ok-None.field-0-is ∙ c.in-Ok-None.ensures c.args.settings c.in-Ok-new.ensures)
