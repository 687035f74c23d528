use Rattle.std.proofs.Common.{◌∙◌, ◌&&◌, not, sym}
use Rattle.storage_plans.proofs.OwnedAreas.{is_others, not_others}
use Rattle.storage_plans.proofs.release.is_others.Goals as goal

pub returns-then-assigned : goal.returns-then-assigned
returns-then-assigned c =
    (λ i. sym (sym c.assigned.ensures ∙ c.if-assigned.true) i && not (c.has_page.ensures i))
    ∙ is_others c.args.settings c.args.storage.now c.requires.frameless c.requires.sound.sound c.args.subpool c.args.page

pub returns-else-assigned : goal.returns-else-assigned
returns-else-assigned c =
    c.if-assigned.false
    ∙ not_others c.args.settings c.args.storage.now c.requires.frameless c.requires.sound.sound c.args.subpool c.args.page (sym c.assigned.ensures ∙ c.if-assigned.false)
