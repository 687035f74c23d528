use Rattle.std.proofs.Common.{sym, ap, ◌∙◌}
use Rattle.std.specs.Prelude.{is_some}
use Rattle.cell_pool.proofs.NoteLemmas.{noted_row}
use Rattle.cell_pool.proofs.used.is_noted.Goals as goal

pub returns-in-Some : goal.returns-in-Some
returns-in-Some c = sym (noted_row c.args.elements.now c.args.used.now c.requires c.args.address ∙ ap is_some (sym c.find.ensures ∙ c.in-Some.is))

pub returns-in-None : goal.returns-in-None
returns-in-None c = sym (noted_row c.args.elements.now c.args.used.now c.requires c.args.address ∙ ap is_some (sym c.find.ensures ∙ c.in-None.is))
