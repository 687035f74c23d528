use Rattle.cell_pool.specs.Names.{packed}
use Rattle.std.proofs.Common.{ap, ◌∙◌}
use Rattle.cell_pool.proofs.label.label_of_name.Goals as goal

pub returns-clause-packed : goal.returns-clause-packed
returns-clause-packed c = c.label_of_text.ensures.packed ∙ ap packed (c.as_bytes.ensures.value ∙ c.as_str.ensures.value)

pub returns-clause-spelled : goal.returns-clause-spelled
returns-clause-spelled c = c.label_of_text.ensures.spelled ∙ c.as_bytes.ensures.value ∙ c.as_str.ensures.value
