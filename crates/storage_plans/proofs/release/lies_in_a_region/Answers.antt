use Rattle.std.proofs.Common.{◌∙◌, sym}
use Rattle.vsm_model.specs.declared.limits.Residence.TheVariants.{Above}
use Rattle.storage_plans.proofs.OwnedAreas.{run_within, run_tested}
use Rattle.storage_plans.proofs.release.lies_in_a_region.Goals as goal

pub returns-then-lies_in-clause-value : goal.returns-then-lies_in-clause-value
returns-then-lies_in-clause-value c =
    c.if-lies_in.true
    ∙ sym (run_within c.args.settings c.args.pages Above c.pages_on.result c.pages_on.ensures.start c.pages_on.ensures.len (sym c.lies_in.ensures ∙ c.if-lies_in.true))

pub returns-else-lies_in-clause-value : goal.returns-else-lies_in-clause-value
returns-else-lies_in-clause-value c =
    c.lies_in-else-lies_in.ensures
    ∙ run_tested c.args.settings c.args.pages c.pages_on.result c.pages_on-else-lies_in.result c.requires.valid c.requires.some
    c.pages_on.ensures.start c.pages_on.ensures.len c.pages_on-else-lies_in.ensures.start c.pages_on-else-lies_in.ensures.len (sym c.lies_in.ensures ∙ c.if-lies_in.false)
