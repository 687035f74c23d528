use Rattle.std.proofs.Common.{◌≡◌, ◌/◌, Some, arith, rules, refl, ◌∙◌}
use Rattle.vsm_model.specs.Causes.{first_cause}
use Rattle.vsm_model.specs.Releasing.{release_causes}
use Rattle.storage_changes.specs.Meaning.{model_of}
use Rattle.storage_swap.specs.Storage.{state_of}
use Rattle.storage_plans.proofs.GivenBack.{as_of_the_area}
use Rattle.storage_plans.proofs.release.find_given_back.Goals as goal

pub returns-in_err-sides-clause-err : goal.returns-in_err-sides-clause-err
returns-in_err-sides-clause-err c =
    let m = state_of c.args.storage.now in
    let first : first_cause (release_causes c.args.settings (model_of m) c.args.r) ≡ Some c.in_err-sides.field-0.0 =
    as_of_the_area c.args.settings m c.args.r c.in_ok-number.number c.in-Some.owner (record { start = c.args.r.address / 8; len = c.div_ceil.result })
    (search rules) (search rules) (omega arith) (search rules) (search rules) refl (search rules)
    ∙ c.in_err-sides.ensures.err in
    search rules
