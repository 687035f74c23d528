use Rattle.storage_changes.specs.Meaning.{model_of}
use Rattle.storage_swap.specs.Storage.{state_of}
use Rattle.storage_plans.proofs.SidePlaces.{below_is, above_is}
use Rattle.storage_plans.proofs.reasons.reasons.Goals as goal

pub returns-in-Below-clause-place : goal.returns-in-Below-clause-place
returns-in-Below-clause-place c =
    below_is c.args.settings (model_of (state_of c.args.storage.now)) c.args.subpool c.args.count c.args.spacing c.args.side
    c.reason_on-first.result c.in-Below.is c.reason_on-first.ensures

pub returns-in-Above-clause-place : goal.returns-in-Above-clause-place
returns-in-Above-clause-place c =
    above_is c.args.settings (model_of (state_of c.args.storage.now)) c.args.subpool c.args.count c.args.spacing c.args.side
    c.reason_on-first.result c.reason_on-low.result c.in-Above.is c.reason_on-first.ensures c.reason_on-low.ensures
