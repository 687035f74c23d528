use Rattle.std.proofs.Common.{not, sym, subst}
use Rattle.vsm_model.specs.Areas.{is_nowhere, place}
use Rattle.vsm_model.specs.Regions.{regions_for}
use Rattle.storage_changes.specs.Meaning.{model_of}
use Rattle.storage_swap.specs.Storage.{state_of}
use Rattle.storage_plans.specs.Places.{IsUpTo}
use Rattle.storage_plans.proofs.Regions.{up_to_below, up_to_above}
use Rattle.storage_plans.proofs.places.longest_place.Goals as goal

pub returns-in-Below : goal.returns-in-Below
returns-in-Below c =
    up_to_below (model_of (state_of c.args.storage.now)) c.args.subpool c.args.spacing c.args.settings c.args.side c.longest_on-low.result c.in-Below.is c.longest_on-low.ensures

pub returns-in-Above : goal.returns-in-Above
returns-in-Above c =
    let s = model_of (state_of c.args.storage.now) in
    subst (IsUpTo (λ n. not (is_nowhere (place s (regions_for c.args.settings c.args.side) c.args.subpool n c.args.spacing)))) (sym c.max.ensures)
    (up_to_above s c.args.subpool c.args.spacing c.args.settings c.args.side c.longest_on-high.result c.longest_on-low.result c.in-Above.is c.longest_on-high.ensures c.longest_on-low.ensures)
