use Rattle.storage_changes.specs.Meaning.{model_of}
use Rattle.storage_swap.specs.Storage.{state_of}
use Rattle.storage_plans.proofs.Regions.{place_below, place_above, place_behind}
use Rattle.storage_plans.proofs.places.area_place.Goals as goal

pub returns-in-Below : goal.returns-in-Below
returns-in-Below c =
    place_below c.args.settings (model_of (state_of c.args.storage.now)) c.args.side c.args.subpool c.args.count c.args.spacing
    c.place_on-place.result c.in-Below.is c.place_on-place.ensures

pub returns-in-Some : goal.returns-in-Some
returns-in-Some c =
    place_above c.args.settings (model_of (state_of c.args.storage.now)) c.args.side c.args.subpool c.args.count c.args.spacing
    c.place_on-place.result c.in-Some.place c.in-Above.is c.in-Some.is c.place_on-place.ensures

pub returns-in-None : goal.returns-in-None
returns-in-None c =
    place_behind c.args.settings (model_of (state_of c.args.storage.now)) c.args.side c.args.subpool c.args.count c.args.spacing
    c.place_on-place.result c.place_on.result c.in-Above.is c.in-None.is c.place_on-place.ensures c.place_on.ensures
