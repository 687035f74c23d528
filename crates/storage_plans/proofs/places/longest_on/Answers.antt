use Rattle.std.proofs.Common.{not, sym, subst}
use Rattle.vsm_model.specs.Areas.{is_nowhere, place_in}
use Rattle.storage_changes.specs.Meaning.{model_of}
use Rattle.storage_swap.specs.Storage.{state_of}
use Rattle.storage_plans.specs.Places.{IsUpTo, region_on}
use Rattle.storage_plans.proofs.Regions.{up_to_in}
use Rattle.storage_plans.proofs.places.longest_on.Goals as goal

pub returns : goal.returns
returns c =
    let s = model_of (state_of c.args.storage.now) in
    let r = region_on c.args.settings c.args.side in
    subst (IsUpTo (λ n. not (is_nowhere (place_in s c.args.subpool n c.args.spacing r)))) (sym c.max.ensures)
    (up_to_in s c.args.subpool c.args.spacing r c.longest_area-inside.result c.longest_pages-pages.result c.longest_area-inside.ensures c.longest_pages-pages.ensures.up_to)
