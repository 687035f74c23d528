use Rattle.storage_swap.specs.Storage.{state_of}
use Rattle.storage_plans.specs.Places.{region_on}
use Rattle.storage_plans.proofs.LeastFits.{area_found}
use Rattle.storage_plans.proofs.searches.least_area.Goals as goal

pub returns : goal.returns
returns c =
    area_found c.args.settings (state_of c.args.storage.now) c.requires.stands.sound.sound (region_on c.args.settings c.args.side)
    c.area_on-region.result c.area_on-region.ensures.start c.area_on-region.ensures.len
    c.args.subpool c.args.count c.args.spacing c.requires.asked.0 c.least_fit.result c.least_fit.ensures.none c.least_fit.ensures.least
