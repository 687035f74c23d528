use Rattle.storage_swap.specs.Storage.{state_of}
use Rattle.storage_plans.specs.Places.{region_on}
use Rattle.storage_plans.proofs.LeastFits.{area_up_to}
use Rattle.storage_plans.proofs.searches.longest_area.Goals as goal

pub returns : goal.returns
returns c =
    area_up_to c.args.settings (state_of c.args.storage.now) c.requires.stands.sound.sound (region_on c.args.settings c.args.side)
    c.area_on-region.result c.area_on-region.ensures.start c.area_on-region.ensures.len
    c.args.subpool c.args.spacing c.longest.result c.longest.ensures
