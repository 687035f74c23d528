use Rattle.storage_swap.specs.Storage.{state_of}
use Rattle.storage_plans.specs.Places.{region_on}
use Rattle.storage_plans.proofs.LeastFits.{pages_found}
use Rattle.storage_plans.proofs.Regions.{of_a_region}
use Rattle.storage_plans.proofs.searches.least_pages.Goals as goal

pub returns : goal.returns
returns c =
    pages_found c.args.settings (state_of c.args.storage.now) c.requires.stands.sound.sound (region_on c.args.settings c.args.side)
    c.pages_on-pages.result c.pages_on-pages.ensures.start c.pages_on-pages.ensures.len (of_a_region c.args.settings c.args.side)
    c.args.count c.requires.asked.0 c.least_run.result c.least_run.ensures.none c.least_run.ensures.least
