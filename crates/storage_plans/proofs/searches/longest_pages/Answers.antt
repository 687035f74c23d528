use Rattle.std.proofs.Common.{arith}
use Rattle.storage_swap.specs.Storage.{state_of}
use Rattle.storage_plans.specs.Places.{region_on}
use Rattle.storage_plans.proofs.LeastFits.{longest_in_region, pages_up_to}
use Rattle.storage_plans.proofs.Regions.{of_a_region}
use Rattle.storage_plans.proofs.searches.longest_pages.Goals as goal

pub returns-clause-up_to : goal.returns-clause-up_to
returns-clause-up_to c =
    pages_up_to c.args.settings (state_of c.args.storage.now) c.requires.sound.sound (region_on c.args.settings c.args.side)
    c.pages_on-pages.result c.pages_on-pages.ensures.start c.pages_on-pages.ensures.len (of_a_region c.args.settings c.args.side)
    c.longest_run.result c.longest_run.ensures

pub returns-clause-range : goal.returns-clause-range
returns-clause-range c =
    let most = longest_in_region (state_of c.args.storage.now).unassigned c.pages_on-pages.result 1 c.longest_run.result c.longest_run.ensures in
    let range = c.pages_on-pages.ensures.range in
    omega (arith, most, range)
