use Rattle.std.proofs.Common.{◌+◌, List, length, ap, ◌∙◌}
use Rattle.std.specs.Option.{option_or}
use Rattle.run_set.proofs.RunLemmas.{true_inside}
use Rattle.raw_region.specs.Frames.{PageFrame}
use Rattle.raw_region.specs.Parked.{held_at}
use Rattle.storage_swap.proofs.PageLemmas.{unassigned, frame-is-here, frame-not-given, parked-inside}
use Rattle.storage_swap.proofs.storage.Parts.unassign.Goals as goal

pub park-parked-requires : goal.park-parked-requires
park-parked-requires c = λ page low high. frame-is-here c.args.self.now c.args.run c.args.given.now c.requires.fits.0 c.requires.fits.1 c.requires.fits.2 page (true_inside page c.args.run low high)

pub join-requires : goal.join-requires
join-requires c = λ page some. ap (λ (z : List PageFrame). held_at z page) c.replace-before.ensures.value
    ∙ frame-not-given c.args.self.now c.args.run c.args.given.now c.requires.fits.0 c.requires.fits.1 c.requires.fits.2 page
    (parked-inside c.args.self.now.region c.park-parked.new.self c.park-parked.result c.args.run c.park-parked.ensures.parks page some)

pub returns : goal.returns
returns c = unassigned c.args.self.now c.insert_run.new.elements c.insert_run.new.self c.args.run c.insert_run.ensures.owned c.insert_run.ensures.queue c.insert_run.ensures.set c.insert_run.ensures.exact
    c.args.given.now c.join.result c.park-parked.result c.park-parked.new.self c.park-parked.ensures.parks c.park-parked.ensures.tables c.park-parked.ensures.counts c.pages_in_range.ensures.tables
    (λ page. c.join.ensures.pages page ∙ ap (λ (z : List PageFrame). option_or (held_at c.park-parked.result page) (held_at z page)) c.replace-before.ensures.value)
    (c.join.ensures.count ∙ ap (λ (z : List PageFrame). length c.park-parked.result + length z) c.replace-before.ensures.value)
