use Rattle.std.proofs.Common.{true, false, subst}
use Rattle.storage_changes.specs.declared.record.PagesRecord.{PagesRecord}
use Rattle.storage_changes.specs.declared.record.Record.TheVariants.{Pages as Assignment}
use Rattle.storage_changes.specs.Fits.{PagesFits}
use Rattle.storage_swap.specs.Storage.{walk_of}
use Rattle.storage_swap.proofs.SubpoolLemmas.{exchanges-as}
use Rattle.storage_swap.proofs.PageLemmas.{pages-as, assigned}
use Rattle.storage_swap.proofs.storage.Parts.exchange_pages.Goals as goal

pub unassign-requires-clause-stands : goal.unassign-requires-clause-stands
unassign-requires-clause-stands c = c.requires.stands

pub unassign-requires-clause-fits : goal.unassign-requires-clause-fits
unassign-requires-clause-fits c =
    let P : PagesRecord → Type 0 = λ r. PagesFits (walk_of c.args.self.now c.args.given.now c.requires.fits.0 c.requires.fits.1) r in
    (c.requires.fits.0, c.requires.fits.1, subst P (λ i. record { run = c.args.r.run; assigned = c.if-r.false i }) c.requires.fits.2)

pub returns-then-r : goal.returns-then-r
returns-then-r c = λ parked k. exchanges-as c.args.self.now _ c.args.given.now c.args.given.now parked parked _ (Assignment c.args.r) (pages-as c.args.r true c.if-r.true)
    (assigned c.args.self.now c.remove_run.new.elements c.remove_run.new.self c.args.r.run c.remove_run.ensures.owned c.remove_run.ensures.queue c.remove_run.ensures.set c.remove_run.ensures.exact c.args.given.now parked k)

pub returns-else-r : goal.returns-else-r
returns-else-r c = λ parked k. exchanges-as c.args.self.now _ c.args.given.now c.unassign.new.given parked parked _ (Assignment c.args.r) (pages-as c.args.r false c.if-r.false)
    (c.unassign.ensures parked k)
