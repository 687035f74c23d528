use Rattle.vsm_elements.specs.Words.{with_next}
use Rattle.vsm_elements.specs.contracts.elements.Elements.{the_view}
use Rattle.vsm_elements.proofs.StoreSteps.{live_of, put_sound, put_updates_in_place}
use Rattle.vsm_elements.proofs.elements.Elements.set_next.Goals as goal

pub store_next-requires : goal.store_next-requires
store_next-requires c = (live_of (the_view c.self.inside) c.args.self.now c.args.id c.self.view_is c.requires).in_range

pub invariant_of-self : goal.invariant_of-self
invariant_of-self c =
    let live = live_of (the_view c.self.inside) c.args.self.now c.args.id c.self.view_is c.requires in
    rw c.store_next.ensures (put_sound (the_view c.self.inside) c.args.id _ c.self.invariant live)

pub returns-clause-updates : goal.returns-clause-updates
returns-clause-updates c =
    let live = live_of (the_view c.self.inside) c.args.self.now c.args.id c.self.view_is c.requires in
    rw (c.store_next.ensures, ← c.self.view_is) (put_updates_in_place (the_view c.self.inside) c.args.id (λ e. with_next e c.args.next) c.self.invariant live)
