use Rattle.std.proofs.Common.{ap, ◌∙◌, length}
use Rattle.vsm_elements.specs.declared.element.Element.{Element}
use Rattle.vsm_elements.specs.Words.{with_four}
use Rattle.vsm_elements.specs.contracts.elements.Elements.{the_view}
use Rattle.vsm_elements.proofs.StoreSteps.{live_of, put_sound, element_in_place, put_updates_in_place}
use Rattle.vsm_elements.proofs.elements.Elements.set_four.Goals as goal

pub store_four-requires-clause-id : goal.store_four-requires-clause-id
store_four-requires-clause-id c = (live_of (the_view c.self.inside) c.args.self.now c.args.id c.self.view_is c.requires.live).in_range

pub invariant_of-self : goal.invariant_of-self
invariant_of-self c =
    let live = live_of (the_view c.self.inside) c.args.self.now c.args.id c.self.view_is c.requires.live in
    rw c.store_four.ensures.stored (put_sound (the_view c.self.inside) c.args.id _ c.self.invariant live)

pub returns-clause-updates : goal.returns-clause-updates
returns-clause-updates c =
    let live = live_of (the_view c.self.inside) c.args.self.now c.args.id c.self.view_is c.requires.live in
    rw (c.store_four.ensures.stored, ← c.self.view_is) (put_updates_in_place (the_view c.self.inside) c.args.id (λ e. with_four e c.args.from c.args.four) c.self.invariant live)

pub returns-clause-seven : goal.returns-clause-seven
returns-clause-seven c =
    let live = live_of (the_view c.self.inside) c.args.self.now c.args.id c.self.view_is c.requires.live in
    rw (← c.self.view_is) (ap (λ (e : Element). length e.words) (element_in_place (the_view c.self.inside) c.args.id live) ∙ c.store_four.ensures.seven)
