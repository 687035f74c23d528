use Rattle.std.proofs.Common.{ap, sym, ◌∙◌}
use Rattle.vsm_elements.specs.declared.element.Element.{Element}
use Rattle.vsm_elements.specs.Words.{with_next, with_word}
use Rattle.vsm_elements.specs.contracts.elements.Elements.{the_view}
use Rattle.vsm_elements.proofs.StoreSteps.{live_of, put_sound, element_in_place, put_updates_in_place}
use Rattle.vsm_elements.proofs.elements.Elements.turn.Goals as goal

pub store_turn-requires-clause-id : goal.store_turn-requires-clause-id
store_turn-requires-clause-id c = (live_of (the_view c.self.inside) c.args.self.now c.args.id c.self.view_is c.requires.live).in_range

pub invariant_of-self : goal.invariant_of-self
invariant_of-self c =
    let live = live_of (the_view c.self.inside) c.args.self.now c.args.id c.self.view_is c.requires.live in
    rw c.store_turn.ensures.stored (put_sound (the_view c.self.inside) c.args.id _ c.self.invariant live)

pub returns-clause-updates : goal.returns-clause-updates
returns-clause-updates c =
    let live = live_of (the_view c.self.inside) c.args.self.now c.args.id c.self.view_is c.requires.live in
    rw (c.store_turn.ensures.stored, ← c.self.view_is) (put_updates_in_place (the_view c.self.inside) c.args.id (λ e. with_next (with_word e c.args.k c.args.word) c.args.next) c.self.invariant live)

pub returns-clause-answer : goal.returns-clause-answer
returns-clause-answer c =
    let live = live_of (the_view c.self.inside) c.args.self.now c.args.id c.self.view_is c.requires.live in
    rw (← c.self.view_is) (c.store_turn.ensures.answer ∙ ap (λ (e : Element). e.next) (sym (element_in_place (the_view c.self.inside) c.args.id live)))
