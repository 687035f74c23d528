use Rattle.std.proofs.Common.{ap, sym, ◌∙◌, get_or, length}
use Rattle.vsm_elements.specs.declared.element.Element.{Element}
use Rattle.vsm_elements.specs.Words.{with_word}
use Rattle.vsm_elements.specs.contracts.elements.Elements.{the_view}
use Rattle.vsm_elements.proofs.StoreSteps.{live_of, put_sound, element_in_place, put_updates_in_place}
use Rattle.vsm_elements.proofs.elements.Elements.swap_word.Goals as goal

pub store_word-requires-clause-id : goal.store_word-requires-clause-id
store_word-requires-clause-id c = (live_of (the_view c.self.inside) c.args.self.now c.args.id c.self.view_is c.requires.live).in_range

pub invariant_of-self : goal.invariant_of-self
invariant_of-self c =
    let live = live_of (the_view c.self.inside) c.args.self.now c.args.id c.self.view_is c.requires.live in
    rw c.store_word.ensures.stored (put_sound (the_view c.self.inside) c.args.id _ c.self.invariant live)

pub returns-clause-updates : goal.returns-clause-updates
returns-clause-updates c =
    let live = live_of (the_view c.self.inside) c.args.self.now c.args.id c.self.view_is c.requires.live in
    rw (c.store_word.ensures.stored, ← c.self.view_is) (put_updates_in_place (the_view c.self.inside) c.args.id (λ e. with_word e c.args.k c.args.word) c.self.invariant live)

pub returns-clause-answer : goal.returns-clause-answer
returns-clause-answer c =
    let live = live_of (the_view c.self.inside) c.args.self.now c.args.id c.self.view_is c.requires.live in
    rw (← c.self.view_is) (c.store_word.ensures.answer ∙ ap (λ (e : Element). get_or e.words c.args.k 0) (sym (element_in_place (the_view c.self.inside) c.args.id live)))

pub returns-clause-seven : goal.returns-clause-seven
returns-clause-seven c =
    let live = live_of (the_view c.self.inside) c.args.self.now c.args.id c.self.view_is c.requires.live in
    rw (← c.self.view_is) (ap (λ (e : Element). length e.words) (element_in_place (the_view c.self.inside) c.args.id live) ∙ c.store_word.ensures.seven)
