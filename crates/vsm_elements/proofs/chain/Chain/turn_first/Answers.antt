use Rattle.std.proofs.Common.{◌-◌, ◌<◌, ◌≤◌, ◌+◌, refl, arith}
use Rattle.std.proofs.lemmas.Grind.{common_steps}
use Rattle.vsm_elements.proofs.ChainCalls.{element_is, live_at, some_of}
use Rattle.vsm_elements.proofs.ChainLinks.{turned_link, moved_room}
use Rattle.std.proofs.Common.{◌≡◌, Some, ap, sym, ◌∙◌}
use Rattle.vsm_elements.specs.Store.{Store, at}
use Rattle.vsm_elements.specs.Chain.{element, IsChain}
use Rattle.vsm_elements.specs.declared.chain.Chain.{Chain}
use Rattle.vsm_elements.proofs.chain.Chain.turn_first.Goals as goal

-- the first link is live
first_live : (s : Store) (c : Chain) → IsChain s c → 0 < c.count → at s c.first ≡ Some (element s c.first)
first_live s c chain some =
    let l = live_at s c chain 0 c.first some chain.first in
    l ∙ ap Some (sym (element_is s c.first _ l))

pub turn-rest-requires-clause-live : goal.turn-rest-requires-clause-live
turn-rest-requires-clause-live c = some_of c.args.elements.now c.args.self.now.first _ (live_at c.args.elements.now c.args.self.now c.requires.chain.0 0 c.args.self.now.first c.requires.chain.1 c.requires.chain.0.first)

pub overflow_add-to : goal.overflow_add-to
overflow_add-to c =
    let room : c.args.to.now.count + 1 ≤ 4294967040 = moved_room c.args.elements.now c.args.elements.now c.turn-rest.new.self c.args.self.now c.args.to.now 0 0 c.args.self.now.first (element c.args.elements.now c.args.self.now.first).next c.turn-rest.result (element c.args.elements.now c.args.self.now.first).words _ c.requires.chain.0 c.requires.chain.1 refl c.requires.to c.requires.apart c.requires.chain.0.first (first_live c.args.elements.now c.args.self.now c.requires.chain.0 c.requires.chain.1) (λ e. (c.turn-rest.ensures.answer, refl)) (λ h. absurd (omega (arith, h))) c.turn-rest.ensures.updates c.turn-rest.ensures.spares c.ids_in_range.ensures in
    grind (arith, common_steps)

pub returns-clause-chain : goal.returns-clause-chain
returns-clause-chain c = (turned_link c.args.elements.now c.args.elements.now c.turn-rest.new.self c.args.self.now c.args.to.now 0 0 c.args.self.now.first (element c.args.elements.now c.args.self.now.first).next c.turn-rest.result (element c.args.elements.now c.args.self.now.first).words _ c.requires.chain.0 c.requires.chain.1 refl c.requires.to c.requires.apart c.requires.chain.0.first (first_live c.args.elements.now c.args.self.now c.requires.chain.0 c.requires.chain.1) (λ e. (c.turn-rest.ensures.answer, refl)) (λ h. absurd (omega (arith, h))) c.turn-rest.ensures.updates c.turn-rest.ensures.spares (c.args.self.now.count - 1) (omega (arith, c.requires.chain.1))).chain

pub returns-clause-rest : goal.returns-clause-rest
returns-clause-rest c = (turned_link c.args.elements.now c.args.elements.now c.turn-rest.new.self c.args.self.now c.args.to.now 0 0 c.args.self.now.first (element c.args.elements.now c.args.self.now.first).next c.turn-rest.result (element c.args.elements.now c.args.self.now.first).words _ c.requires.chain.0 c.requires.chain.1 refl c.requires.to c.requires.apart c.requires.chain.0.first (first_live c.args.elements.now c.args.self.now c.requires.chain.0 c.requires.chain.1) (λ e. (c.turn-rest.ensures.answer, refl)) (λ h. absurd (omega (arith, h))) c.turn-rest.ensures.updates c.turn-rest.ensures.spares (c.args.self.now.count - 1) (omega (arith, c.requires.chain.1))).rest

pub returns-clause-front : goal.returns-clause-front
returns-clause-front c = (turned_link c.args.elements.now c.args.elements.now c.turn-rest.new.self c.args.self.now c.args.to.now 0 0 c.args.self.now.first (element c.args.elements.now c.args.self.now.first).next c.turn-rest.result (element c.args.elements.now c.args.self.now.first).words _ c.requires.chain.0 c.requires.chain.1 refl c.requires.to c.requires.apart c.requires.chain.0.first (first_live c.args.elements.now c.args.self.now c.requires.chain.0 c.requires.chain.1) (λ e. (c.turn-rest.ensures.answer, refl)) (λ h. absurd (omega (arith, h))) c.turn-rest.ensures.updates c.turn-rest.ensures.spares (c.args.self.now.count - 1) (omega (arith, c.requires.chain.1))).front

pub returns-clause-apart : goal.returns-clause-apart
returns-clause-apart c = (turned_link c.args.elements.now c.args.elements.now c.turn-rest.new.self c.args.self.now c.args.to.now 0 0 c.args.self.now.first (element c.args.elements.now c.args.self.now.first).next c.turn-rest.result (element c.args.elements.now c.args.self.now.first).words _ c.requires.chain.0 c.requires.chain.1 refl c.requires.to c.requires.apart c.requires.chain.0.first (first_live c.args.elements.now c.args.self.now c.requires.chain.0 c.requires.chain.1) (λ e. (c.turn-rest.ensures.answer, refl)) (λ h. absurd (omega (arith, h))) c.turn-rest.ensures.updates c.turn-rest.ensures.spares (c.args.self.now.count - 1) (omega (arith, c.requires.chain.1))).apart

pub returns-clause-owned : goal.returns-clause-owned
returns-clause-owned c = (turned_link c.args.elements.now c.args.elements.now c.turn-rest.new.self c.args.self.now c.args.to.now 0 0 c.args.self.now.first (element c.args.elements.now c.args.self.now.first).next c.turn-rest.result (element c.args.elements.now c.args.self.now.first).words _ c.requires.chain.0 c.requires.chain.1 refl c.requires.to c.requires.apart c.requires.chain.0.first (first_live c.args.elements.now c.args.self.now c.requires.chain.0 c.requires.chain.1) (λ e. (c.turn-rest.ensures.answer, refl)) (λ h. absurd (omega (arith, h))) c.turn-rest.ensures.updates c.turn-rest.ensures.spares (c.args.self.now.count - 1) (omega (arith, c.requires.chain.1))).leaves
