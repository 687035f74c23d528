use Rattle.std.proofs.Common.{◌-◌, ◌≤◌, ◌+◌, refl, arith}
use Rattle.std.proofs.lemmas.Grind.{common_steps}
use Rattle.vsm_elements.proofs.ChainCalls.{live_at, some_of}
use Rattle.vsm_elements.proofs.ChainLinks.{turned_link, moved_room}
use Rattle.vsm_elements.proofs.chain.Chain.turn_front.Goals as goal

pub get-rest-requires : goal.get-rest-requires
get-rest-requires c = some_of c.args.elements.now c.args.self.now.first _ (live_at c.args.elements.now c.args.self.now c.requires.chain.0 0 c.args.self.now.first c.requires.chain.1 c.requires.chain.0.first)

pub overflow_add-to : goal.overflow_add-to
overflow_add-to c =
    let room : c.args.to.now.count + 1 ≤ 4294967040 = moved_room c.args.elements.now c.args.elements.now c.set.new.self c.args.self.now c.args.to.now 0 0 c.args.self.now.first c.get-rest.result.next c.get-rest.result.next c.get-rest.result.words _ c.requires.chain.0 c.requires.chain.1 refl c.requires.to c.requires.apart c.requires.chain.0.first c.get-rest.ensures (λ e. (refl, refl)) (λ h. absurd (omega (arith, h))) c.set.ensures.updates c.set.ensures.spares c.ids_in_range.ensures in
    grind (arith, common_steps)

pub returns-clause-chain : goal.returns-clause-chain
returns-clause-chain c = (turned_link c.args.elements.now c.args.elements.now c.set.new.self c.args.self.now c.args.to.now 0 0 c.args.self.now.first c.get-rest.result.next c.get-rest.result.next c.get-rest.result.words _ c.requires.chain.0 c.requires.chain.1 refl c.requires.to c.requires.apart c.requires.chain.0.first c.get-rest.ensures (λ e. (refl, refl)) (λ h. absurd (omega (arith, h))) c.set.ensures.updates c.set.ensures.spares (c.args.self.now.count - 1) (omega (arith, c.requires.chain.1))).chain

pub returns-clause-rest : goal.returns-clause-rest
returns-clause-rest c = (turned_link c.args.elements.now c.args.elements.now c.set.new.self c.args.self.now c.args.to.now 0 0 c.args.self.now.first c.get-rest.result.next c.get-rest.result.next c.get-rest.result.words _ c.requires.chain.0 c.requires.chain.1 refl c.requires.to c.requires.apart c.requires.chain.0.first c.get-rest.ensures (λ e. (refl, refl)) (λ h. absurd (omega (arith, h))) c.set.ensures.updates c.set.ensures.spares (c.args.self.now.count - 1) (omega (arith, c.requires.chain.1))).rest

pub returns-clause-front : goal.returns-clause-front
returns-clause-front c = (turned_link c.args.elements.now c.args.elements.now c.set.new.self c.args.self.now c.args.to.now 0 0 c.args.self.now.first c.get-rest.result.next c.get-rest.result.next c.get-rest.result.words c.args.words c.requires.chain.0 c.requires.chain.1 refl c.requires.to c.requires.apart c.requires.chain.0.first c.get-rest.ensures (λ e. (refl, refl)) (λ h. absurd (omega (arith, h))) c.set.ensures.updates c.set.ensures.spares (c.args.self.now.count - 1) (omega (arith, c.requires.chain.1))).front

pub returns-clause-apart : goal.returns-clause-apart
returns-clause-apart c = (turned_link c.args.elements.now c.args.elements.now c.set.new.self c.args.self.now c.args.to.now 0 0 c.args.self.now.first c.get-rest.result.next c.get-rest.result.next c.get-rest.result.words _ c.requires.chain.0 c.requires.chain.1 refl c.requires.to c.requires.apart c.requires.chain.0.first c.get-rest.ensures (λ e. (refl, refl)) (λ h. absurd (omega (arith, h))) c.set.ensures.updates c.set.ensures.spares (c.args.self.now.count - 1) (omega (arith, c.requires.chain.1))).apart

pub returns-clause-owned : goal.returns-clause-owned
returns-clause-owned c = (turned_link c.args.elements.now c.args.elements.now c.set.new.self c.args.self.now c.args.to.now 0 0 c.args.self.now.first c.get-rest.result.next c.get-rest.result.next c.get-rest.result.words _ c.requires.chain.0 c.requires.chain.1 refl c.requires.to c.requires.apart c.requires.chain.0.first c.get-rest.ensures (λ e. (refl, refl)) (λ h. absurd (omega (arith, h))) c.set.ensures.updates c.set.ensures.spares (c.args.self.now.count - 1) (omega (arith, c.requires.chain.1))).leaves
