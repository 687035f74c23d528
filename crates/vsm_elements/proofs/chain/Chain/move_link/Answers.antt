use Rattle.std.proofs.Common.{◌-◌, ◌≤◌, ◌+◌, refl, arith}
use Rattle.std.proofs.lemmas.Grind.{common_steps}
use Rattle.vsm_elements.proofs.ChainCalls.{before_ok, live_at, some_of}
use Rattle.vsm_elements.proofs.ChainLinks.{moved_link, moved_room}
use Rattle.vsm_elements.proofs.chain.Chain.move_link.Goals as goal

pub get-element-requires : goal.get-element-requires
get-element-requires c = some_of c.args.elements.now c.next-id.result _ (live_at c.args.elements.now c.args.self.now c.requires.chain c.args.k c.next-id.result c.requires.place.0 c.next-id.ensures)

pub relink-requires : goal.relink-requires
relink-requires c some = (before_ok c.args.elements.now c.args.self.now c.requires.chain c.args.k c.args.before some (omega (arith, c.requires.place.0)) c.requires.place.1).0

pub overflow_add-to : goal.overflow_add-to
overflow_add-to c =
    let room : c.args.to.now.count + 1 ≤ 4294967040 = moved_room c.args.elements.now c.relink.new.elements c.set.new.self c.args.self.now c.args.to.now c.args.k c.args.before c.next-id.result c.get-element.result.next c.relink.new.self.first c.get-element.result.words c.get-element.result.words c.requires.chain c.requires.place.0 c.requires.place.1 c.requires.to c.requires.apart c.next-id.ensures c.get-element.ensures c.relink.ensures.first c.relink.ensures.inner c.set.ensures.updates c.set.ensures.spares c.ids_in_range.ensures in
    grind (arith, common_steps)

pub returns-clause-chain : goal.returns-clause-chain
returns-clause-chain c = (moved_link c.args.elements.now c.relink.new.elements c.set.new.self c.args.self.now c.args.to.now c.args.k c.args.before c.next-id.result c.get-element.result.next c.relink.new.self.first c.get-element.result.words c.get-element.result.words c.requires.chain c.requires.place.0 c.requires.place.1 c.requires.to c.requires.apart c.next-id.ensures c.get-element.ensures c.relink.ensures.first c.relink.ensures.inner c.set.ensures.updates c.set.ensures.spares refl (c.relink.new.self.count - 1) (omega (arith, c.relink.ensures.count, c.requires.place.0))).chain

pub returns-clause-rest : goal.returns-clause-rest
returns-clause-rest c = (moved_link c.args.elements.now c.relink.new.elements c.set.new.self c.args.self.now c.args.to.now c.args.k c.args.before c.next-id.result c.get-element.result.next c.relink.new.self.first c.get-element.result.words c.get-element.result.words c.requires.chain c.requires.place.0 c.requires.place.1 c.requires.to c.requires.apart c.next-id.ensures c.get-element.ensures c.relink.ensures.first c.relink.ensures.inner c.set.ensures.updates c.set.ensures.spares refl (c.relink.new.self.count - 1) (omega (arith, c.relink.ensures.count, c.requires.place.0))).rest

pub returns-clause-front : goal.returns-clause-front
returns-clause-front c = (moved_link c.args.elements.now c.relink.new.elements c.set.new.self c.args.self.now c.args.to.now c.args.k c.args.before c.next-id.result c.get-element.result.next c.relink.new.self.first c.get-element.result.words c.get-element.result.words c.requires.chain c.requires.place.0 c.requires.place.1 c.requires.to c.requires.apart c.next-id.ensures c.get-element.ensures c.relink.ensures.first c.relink.ensures.inner c.set.ensures.updates c.set.ensures.spares refl (c.relink.new.self.count - 1) (omega (arith, c.relink.ensures.count, c.requires.place.0))).front

pub returns-clause-apart : goal.returns-clause-apart
returns-clause-apart c = (moved_link c.args.elements.now c.relink.new.elements c.set.new.self c.args.self.now c.args.to.now c.args.k c.args.before c.next-id.result c.get-element.result.next c.relink.new.self.first c.get-element.result.words c.get-element.result.words c.requires.chain c.requires.place.0 c.requires.place.1 c.requires.to c.requires.apart c.next-id.ensures c.get-element.ensures c.relink.ensures.first c.relink.ensures.inner c.set.ensures.updates c.set.ensures.spares refl (c.relink.new.self.count - 1) (omega (arith, c.relink.ensures.count, c.requires.place.0))).apart

pub returns-clause-owned : goal.returns-clause-owned
returns-clause-owned c = (moved_link c.args.elements.now c.relink.new.elements c.set.new.self c.args.self.now c.args.to.now c.args.k c.args.before c.next-id.result c.get-element.result.next c.relink.new.self.first c.get-element.result.words c.get-element.result.words c.requires.chain c.requires.place.0 c.requires.place.1 c.requires.to c.requires.apart c.next-id.ensures c.get-element.ensures c.relink.ensures.first c.relink.ensures.inner c.set.ensures.updates c.set.ensures.spares refl (c.relink.new.self.count - 1) (omega (arith, c.relink.ensures.count, c.requires.place.0))).leaves
