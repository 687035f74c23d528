use Rattle.std.proofs.Common.{◌≡◌, ℕ, ◌-◌, ◌+◌, ◌<◌, ◌≤◌, List, ◌∷◌, drop, Some, IsSome, refl, ap, sym, ◌∙◌, arith}
use Rattle.std.specs.Prelude.{slice_set}
use Rattle.std.proofs.lemmas.Grind.{common_steps}
use Rattle.vsm_elements.specs.Store.{Store, at, Updates}
use Rattle.vsm_elements.specs.Words.{with_next, with_word}
use Rattle.vsm_elements.specs.Chain.{element, links, owned, IsChain}
use Rattle.vsm_elements.specs.Ownership.{Apart}
use Rattle.vsm_elements.specs.declared.chain.Chain.{Chain}
use Rattle.vsm_elements.proofs.ChainCalls.{element_is, live_at, some_of}
use Rattle.vsm_elements.proofs.ChainLinks.{LinkMoved, turned_link, moved_room}
use Rattle.vsm_elements.proofs.chain.Chain.turn_first_by_two.Goals as goal

module _ (s t : Store) (c d : Chain) (one other : ℕ × ℕ) (rest : ℕ) (chain : IsChain s c) (some : 0 < c.count) (to : IsChain s d) (apart : Apart (owned s c) (owned s d))
    (both : Updates s t c.first (Some (with_next (with_word (with_word (element s c.first) one.0 one.1) other.0 other.1) d.first))) (spares : t.spare ≡ s.spare)
    (is_rest : rest ≡ (element s c.first).next) where
  abbrev written : List ℕ
  written = slice_set (slice_set (element s c.first).words one.0 one.1) other.0 other.1

  first_live : at s c.first ≡ Some (element s c.first)
  first_live =
      let l = live_at s c chain 0 c.first some chain.first in
      l ∙ ap Some (sym (element_is s c.first _ l))

  turned : LinkMoved s t c d (record { first = rest; count = c.count - 1 }) (record { first = c.first; count = d.count + 1 }) (drop 1 (links s c)) (record { id = c.first; words = written } ∷ links s d)
  turned =
      turned_link s s t c d 0 0 c.first (element s c.first).next rest (element s c.first).words written chain some refl to apart chain.first first_live
      (λ z. (is_rest, refl)) (λ h. absurd (omega (arith, h))) both spares (c.count - 1) (omega (arith, some))

  room : ((i : ℕ) → IsSome (at t i) → (0 < i) × (i ≤ 4294967040)) → d.count + 1 ≤ 4294967040
  room =
      moved_room s s t c d 0 0 c.first (element s c.first).next rest (element s c.first).words written chain some refl to apart chain.first first_live
      (λ z. (is_rest, refl)) (λ h. absurd (omega (arith, h))) both spares

pub turn_by_two-rest-requires-clause-live : goal.turn_by_two-rest-requires-clause-live
turn_by_two-rest-requires-clause-live c = some_of c.args.elements.now c.args.self.now.first _ (live_at c.args.elements.now c.args.self.now c.requires.chain.0 0 c.args.self.now.first c.requires.chain.1 c.requires.chain.0.first)

pub overflow_add-to : goal.overflow_add-to
overflow_add-to c =
    let fits : c.args.to.now.count + 1 ≤ 4294967040 = room c.args.elements.now c.turn_by_two-rest.new.self c.args.self.now c.args.to.now c.args.one c.args.other c.turn_by_two-rest.result c.requires.chain.0 c.requires.chain.1 c.requires.to c.requires.apart c.turn_by_two-rest.ensures.updates c.turn_by_two-rest.ensures.spares c.turn_by_two-rest.ensures.answer c.ids_in_range.ensures in
    grind (arith, common_steps)

pub returns-clause-chain : goal.returns-clause-chain
returns-clause-chain c = (turned c.args.elements.now c.turn_by_two-rest.new.self c.args.self.now c.args.to.now c.args.one c.args.other c.turn_by_two-rest.result c.requires.chain.0 c.requires.chain.1 c.requires.to c.requires.apart c.turn_by_two-rest.ensures.updates c.turn_by_two-rest.ensures.spares c.turn_by_two-rest.ensures.answer).chain

pub returns-clause-rest : goal.returns-clause-rest
returns-clause-rest c = (turned c.args.elements.now c.turn_by_two-rest.new.self c.args.self.now c.args.to.now c.args.one c.args.other c.turn_by_two-rest.result c.requires.chain.0 c.requires.chain.1 c.requires.to c.requires.apart c.turn_by_two-rest.ensures.updates c.turn_by_two-rest.ensures.spares c.turn_by_two-rest.ensures.answer).rest

pub returns-clause-front : goal.returns-clause-front
returns-clause-front c = (turned c.args.elements.now c.turn_by_two-rest.new.self c.args.self.now c.args.to.now c.args.one c.args.other c.turn_by_two-rest.result c.requires.chain.0 c.requires.chain.1 c.requires.to c.requires.apart c.turn_by_two-rest.ensures.updates c.turn_by_two-rest.ensures.spares c.turn_by_two-rest.ensures.answer).front

pub returns-clause-apart : goal.returns-clause-apart
returns-clause-apart c = (turned c.args.elements.now c.turn_by_two-rest.new.self c.args.self.now c.args.to.now c.args.one c.args.other c.turn_by_two-rest.result c.requires.chain.0 c.requires.chain.1 c.requires.to c.requires.apart c.turn_by_two-rest.ensures.updates c.turn_by_two-rest.ensures.spares c.turn_by_two-rest.ensures.answer).apart

pub returns-clause-owned : goal.returns-clause-owned
returns-clause-owned c = (turned c.args.elements.now c.turn_by_two-rest.new.self c.args.self.now c.args.to.now c.args.one c.args.other c.turn_by_two-rest.result c.requires.chain.0 c.requires.chain.1 c.requires.to c.requires.apart c.turn_by_two-rest.ensures.updates c.turn_by_two-rest.ensures.spares c.turn_by_two-rest.ensures.answer).leaves
