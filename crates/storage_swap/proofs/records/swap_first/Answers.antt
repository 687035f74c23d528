use Rattle.std.proofs.Common.{◌≡◌, ℕ, List, ◌∷◌, refl, ap, ◌∙◌}
use Rattle.vsm_elements.specs.Chain.{Link, links}
use Rattle.storage_changes.specs.InWords.{with_placed}
use Rattle.storage_swap.specs.Beside.{record_at}
use Rattle.storage_swap.proofs.FirstLemmas.{some-first, first-is, first-asks, first-chain, done-chain, both-apart, first-words, swaps-any}
use Rattle.storage_swap.proofs.records.swap_first.Goals as goal

abbrev read : ℕ → List ℕ → Link
read id words = record { id = id; words = words }

pub words-first-requires-clause-there : goal.words-first-requires-clause-there
words-first-requires-clause-there c = (0, first-is c.args.storage.now c.args.given.now c.args.parked.now c.args.records.now c.args.done.now c.requires.beside c.requires.fits)

pub exchange_words-requires-clause-fits : goal.exchange_words-requires-clause-fits
exchange_words-requires-clause-fits c = first-asks c.args.storage.now c.args.given.now c.args.parked.now c.args.records.now (read c.args.records.now.first c.words-first.result) (c.words-first.ensures 0 (first-is c.args.storage.now c.args.given.now c.args.parked.now c.args.records.now c.args.done.now c.requires.beside c.requires.fits)) c.requires.fits

pub turn_first-requires-clause-chain : goal.turn_first-requires-clause-chain
turn_first-requires-clause-chain c = first-chain c.args.storage.now c.exchange_words.new.self c.args.given.now c.exchange_words.new.given c.args.parked.now c.exchange_words.new.parked c.args.records.now c.args.done.now c.requires.beside (record_at (read c.args.records.now.first c.words-first.result)) c.exchange_words.ensures.exchanges
    (some-first c.args.storage.now.elements c.args.records.now.first c.args.records.now.count (read c.args.records.now.first c.words-first.result) (c.words-first.ensures 0 (first-is c.args.storage.now c.args.given.now c.args.parked.now c.args.records.now c.args.done.now c.requires.beside c.requires.fits)))

pub turn_first-requires-clause-to : goal.turn_first-requires-clause-to
turn_first-requires-clause-to c = done-chain c.args.storage.now c.exchange_words.new.self c.args.given.now c.exchange_words.new.given c.args.parked.now c.exchange_words.new.parked c.args.records.now c.args.done.now c.requires.beside (record_at (read c.args.records.now.first c.words-first.result)) c.exchange_words.ensures.exchanges

pub turn_first-requires-clause-apart : goal.turn_first-requires-clause-apart
turn_first-requires-clause-apart c = both-apart c.args.storage.now c.exchange_words.new.self c.args.given.now c.exchange_words.new.given c.args.parked.now c.exchange_words.new.parked c.args.records.now c.args.done.now c.requires.beside (record_at (read c.args.records.now.first c.words-first.result)) c.exchange_words.ensures.exchanges

pub turn_first_by_two-requires-clause-chain : goal.turn_first_by_two-requires-clause-chain
turn_first_by_two-requires-clause-chain c = first-chain c.args.storage.now c.exchange_words.new.self c.args.given.now c.exchange_words.new.given c.args.parked.now c.exchange_words.new.parked c.args.records.now c.args.done.now c.requires.beside (record_at (read c.args.records.now.first c.words-first.result)) c.exchange_words.ensures.exchanges
    (some-first c.args.storage.now.elements c.args.records.now.first c.args.records.now.count (read c.args.records.now.first c.words-first.result) (c.words-first.ensures 0 (first-is c.args.storage.now c.args.given.now c.args.parked.now c.args.records.now c.args.done.now c.requires.beside c.requires.fits)))

pub turn_first_by_two-requires-clause-to : goal.turn_first_by_two-requires-clause-to
turn_first_by_two-requires-clause-to c = done-chain c.args.storage.now c.exchange_words.new.self c.args.given.now c.exchange_words.new.given c.args.parked.now c.exchange_words.new.parked c.args.records.now c.args.done.now c.requires.beside (record_at (read c.args.records.now.first c.words-first.result)) c.exchange_words.ensures.exchanges

pub turn_first_by_two-requires-clause-apart : goal.turn_first_by_two-requires-clause-apart
turn_first_by_two-requires-clause-apart c = both-apart c.args.storage.now c.exchange_words.new.self c.args.given.now c.exchange_words.new.given c.args.parked.now c.exchange_words.new.parked c.args.records.now c.args.done.now c.requires.beside (record_at (read c.args.records.now.first c.words-first.result)) c.exchange_words.ensures.exchanges

pub turn_front-requires-clause-chain : goal.turn_front-requires-clause-chain
turn_front-requires-clause-chain c = first-chain c.args.storage.now c.exchange_words.new.self c.args.given.now c.exchange_words.new.given c.args.parked.now c.exchange_words.new.parked c.args.records.now c.args.done.now c.requires.beside (record_at (read c.args.records.now.first c.words-first.result)) c.exchange_words.ensures.exchanges
    (some-first c.args.storage.now.elements c.args.records.now.first c.args.records.now.count (read c.args.records.now.first c.words-first.result) (c.words-first.ensures 0 (first-is c.args.storage.now c.args.given.now c.args.parked.now c.args.records.now c.args.done.now c.requires.beside c.requires.fits)))

pub turn_front-requires-clause-to : goal.turn_front-requires-clause-to
turn_front-requires-clause-to c = done-chain c.args.storage.now c.exchange_words.new.self c.args.given.now c.exchange_words.new.given c.args.parked.now c.exchange_words.new.parked c.args.records.now c.args.done.now c.requires.beside (record_at (read c.args.records.now.first c.words-first.result)) c.exchange_words.ensures.exchanges

pub turn_front-requires-clause-apart : goal.turn_front-requires-clause-apart
turn_front-requires-clause-apart c = both-apart c.args.storage.now c.exchange_words.new.self c.args.given.now c.exchange_words.new.given c.args.parked.now c.exchange_words.new.parked c.args.records.now c.args.done.now c.requires.beside (record_at (read c.args.records.now.first c.words-first.result)) c.exchange_words.ensures.exchanges

pub returns-in-One : goal.returns-in-One
returns-in-One c =
    let front : links c.turn_first.new.elements c.turn_first.new.to
    ≡ read c.args.records.now.first (with_placed c.words-first.result c.in-One.changed) ∷ links c.exchange_words.new.self.elements c.args.done.now =
    c.turn_first.ensures.front
    ∙ ap (λ (ws : List ℕ). read c.args.records.now.first (with_placed ws c.in-One.changed) ∷ links c.exchange_words.new.self.elements c.args.done.now)
    (first-words c.args.storage.now c.exchange_words.new.self c.args.given.now c.exchange_words.new.given c.args.parked.now c.exchange_words.new.parked c.args.records.now c.args.done.now c.requires.beside (record_at (read c.args.records.now.first c.words-first.result)) c.exchange_words.ensures.exchanges (read c.args.records.now.first c.words-first.result) (c.words-first.ensures 0 (first-is c.args.storage.now c.args.given.now c.args.parked.now c.args.records.now c.args.done.now c.requires.beside c.requires.fits))) in
    swaps-any c.args.storage.now c.exchange_words.new.self c.args.given.now c.exchange_words.new.given c.args.parked.now c.exchange_words.new.parked c.args.records.now c.args.done.now c.requires.beside (record_at (read c.args.records.now.first c.words-first.result)) c.exchange_words.ensures.exchanges
    c.turn_first.new.elements c.turn_first.new.self c.turn_first.new.to (read c.args.records.now.first c.words-first.result) (read c.args.records.now.first (with_placed c.words-first.result c.in-One.changed)) (c.words-first.ensures 0 (first-is c.args.storage.now c.args.given.now c.args.parked.now c.args.records.now c.args.done.now c.requires.beside c.requires.fits)) refl
    c.in-One.ensures.turned refl c.turn_first.ensures.chain c.turn_first.ensures.rest front c.turn_first.ensures.owned c.turn_first.ensures.spares

pub returns-in-Two : goal.returns-in-Two
returns-in-Two c =
    let front : links c.turn_first_by_two.new.elements c.turn_first_by_two.new.to
    ≡ read c.args.records.now.first (with_placed (with_placed c.words-first.result c.in-Two.one) c.in-Two.other) ∷ links c.exchange_words.new.self.elements c.args.done.now =
    c.turn_first_by_two.ensures.front
    ∙ ap (λ (ws : List ℕ). read c.args.records.now.first (with_placed (with_placed ws c.in-Two.one) c.in-Two.other) ∷ links c.exchange_words.new.self.elements c.args.done.now)
    (first-words c.args.storage.now c.exchange_words.new.self c.args.given.now c.exchange_words.new.given c.args.parked.now c.exchange_words.new.parked c.args.records.now c.args.done.now c.requires.beside (record_at (read c.args.records.now.first c.words-first.result)) c.exchange_words.ensures.exchanges (read c.args.records.now.first c.words-first.result) (c.words-first.ensures 0 (first-is c.args.storage.now c.args.given.now c.args.parked.now c.args.records.now c.args.done.now c.requires.beside c.requires.fits))) in
    swaps-any c.args.storage.now c.exchange_words.new.self c.args.given.now c.exchange_words.new.given c.args.parked.now c.exchange_words.new.parked c.args.records.now c.args.done.now c.requires.beside (record_at (read c.args.records.now.first c.words-first.result)) c.exchange_words.ensures.exchanges
    c.turn_first_by_two.new.elements c.turn_first_by_two.new.self c.turn_first_by_two.new.to (read c.args.records.now.first c.words-first.result) (read c.args.records.now.first (with_placed (with_placed c.words-first.result c.in-Two.one) c.in-Two.other)) (c.words-first.ensures 0 (first-is c.args.storage.now c.args.given.now c.args.parked.now c.args.records.now c.args.done.now c.requires.beside c.requires.fits)) refl
    c.in-Two.ensures.turned refl c.turn_first_by_two.ensures.chain c.turn_first_by_two.ensures.rest front c.turn_first_by_two.ensures.owned c.turn_first_by_two.ensures.spares

pub returns-in-All : goal.returns-in-All
returns-in-All c =
    swaps-any c.args.storage.now c.exchange_words.new.self c.args.given.now c.exchange_words.new.given c.args.parked.now c.exchange_words.new.parked c.args.records.now c.args.done.now c.requires.beside (record_at (read c.args.records.now.first c.words-first.result)) c.exchange_words.ensures.exchanges
    c.turn_front.new.elements c.turn_front.new.self c.turn_front.new.to (read c.args.records.now.first c.words-first.result) (read c.args.records.now.first c.in-All.words) (c.words-first.ensures 0 (first-is c.args.storage.now c.args.given.now c.args.parked.now c.args.records.now c.args.done.now c.requires.beside c.requires.fits)) refl
    c.in-All.ensures.turned refl c.turn_front.ensures.chain c.turn_front.ensures.rest c.turn_front.ensures.front c.turn_front.ensures.owned c.turn_front.ensures.spares
