use Rattle.std.proofs.Common.{sym}
use Rattle.storage_swap.proofs.SubpoolLemmas.{exchanges-as}
use Rattle.storage_swap.proofs.storage.Parts.exchange_words.Goals as goal

pub returns-in-Some-clause-exchanges : goal.returns-in-Some-clause-exchanges
returns-in-Some-clause-exchanges c = exchanges-as c.args.self.now _ c.args.given.now c.args.given.now c.args.parked.now c.args.parked.now _ _ (sym c.in-Some.ensures.record_is)
    (c.exchange_register-turned.ensures.exchanges c.args.given.now c.args.parked.now c.requires.stands)

pub returns-in-Some-in_words-clause-exchanges : goal.returns-in-Some-in_words-clause-exchanges
returns-in-Some-in_words-clause-exchanges c = exchanges-as c.args.self.now _ c.args.given.now c.args.given.now c.args.parked.now c.args.parked.now _ _ (sym c.in-Some-in_words.ensures.record_is)
    (c.exchange_area.ensures c.args.given.now c.args.parked.now c.requires.stands)

pub returns-in-Some-in_words-2-clause-exchanges : goal.returns-in-Some-in_words-2-clause-exchanges
returns-in-Some-in_words-2-clause-exchanges c = exchanges-as c.args.self.now _ c.args.given.now c.args.given.now c.args.parked.now c.args.parked.now _ _ (sym c.in-Some-in_words-2.ensures.record_is)
    (c.exchange_obtain-turned.ensures.exchanges c.args.given.now c.args.parked.now c.requires.stands)
