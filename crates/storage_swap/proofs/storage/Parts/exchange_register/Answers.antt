use Rattle.storage_swap.proofs.TaskLemmas.{register-exchanged}
use Rattle.storage_swap.proofs.storage.Parts.exchange_register.Goals as goal

pub returns-clause-exchanges : goal.returns-clause-exchanges
returns-clause-exchanges c = λ given parked k. register-exchanged c.args.self.now c.swap_register-word.new.elements c.args.r c.requires.fits.3.register c.swap_register-word.ensures.tree c.swap_register-word.ensures.parents
    c.swap_register-word.ensures.words c.swap_register-word.ensures.owned c.swap_register-word.ensures.spares given parked k
