use Rattle.std.proofs.Common.{List, ℕ, ◌∙◌, ap}
use Rattle.storage_swap.proofs.FourWords.{all-written, words-answered, four-leave}
use Rattle.storage_swap.proofs.TaskLemmas.{registers-exchanged}
use Rattle.storage_swap.proofs.storage.Parts.exchange_registers.Goals as goal

pub returns-clause-exchanges : goal.returns-clause-exchanges
returns-clause-exchanges c = λ given parked k. registers-exchanged c.args.self.now c.swap_register-fourth.new.elements c.args.r c.requires.fits.3.first c.swap_register-fourth.ensures.tree
    (λ t. c.swap_register-fourth.ensures.parents t ∙ c.swap_register-third.ensures.parents t ∙ c.swap_register-second.ensures.parents t ∙ c.swap_register-first.ensures.parents t)
    (all-written c.args.self.now.tasks c.args.self.now.elements c.swap_register-first.new.elements c.swap_register-second.new.elements c.swap_register-third.new.elements c.swap_register-fourth.new.elements
    c.args.r.task c.args.r.first c.args.r.words c.swap_register-first.ensures.words c.swap_register-second.ensures.words c.swap_register-third.ensures.words c.swap_register-fourth.ensures.words)
    (four-leave c.args.self.now.tasks c.args.self.now.elements c.swap_register-first.new.elements c.swap_register-second.new.elements c.swap_register-third.new.elements c.swap_register-fourth.new.elements
    c.swap_register-first.ensures.owned c.swap_register-second.ensures.owned c.swap_register-third.ensures.owned c.swap_register-fourth.ensures.owned)
    (c.swap_register-fourth.ensures.spares ∙ c.swap_register-third.ensures.spares ∙ c.swap_register-second.ensures.spares ∙ c.swap_register-first.ensures.spares)
    given parked k

pub returns-clause-turned : goal.returns-clause-turned
returns-clause-turned c = ap (λ (ws : List ℕ). record c.args.r { words = ws })
    (words-answered c.args.self.now.tasks c.args.self.now.elements c.swap_register-first.new.elements c.swap_register-second.new.elements c.swap_register-third.new.elements c.swap_register-fourth.new.elements
    c.args.r.task c.args.r.first c.args.r.words c.swap_register-first.ensures.words c.swap_register-second.ensures.words c.swap_register-third.ensures.words c.swap_register-fourth.ensures.words
    c.requires.fits.3.first c.swap_register-first.result c.swap_register-second.result c.swap_register-third.result c.swap_register-fourth.result
    c.swap_register-first.ensures.answer c.swap_register-second.ensures.answer c.swap_register-third.ensures.answer c.swap_register-fourth.ensures.answer)
