use Rattle.storage_swap.specs.Storage.{walk_of}
use Rattle.storage_swap.proofs.CellLemmas.{pool-exchanged, pool-single}
use Rattle.storage_swap.proofs.storage.Parts.exchange_cell_pool.Goals as goal

pub exchange_pool-requires-clause-single : goal.exchange_pool-requires-clause-single
exchange_pool-requires-clause-single c = pool-single (walk_of c.args.self.now c.requires.fits.0 c.args.parked.now c.requires.fits.1) c.args.r c.requires.fits.2

pub returns-clause-exchanges : goal.returns-clause-exchanges
returns-clause-exchanges c = λ given. pool-exchanged c.args.self.now c.args.parked.now c.requires.stands c.exchange_pool.new.elements c.exchange_pool.new.self c.exchange_pool.new.others
    c.exchange_pool.ensures.stands c.exchange_pool.ensures.others c.exchange_pool.ensures.moves c.exchange_pool.ensures.apart c.exchange_pool.ensures.spares c.exchange_pool.ensures.as_many
    c.args.r c.exchange_pool.ensures.subpools c.exchange_pool.ensures.other_subpools given
