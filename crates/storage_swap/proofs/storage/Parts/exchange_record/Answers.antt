use Rattle.std.proofs.Common.{sym}
use Rattle.storage_swap.proofs.SubpoolLemmas.{exchanges-as}
use Rattle.storage_swap.proofs.storage.Parts.exchange_record.Goals as goal

pub returns-in-Area-clause-exchanges : goal.returns-in-Area-clause-exchanges
returns-in-Area-clause-exchanges c = exchanges-as c.args.self.now _ c.args.given.now c.args.given.now c.args.parked.now c.args.parked.now _ c.args.change (sym c.in-Area.is)
    (c.exchange_area.ensures c.args.given.now c.args.parked.now c.requires.stands)

pub returns-in-Extent-clause-exchanges : goal.returns-in-Extent-clause-exchanges
returns-in-Extent-clause-exchanges c = exchanges-as c.args.self.now _ c.args.given.now c.args.given.now c.args.parked.now c.args.parked.now _ c.args.change (sym c.in-Extent.is)
    (c.exchange_extent.ensures c.args.given.now c.args.parked.now c.requires.stands)

pub returns-in-Pages-clause-exchanges : goal.returns-in-Pages-clause-exchanges
returns-in-Pages-clause-exchanges c = exchanges-as c.args.self.now _ c.args.given.now c.exchange_pages.new.given c.args.parked.now c.args.parked.now _ c.args.change (sym c.in-Pages.is)
    (c.exchange_pages.ensures c.args.parked.now c.requires.stands)

pub returns-in-Own-clause-exchanges : goal.returns-in-Own-clause-exchanges
returns-in-Own-clause-exchanges c = exchanges-as c.args.self.now _ c.args.given.now c.args.given.now c.args.parked.now c.args.parked.now _ c.args.change (sym c.in-Own.is)
    (c.exchange_own.ensures c.args.given.now c.args.parked.now c.requires.stands)

pub returns-in-Queues-clause-exchanges : goal.returns-in-Queues-clause-exchanges
returns-in-Queues-clause-exchanges c = exchanges-as c.args.self.now _ c.args.given.now c.args.given.now c.args.parked.now c.exchange_queues.new.parked _ c.args.change (sym c.in-Queues.is)
    (c.exchange_queues.ensures.exchanges c.args.given.now)

pub returns-in-Register-clause-exchanges : goal.returns-in-Register-clause-exchanges
returns-in-Register-clause-exchanges c = exchanges-as c.args.self.now _ c.args.given.now c.args.given.now c.args.parked.now c.args.parked.now _ c.args.change (sym c.in-Register.is)
    (c.exchange_register.ensures.exchanges c.args.given.now c.args.parked.now c.requires.stands)

pub returns-in-Registers-clause-exchanges : goal.returns-in-Registers-clause-exchanges
returns-in-Registers-clause-exchanges c = exchanges-as c.args.self.now _ c.args.given.now c.args.given.now c.args.parked.now c.args.parked.now _ c.args.change (sym c.in-Registers.is)
    (c.exchange_registers.ensures.exchanges c.args.given.now c.args.parked.now c.requires.stands)

pub returns-in-Bytes-clause-exchanges : goal.returns-in-Bytes-clause-exchanges
returns-in-Bytes-clause-exchanges c = exchanges-as c.args.self.now _ c.args.given.now c.args.given.now c.args.parked.now c.args.parked.now _ c.args.change (sym c.in-Bytes.is)
    (c.exchange_bytes.ensures.exchanges c.args.given.now c.args.parked.now c.requires.stands)

pub returns-in-Task-clause-exchanges : goal.returns-in-Task-clause-exchanges
returns-in-Task-clause-exchanges c = exchanges-as c.args.self.now _ c.args.given.now c.args.given.now c.args.parked.now c.args.parked.now _ c.args.change (sym c.in-Task.is)
    (c.exchange_task.ensures.exchanges c.args.given.now c.args.parked.now c.requires.stands)

pub returns-in-Turn-clause-exchanges : goal.returns-in-Turn-clause-exchanges
returns-in-Turn-clause-exchanges c = exchanges-as c.args.self.now _ c.args.given.now c.args.given.now c.args.parked.now c.args.parked.now _ c.args.change (sym c.in-Turn.is)
    (c.exchange_turn.ensures.exchanges c.args.given.now c.args.parked.now c.requires.stands)

pub returns-in-Sharer-clause-exchanges : goal.returns-in-Sharer-clause-exchanges
returns-in-Sharer-clause-exchanges c = exchanges-as c.args.self.now _ c.args.given.now c.args.given.now c.args.parked.now c.args.parked.now _ c.args.change (sym c.in-Sharer.is)
    (c.exchange_sharer.ensures.exchanges c.args.given.now c.args.parked.now c.requires.stands)

pub returns-in-Pass-clause-exchanges : goal.returns-in-Pass-clause-exchanges
returns-in-Pass-clause-exchanges c = exchanges-as c.args.self.now _ c.args.given.now c.args.given.now c.args.parked.now c.args.parked.now _ c.args.change (sym c.in-Pass.is)
    (c.exchange_pass.ensures.exchanges c.args.given.now c.args.parked.now c.requires.stands)

pub returns-in-CellPool-clause-exchanges : goal.returns-in-CellPool-clause-exchanges
returns-in-CellPool-clause-exchanges c = exchanges-as c.args.self.now _ c.args.given.now c.args.given.now c.args.parked.now c.exchange_cell_pool.new.parked _ c.args.change (sym c.in-CellPool.is)
    (c.exchange_cell_pool.ensures.exchanges c.args.given.now)

pub returns-in-CellExtent-clause-exchanges : goal.returns-in-CellExtent-clause-exchanges
returns-in-CellExtent-clause-exchanges c = exchanges-as c.args.self.now _ c.args.given.now c.args.given.now c.args.parked.now c.args.parked.now _ c.args.change (sym c.in-CellExtent.is)
    (c.exchange_cell_extent.ensures.exchanges c.args.given.now c.args.parked.now c.requires.stands)

pub returns-in-Cell-clause-exchanges : goal.returns-in-Cell-clause-exchanges
returns-in-Cell-clause-exchanges c = exchanges-as c.args.self.now _ c.args.given.now c.args.given.now c.args.parked.now c.args.parked.now _ c.args.change (sym c.in-Cell.is)
    (c.exchange_cell.ensures.exchanges c.args.given.now c.args.parked.now c.requires.stands)

pub returns-in-Obtain-clause-exchanges : goal.returns-in-Obtain-clause-exchanges
returns-in-Obtain-clause-exchanges c = exchanges-as c.args.self.now _ c.args.given.now c.args.given.now c.args.parked.now c.args.parked.now _ c.args.change (sym c.in-Obtain.is)
    (c.exchange_obtain.ensures.exchanges c.args.given.now c.args.parked.now c.requires.stands)
