use Rattle.storage_swap.specs.WholeFresh.{fresh-storages-are-whole}
use Rattle.storage_swap.proofs.history.fresh_storages_are_whole.Goals as goal

pub returns : goal.returns
returns c = fresh-storages-are-whole
