use Rattle.std.proofs.Common.{rules}
use Rattle.storage_map.proofs.pools.cell_pool_name.Goals as goal

pub returns : goal.returns
returns c = search rules
