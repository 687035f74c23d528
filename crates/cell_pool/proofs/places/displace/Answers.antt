use Rattle.std.specs.Prelude.{None}
use Rattle.cell_pool.proofs.CellPlaceLemmas.{a_place, placed_now}
use Rattle.cell_pool.proofs.places.displace.Goals as goal

pub remove-requires-clause-there : goal.remove-requires-clause-there
remove-requires-clause-there c = a_place c.args.elements.now c.args.places.now c.requires.table c.args.start c.requires.there

pub returns-clause-placed : goal.returns-clause-placed
returns-clause-placed c = placed_now c.args.elements.now c.remove.new.elements c.args.places.now c.remove.new.self c.requires.table c.remove.ensures.table c.args.start None c.remove.ensures.rows
