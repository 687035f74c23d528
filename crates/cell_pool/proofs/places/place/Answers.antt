use Rattle.cell_pool.proofs.CellPlaceLemmas.{no_place, placed_now}
use Rattle.cell_pool.proofs.places.place.Goals as goal

pub insert-requires-clause-absent : goal.insert-requires-clause-absent
insert-requires-clause-absent c = no_place c.args.elements.now c.args.places.now c.requires.table c.args.extent.start c.requires.absent

pub returns-clause-placed : goal.returns-clause-placed
returns-clause-placed c = placed_now c.args.elements.now c.insert.new.elements c.args.places.now c.insert.new.self c.requires.table c.insert.ensures.table c.args.extent.start _ c.insert.ensures.rows
