use Rattle.cell_pool.proofs.NoteLemmas.{a_row, noted_less}
use Rattle.cell_pool.proofs.used.strike.Goals as goal

pub remove-requires-clause-there : goal.remove-requires-clause-there
remove-requires-clause-there c = a_row c.args.elements.now c.args.used.now c.requires.table c.args.address c.requires.there

pub returns-clause-noted : goal.returns-clause-noted
returns-clause-noted c = noted_less c.args.elements.now c.remove.new.elements c.args.used.now c.remove.new.self c.requires.table c.remove.ensures.table c.args.address c.remove.ensures.rows
