use Rattle.cell_pool.proofs.NoteLemmas.{no_row, noted_more}
use Rattle.cell_pool.proofs.used.note.Goals as goal

pub insert-requires-clause-absent : goal.insert-requires-clause-absent
insert-requires-clause-absent c = no_row c.args.elements.now c.args.used.now c.requires.table c.args.address c.requires.absent

pub returns-clause-noted : goal.returns-clause-noted
returns-clause-noted c = noted_more c.args.elements.now c.insert.new.elements c.args.used.now c.insert.new.self c.requires.table c.insert.ensures.table c.args.address _ c.insert.ensures.rows
