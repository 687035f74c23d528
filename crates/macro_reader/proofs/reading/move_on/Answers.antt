use Rattle.macro_reader.proofs.reading.move_on.Goals as goal

pub returns-in-Dropping-clause-mode : goal.returns-in-Dropping-clause-mode
returns-in-Dropping-clause-mode c = rw c.in-Dropping.is (c.behind_break.ensures.mode c.args.statement.now)
