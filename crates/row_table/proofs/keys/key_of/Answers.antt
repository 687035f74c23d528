use Rattle.std.proofs.Common.{arith}
use Rattle.std.proofs.lemmas.Grind.{common_steps}
use Rattle.row_table.proofs.keys.key_of.Goals as goal

pub returns-clause-key : goal.returns-clause-key
returns-clause-key c = grind (arith, common_steps, c.from.ensures, c.from-2.ensures, c.from-3.ensures)
