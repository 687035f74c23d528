use Rattle.std.proofs.Common.{sym}
use Rattle.operand_texts.proofs.Names.{name_ascii}
use Rattle.macro_operands.proofs.lengths.name_of.Goals as goal

pub upper_name-requires-clause-ascii : goal.upper_name-requires-clause-ascii
upper_name-requires-clause-ascii c = name_ascii c.args.text.now (sym c.if-is_name.ensures)
