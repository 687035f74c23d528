use Rattle.std.proofs.Common.{sym}
use Rattle.operand_texts.proofs.Names.{name_ascii}
use Rattle.operand_texts.proofs.Spelling.{upper_named}
use Rattle.operand_texts.proofs.values.value_of.Goals as goal

pub upper_name-requires-clause-ascii : goal.upper_name-requires-clause-ascii
upper_name-requires-clause-ascii c = name_ascii c.args.text.now (sym c.if-is_name.ensures)

pub returns-then-is_name-clause-valid : goal.returns-then-is_name-clause-valid
returns-then-is_name-clause-valid c = rw c.upper_name.ensures (upper_named c.args.text.now (sym c.if-is_name.ensures))
