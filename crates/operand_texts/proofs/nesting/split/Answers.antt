use Rattle.std.proofs.Common.{arith}
use Rattle.operand_texts.specs.Field.{outside}
use Rattle.operand_texts.proofs.Split.{first_at, last_of}
use Rattle.operand_texts.proofs.nesting.split.Goals as goal

pub returns-then-n-text-clause-operands : goal.returns-then-n-text-clause-operands
returns-then-n-text-clause-operands c = first_at c.args.text.now c.operand_len-n.result c.operand_len-n.ensures.value c.if-n-text.true

pub returns-else-n-text-clause-operands : goal.returns-else-n-text-clause-operands
returns-else-n-text-clause-operands c = last_of outside c.args.text.now (omega arith)
