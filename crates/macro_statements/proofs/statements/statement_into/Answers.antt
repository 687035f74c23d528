use Rattle.operand_texts.specs.Field.{operands}
use Rattle.macro_statements.proofs.AskedBy.{stated_by}
use Rattle.macro_statements.proofs.RequestTexts.{left_is_valid}
use Rattle.macro_statements.proofs.statements.statement_into.Goals as goal

pub returns-clause-valid : goal.returns-clause-valid
returns-clause-valid c = left_is_valid c.in-Some.operation (operands c.args.text.now) c.asked_of.result c.asked_of.new.request c.asked_of.ensures

pub returns-clause-value : goal.returns-clause-value
returns-clause-value c card head =
    stated_by card c.args.text.now c.args.head.misplaced c.args.head.operation c.in-Some.operation c.args.balanced _ head.0 c.if-head.false head.1 c.in-Some.is c.requires.balanced c.if-not-balanced.false c.asked_of.ensures
