use Rattle.macro_statements.proofs.AskedBy.{rest_is}
use Rattle.macro_statements.proofs.statements.head_of.Goals as goal

pub returns-clause-rest : goal.returns-clause-rest
returns-clause-rest c =
    rest_is c.args.card.now c.from_operation-from.result.now c.after_blanks.result.now c.operands_in-rest.result.now c.word_len-size.result c.operation_of-operation.result c.behind_of.result c.from_operation-from.ensures c.word_len-size.ensures.value c.operation_of-operation.ensures c.behind_of.ensures c.after_blanks.ensures.value c.operands_in-rest.ensures.value
