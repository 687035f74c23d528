use Rattle.operand_texts.proofs.Parts.{decimal_number}
use Rattle.operand_texts.proofs.numbers.number_of.Goals as goal

pub returns-else-is_quoted-2 : goal.returns-else-is_quoted-2
returns-else-is_quoted-2 c =
    decimal_number c.args.text.now c.digits_number-else-is_quoted-2.result c.if-is_quoted.ensures c.if-is_quoted-2.ensures c.digits_number-else-is_quoted-2.ensures
