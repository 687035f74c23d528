use Rattle.std.proofs.Common.{sym, ◌∙◌}
use Rattle.operand_texts.proofs.Names.{name_begins}
use Rattle.operand_texts.proofs.words.name_len.Goals as goal

pub returns-then-is_letter-clause-value : goal.returns-then-is_letter-clause-value
returns-then-is_letter-clause-value c =
    name_begins c.args.text.now c.name_bytes-n.result c.name_bytes-n.ensures.value c.if-n-ge1.true c.if-n-le63.true (sym c.is_letter.ensures ∙ c.if-is_letter.true)
