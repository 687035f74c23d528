use Rattle.std.proofs.Common.{arith}
use Rattle.std.proofs.lemmas.Bool.{ne_eqb}
use Rattle.macro_operands.proofs.KeywordTexts.{keyword_is, no_name, no_equals}
use Rattle.macro_operands.proofs.operands.keyword_len.Goals as goal
use Rattle.macro_operands.proofs.operands.keyword_len.Goals.{else-n-text-via-then-n-text+else-text-n-eq61, else-n-text-via-else-n-text}

pub returns-in_default-clause-value : goal.returns-in_default-clause-value
returns-in_default-clause-value c = no_name c.args.text.now c.in_default.ensures.value

pub returns-then-text-n-eq61-clause-value : goal.returns-then-text-n-eq61-clause-value
returns-then-text-n-eq61-clause-value c =
    keyword_is c.args.text.now c.in-Some.n c.in-Some.ensures.value c.if-n-text.true c.if-text-n-eq61.true

pub returns-else-n-text-clause-value : goal.returns-else-n-text-clause-value
returns-else-n-text-clause-value c =
    no_equals c.args.text.now c.in-Some.n c.in-Some.ensures.value
    (elim c.else-n-text.branch [
      | else-n-text-via-then-n-text+else-text-n-eq61 w ↦ λ inside. ne_eqb _ 61 w.if-text-n-eq61.false
      | else-n-text-via-else-n-text w ↦ λ inside. absurd (omega (arith, w.if-n-text.false))
    ])
