use Rattle.std.proofs.Common.{◌∙◌, sym}
use Rattle.explain_faults.proofs.operands.has_fault.Goals as goal

pub returns-clause-yes : goal.returns-clause-yes
returns-clause-yes c = λ e. sym (c.statement_with.ensures.value c.args.card.now c.head_of.ensures.head) ∙ c.is_fault.ensures.yes e

pub returns-clause-no : goal.returns-clause-no
returns-clause-no c = λ e h. c.is_fault.ensures.no e (c.statement_with.ensures.value c.args.card.now c.head_of.ensures.head ∙ h)
