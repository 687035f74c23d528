use Rattle.explain_faults.specs.Places.{first_card, further_cards}
use Rattle.explain_faults.proofs.FieldOver.{operand_caret}
use Rattle.explain_faults.proofs.carets.own_caret.Goals as goal

pub returns-then-has_fault-clause-own : goal.returns-then-has_fault-clause-own
returns-then-has_fault-clause-own c =
    let its = c.gathered_caret-caret in (
      its.ensures.card,
      operand_caret (first_card c.args.script.now c.args.lines.now) (further_cards c.args.script.now c.args.lines.now) c.args.kind its.result.0 c.text.result.now
          its.ensures.card (its.ensures.over c.if-joins.true) c.text.ensures.value (c.has_fault.ensures.yes c.if-has_fault.true) its.ensures.marks,
    )
