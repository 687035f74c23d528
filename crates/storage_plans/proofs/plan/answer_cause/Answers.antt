use Rattle.std.proofs.Common.{◌∙◌, sym}
use Rattle.std.proofs.Math.Logic.{∥∥₁_map}
use Rattle.storage_swap.specs.Storage.{state_of}
use Rattle.storage_plans.proofs.Carried.{four_carried_out}
use Rattle.storage_plans.proofs.plan.answer_cause.Goals as goal

pub returns-then-answers_four-clause-planned : goal.returns-then-answers_four-clause-planned
returns-then-answers_four-clause-planned c settings names_full x sound form first =
    ∥∥₁_map sound (λ h. four_carried_out settings names_full (state_of c.args.storage.now) x c.args.cause c.answer_four.result h first
    (form ∙ c.if-conditional.true) (sym c.answers_four.ensures ∙ c.if-answers_four.true)
    c.answer_four.ensures.emptied c.answer_four.ensures.records c.answer_four.ensures.blanks c.answer_four.ensures.fresh c.answer_four.ensures.reply)
