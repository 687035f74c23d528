use Rattle.std.proofs.Common.{arith, ap, ◌∙◌}
use Rattle.std.specs.Prelude.{unwrap_or}
use Rattle.vsm_model.specs.Names.{NamedState}
use Rattle.explain_standing.specs.NumberMaps.{number_in}
use Rattle.explain_standing.specs.Since.{began_since, machine_after}
use Rattle.explain_standing.specs.Since.{asker, has_ended}
use Rattle.explain_standing.proofs.TaskEnds.{same_ended}
use Rattle.explain_standing.proofs.carried.Carried.asker_of.Goals as goal

pub returns : goal.returns
returns c = λ settings xs carried.
    let line = c.args.line in
    let births = number_in c.args.self.now.births in
    let s = (machine_after settings xs).storage in
    let task_is = c.unwrap_or-task.ensures ∙ ap (λ o. unwrap_or o 0) (c.number.ensures ∙ carried.askers line (omega arith)) in (
      task_is,
      c.has_ended.ensures
          ∙ ap (λ k. has_ended k c.number-began.result c.unwrap_or-task.result line) (c.storage.ensures.state ∙ ap (λ (k : NamedState). k.storage) carried.present)
          ∙ ap (λ o. has_ended s o c.unwrap_or-task.result line) c.number-began.ensures
          ∙ ap (λ t. has_ended s (births t) t line) task_is
          ∙ same_ended s (births (asker settings xs line)) (began_since settings xs (asker settings xs line)) (asker settings xs line) line (carried.births (asker settings xs line)),
    )
