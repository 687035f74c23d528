use Rattle.std.proofs.Common.{ap, ◌∙◌}
use Rattle.vsm_model.specs.declared.causes.Cause.TheVariants.{HasSubtask, NotParent}
use Rattle.storage_core.specs.Meaning.{state_of}
use Rattle.explain_reasons.specs.Told.{end_text}
use Rattle.explain_reasons.specs.Tasks.{not_parent_text}
use Rattle.explain_text.proofs.Alike.{alike}
use Rattle.explain_reasons.proofs.Refused.{text_of}
use Rattle.explain_reasons.proofs.tasks.put_end.Goals as goal

pub returns-in-HasSubtask : goal.returns-in-HasSubtask
returns-in-HasSubtask g c = text_of _ _ _ _ (end_text (state_of c.args.storage.now)) c.args.cause HasSubtask c.in-HasSubtask.is c.put_subtask.ensures

pub returns-in-NotParent : goal.returns-in-NotParent
returns-in-NotParent g c = text_of _ _ _ _ (end_text (state_of c.args.storage.now)) c.args.cause NotParent c.in-NotParent.is
    (alike _ _ _ _ _ _ (ap (not_parent_text (state_of c.args.storage.now)) (c.from-current.ensures ∙ c.current.ensures)) c.put_parent.ensures)
