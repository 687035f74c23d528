use Rattle.vsm_model.specs.declared.causes.Cause.TheVariants.{NoTask, NotParent}
use Rattle.storage_core.specs.Meaning.{state_of}
use Rattle.explain_reasons.specs.Told.{detach_text}
use Rattle.explain_reasons.proofs.Refused.{text_of}
use Rattle.explain_reasons.proofs.tasks.put_detach.Goals as goal

pub returns-in-NoTask : goal.returns-in-NoTask
returns-in-NoTask g c = text_of _ _ _ _ (detach_text (state_of c.args.storage.now) c.args.task) c.args.cause NoTask c.in-NoTask.is c.put_no_task.ensures

pub returns-in-NotParent : goal.returns-in-NotParent
returns-in-NotParent g c = text_of _ _ _ _ (detach_text (state_of c.args.storage.now) c.args.task) c.args.cause NotParent c.in-NotParent.is c.put_parent.ensures
