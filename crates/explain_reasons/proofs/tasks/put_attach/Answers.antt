use Rattle.vsm_model.specs.declared.causes.Cause.TheVariants.{BadList, NotAssigned, NotOwner, TooManyTasks}
use Rattle.storage_core.specs.Meaning.{state_of}
use Rattle.explain_reasons.specs.Told.{attach_text}
use Rattle.explain_reasons.proofs.Refused.{text_of}
use Rattle.explain_reasons.proofs.tasks.put_attach.Goals as goal

pub returns-in-TooManyTasks : goal.returns-in-TooManyTasks
returns-in-TooManyTasks g c = text_of _ _ _ _ (attach_text (state_of c.args.storage.now) c.args.a) c.args.cause TooManyTasks c.in-TooManyTasks.is c.put_task_count.ensures

pub returns-in-NotAssigned : goal.returns-in-NotAssigned
returns-in-NotAssigned g c = text_of _ _ _ _ (attach_text (state_of c.args.storage.now) c.args.a) c.args.cause NotAssigned c.in-NotAssigned.is c.put_text.ensures.text

pub returns-in-BadList : goal.returns-in-BadList
returns-in-BadList g c = text_of _ _ _ _ (attach_text (state_of c.args.storage.now) c.args.a) c.args.cause BadList c.in-BadList.is c.put_lists.ensures

pub returns-in-NotOwner : goal.returns-in-NotOwner
returns-in-NotOwner g c = text_of _ _ _ _ (attach_text (state_of c.args.storage.now) c.args.a) c.args.cause NotOwner c.in-NotOwner.is c.put_lists-in-NotOwner.ensures
