use Rattle.vsm_model.specs.declared.causes.Cause.TheVariants.{NoCellPool, NotInUse}
use Rattle.storage_core.specs.Meaning.{state_of}
use Rattle.explain_reasons.specs.Told.{free_cell_text}
use Rattle.explain_reasons.proofs.Refused.{text_of}
use Rattle.explain_reasons.proofs.refusals.put_freed.Goals as goal

pub returns-in-NoCellPool : goal.returns-in-NoCellPool
returns-in-NoCellPool g c = text_of _ _ _ _ (free_cell_text (state_of c.args.storage.now) c.args.asked.0.now c.args.asked.1) c.args.cause NoCellPool c.in-NoCellPool.is c.put_no_pool.ensures

pub returns-in-NotInUse : goal.returns-in-NotInUse
returns-in-NotInUse g c = text_of _ _ _ _ (free_cell_text (state_of c.args.storage.now) c.args.asked.0.now c.args.asked.1) c.args.cause NotInUse c.in-NotInUse.is c.put_not_in_use.ensures
