use Rattle.std.proofs.Common.{refl}
use Rattle.vsm_model.specs.declared.causes.Cause.TheVariants.{NoCellPool, NoStorage, TooManyNames}
use Rattle.storage_core.specs.Meaning.{state_of}
use Rattle.explain_reasons.specs.Told.{IsGetTold, get_text}
use Rattle.explain_reasons.proofs.Refused.{one_of}
use Rattle.explain_reasons.proofs.refusals.put_get.Goals as goal

pub returns-in-NoCellPool : goal.returns-in-NoCellPool
returns-in-NoCellPool g c = one_of _ _ _ _ (IsGetTold (state_of c.args.storage.now) c.args.asked.0.now c.args.asked.1) c.args.cause NoCellPool (get_text (state_of c.args.storage.now) c.args.asked.0.now NoCellPool) c.in-NoCellPool.is refl c.put_no_pool.ensures

pub returns-in-TooManyNames : goal.returns-in-TooManyNames
returns-in-TooManyNames g c = one_of _ _ _ _ (IsGetTold (state_of c.args.storage.now) c.args.asked.0.now c.args.asked.1) c.args.cause TooManyNames (get_text (state_of c.args.storage.now) c.args.asked.0.now TooManyNames) c.in-TooManyNames.is refl c.put_names_full.ensures

pub returns-in-NoStorage : goal.returns-in-NoStorage
returns-in-NoStorage g c =
    let (text, says, h) = c.put_no_cell.ensures in
    one_of _ _ _ _ (IsGetTold (state_of c.args.storage.now) c.args.asked.0.now c.args.asked.1) c.args.cause NoStorage text c.in-NoStorage.is says h
