use Rattle.storage_plans.proofs.BytesRead.{loaded, not_loaded}
use Rattle.storage_plans.proofs.reading.load.Goals as goal

pub returns-in-Ok-clause-ok : goal.returns-in-Ok-clause-ok
returns-in-Ok-clause-ok c = loaded c.args.storage.now c.requires c.args.out.now c.load.new.out c.args.address c.in-Ok.ensures.ok

pub returns-in-Err-clause-err : goal.returns-in-Err-clause-err
returns-in-Err-clause-err c = not_loaded c.args.storage.now c.requires _ c.args.address c.in-Err.field-0.0 c.in-Err.ensures.err
