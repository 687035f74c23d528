use Rattle.explain_list.proofs.CauseTexts.{failed_puts}
use Rattle.explain_list.proofs.causes.fail.Goals as goal

pub returns : goal.returns
returns g c = λ more. failed_puts _ _ c.args.gathered.now c.args.failed c.hand_out.result more c.requires c.hand_out.ensures.writes
