use Rattle.task_plans.proofs.SightLemmas.{seen_whole}
use Rattle.task_plans.proofs.sights.first_seen.Goals as goal

pub returns : goal.returns
returns c = λ m top. seen_whole m top
