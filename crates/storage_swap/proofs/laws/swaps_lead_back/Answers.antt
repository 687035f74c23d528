use Rattle.storage_swap.proofs.BackLemmas.{swaps-lead-back}
use Rattle.storage_swap.proofs.laws.swaps_lead_back.Goals as goal

pub returns : goal.returns
returns c = swaps-lead-back
