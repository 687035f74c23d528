use Rattle.vsm_machine.proofs.BackLemmas.{swaps-lead-back}
use Rattle.vsm_machine.proofs.laws.swaps_lead_back.Goals as goal

pub returns : goal.returns
returns c = swaps-lead-back
