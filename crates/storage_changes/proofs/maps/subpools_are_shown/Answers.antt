use Rattle.storage_changes.proofs.MapOrder.{sharers_are_shown, subpools_are_shown}
use Rattle.storage_changes.proofs.maps.subpools_are_shown.Goals as goal

pub returns-clause-sharers : goal.returns-clause-sharers
returns-clause-sharers c = sharers_are_shown

pub returns-clause-subpools : goal.returns-clause-subpools
returns-clause-subpools c = subpools_are_shown
