use Rattle.storage_changes.proofs.MapUnassigned.{unassigned_are_shown, unassigned_end_in_regions, unassigned_are_one}
use Rattle.storage_changes.proofs.maps.unassigned_are_shown.Goals as goal

pub returns-clause-shown : goal.returns-clause-shown
returns-clause-shown c = unassigned_are_shown

pub returns-clause-end : goal.returns-clause-end
returns-clause-end c = unassigned_end_in_regions

pub returns-clause-one : goal.returns-clause-one
returns-clause-one c = unassigned_are_one
