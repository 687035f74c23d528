use Rattle.storage_changes.proofs.MapListsShown.{extents_are_shown, free_areas_are_shown, extents_end_in_regions, free_areas_end_in_regions}
use Rattle.storage_changes.proofs.maps.runs_are_shown.Goals as goal

pub returns-clause-extents : goal.returns-clause-extents
returns-clause-extents c = extents_are_shown

pub returns-clause-areas : goal.returns-clause-areas
returns-clause-areas c = free_areas_are_shown

pub returns-clause-extents_end : goal.returns-clause-extents_end
returns-clause-extents_end c = extents_end_in_regions

pub returns-clause-areas_end : goal.returns-clause-areas_end
returns-clause-areas_end c = free_areas_end_in_regions
