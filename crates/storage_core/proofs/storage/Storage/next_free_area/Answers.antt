use Rattle.storage_core.proofs.Walking.{area_ends}
use Rattle.storage_core.proofs.storage.Storage.next_free_area.Goals as goal

pub returns-clause-end : goal.returns-clause-end
returns-clause-end c =
    area_ends c.runs_are_shown.ensures.areas_end c.args.self.now c.args.place c.requires c.in_ok-area.area c.in_ok-area.ensures.area
