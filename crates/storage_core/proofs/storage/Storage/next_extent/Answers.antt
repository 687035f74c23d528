use Rattle.storage_core.proofs.Walking.{extent_ends}
use Rattle.storage_core.proofs.storage.Storage.next_extent.Goals as goal

pub returns-clause-end : goal.returns-clause-end
returns-clause-end c =
    extent_ends c.runs_are_shown.ensures.extents_end c.args.self.now c.args.place c.requires c.in_ok-run.run' c.in_ok-run.ensures.run
