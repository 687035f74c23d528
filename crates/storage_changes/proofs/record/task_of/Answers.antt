use Rattle.std.proofs.Common.{◌==◌}
use Rattle.storage_changes.specs.Records.{word}
use Rattle.storage_changes.proofs.record.task_of.Goals as goal

pub returns : goal.returns
returns c =
    λ i. record { task = c.low_byte.ensures i; parent = c.low_byte-2.ensures i; present = word c.args.words 5 == 1 }
