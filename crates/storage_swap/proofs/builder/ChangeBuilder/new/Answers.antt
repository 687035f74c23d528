use Rattle.std.proofs.Common.{rules}
use Rattle.storage_swap.proofs.builder.ChangeBuilder.new.Goals as goal

pub returns-clause-building : goal.returns-clause-building
returns-clause-building c = search rules
