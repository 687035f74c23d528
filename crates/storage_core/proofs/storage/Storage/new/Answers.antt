use Rattle.storage_core.proofs.Holding.{fresh_is_held}
use Rattle.storage_core.proofs.storage.Storage.new.Goals as goal

pub invariant_of-result : goal.invariant_of-result
invariant_of-result c = record {
  held = fresh_is_held c.first_is_first.ensures c.args.settings c.in_ok-parts.parts c.requires c.in_ok-parts.ensures;
}
