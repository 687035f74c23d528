use Rattle.storage_core.proofs.Holding.{discarded_is_held}
use Rattle.storage_core.proofs.storage.Storage.discard.Goals as goal

pub invariant_of-self : goal.invariant_of-self
invariant_of-self c = record {
  held = discarded_is_held c.args.self.now.settings c.args.self.now.parts c.discard.new.storage c.args.change
      c.args.self.now.held c.discard.ensures;
}
