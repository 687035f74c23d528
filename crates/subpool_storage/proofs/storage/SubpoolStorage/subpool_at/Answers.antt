use Rattle.std.proofs.Common.{Some, None, ap, ◌∙◌}
use Rattle.subpool_storage.proofs.PlaceLemmas.{at_named}
use Rattle.subpool_storage.proofs.storage.SubpoolStorage.subpool_at.Goals as goal

pub returns : goal.returns
returns c = ap Some c.subpool_of.ensures ∙ at_named c.args.elements.now c.args.self.now c.requires c.args.i (Some c.in_ok-id.id) c.in_ok-id.ensures.at

pub returns-in_err-id : goal.returns-in_err-id
returns-in_err-id c = c.from_residual.ensures ∙ at_named c.args.elements.now c.args.self.now c.requires c.args.i None c.in_err-id.ensures.at
