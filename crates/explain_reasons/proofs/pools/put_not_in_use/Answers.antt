use Rattle.std.proofs.Common.{ap}
use Rattle.explain_reasons.specs.Cells.{unused_text}
use Rattle.explain_text.proofs.Alike.{alike}
use Rattle.explain_reasons.proofs.pools.put_not_in_use.Goals as goal

pub returns : goal.returns
returns g c = alike _ _ _ _ _ _ (ap (unused_text c.args.cell) c.is_free.ensures) c.put_unused.ensures
