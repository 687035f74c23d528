use Rattle.std.proofs.Common.{ap}
use Rattle.storage_core.specs.Meaning.{state_of}
use Rattle.explain_reasons.specs.Releases.{untaken_text}
use Rattle.explain_text.proofs.Alike.{alike}
use Rattle.explain_reasons.proofs.releases.put_overlaps_free.Goals as goal

pub returns : goal.returns
returns g c = alike _ _ _ _ _ _ (ap (untaken_text (state_of c.args.storage.now) c.args.r) c.seen.ensures) c.put_untaken.ensures
