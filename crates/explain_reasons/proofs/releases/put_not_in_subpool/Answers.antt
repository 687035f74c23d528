use Rattle.std.proofs.Common.{ap}
use Rattle.storage_core.specs.Meaning.{settings_of, state_of}
use Rattle.explain_reasons.specs.Releases.{outside_text}
use Rattle.explain_text.proofs.Alike.{alike}
use Rattle.explain_reasons.proofs.releases.put_not_in_subpool.Goals as goal

pub returns : goal.returns
returns g c =
    let s = c.args.storage.now in
    alike _ _ _ _ _ _ (ap (outside_text (settings_of s) (state_of s) c.args.r) c.seen.ensures) c.put_outside.ensures
