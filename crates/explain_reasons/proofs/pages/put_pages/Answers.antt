use Rattle.std.proofs.Common.{ap}
use Rattle.storage_core.specs.Meaning.{state_of}
use Rattle.explain_reasons.specs.Pages.{ends_text}
use Rattle.explain_text.proofs.Alike.{alike}
use Rattle.explain_reasons.proofs.pages.put_pages.Goals as goal

pub returns : goal.returns
returns g c = alike _ _ _ _ _ _ (ap (ends_text (state_of c.args.storage.now) c.args.address) c.last_byte.ensures) c.put_ends.ensures
