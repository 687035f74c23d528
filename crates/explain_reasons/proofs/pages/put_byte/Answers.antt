use Rattle.std.proofs.Common.{ap}
use Rattle.explain_reasons.specs.Pages.{page_text}
use Rattle.explain_text.proofs.Alike.{alike}
use Rattle.explain_reasons.proofs.pages.put_byte.Goals as goal

pub returns : goal.returns
returns g c = alike _ _ _ _ _ _ (ap (page_text c.args.address) c.subpool_of_page-subpool.ensures) c.put_page.ensures
