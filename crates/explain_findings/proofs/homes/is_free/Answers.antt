use Rattle.std.proofs.Common.{◌∙◌}
use Rattle.explain_findings.proofs.HomePages.{free_in_place}
use Rattle.explain_findings.proofs.homes.is_free.Goals as goal

pub returns : goal.returns
returns c = c.is_free.ensures ∙ free_in_place c.args.storage.now c.args.subpool c.args.doubleword
