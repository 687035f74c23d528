use Rattle.std.proofs.Common.{◌∙◌}
use Rattle.vsm_explain.proofs.Whole.{zero_found}
use Rattle.vsm_explain.proofs.scripts.has_zero.Goals as goal

pub returns : goal.returns
returns c = c.is_some.ensures ∙ zero_found c.args.script.now c.memchr.result c.memchr.ensures
