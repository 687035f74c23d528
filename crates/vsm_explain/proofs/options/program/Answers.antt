use Rattle.std.proofs.Common.{rules}
use Rattle.vsm_explain.proofs.options.program.Goals as goal

pub returns : goal.returns
returns c = search rules
