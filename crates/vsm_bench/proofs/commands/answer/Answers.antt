use Rattle.std.proofs.Common.{rules}
use Rattle.vsm_bench.proofs.commands.answer.Goals as goal

pub returns-in-DisplayHelp : goal.returns-in-DisplayHelp
returns-in-DisplayHelp c = search rules
