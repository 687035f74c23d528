use Rattle.std.proofs.Common.{rules}
use Rattle.vsm_bench.proofs.commands.report_fault.Goals as goal

pub returns-clause-says : goal.returns-clause-says
returns-clause-says c = search rules
