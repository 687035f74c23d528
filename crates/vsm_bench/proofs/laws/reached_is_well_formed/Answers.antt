use Rattle.vsm_bench.proofs.Reached.{accepted_leaves_well_formed, reached_is_well_formed, bench_is_well_formed}
use Rattle.vsm_bench.proofs.laws.reached_is_well_formed.Goals as goal

pub returns-clause-accepted : goal.returns-clause-accepted
returns-clause-accepted c = accepted_leaves_well_formed

pub returns-clause-alone : goal.returns-clause-alone
returns-clause-alone c = reached_is_well_formed

pub returns-clause-bench : goal.returns-clause-bench
returns-clause-bench c = bench_is_well_formed
