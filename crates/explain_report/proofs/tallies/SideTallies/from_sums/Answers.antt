use Rattle.run_set.specs.Sums.{low_runs, high_runs}
use Rattle.explain_report.proofs.tallies.SideTallies.from_sums.Goals as goal

pub returns-clause-low : goal.returns-clause-low
returns-clause-low c line rs sides = c.from_sums.ensures (low_runs line rs) sides.low

pub returns-clause-high : goal.returns-clause-high
returns-clause-high c line rs sides = c.from_sums-2.ensures (high_runs line rs) sides.high
