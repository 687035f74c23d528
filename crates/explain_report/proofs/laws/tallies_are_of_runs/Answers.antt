use Rattle.explain_report.proofs.TallyLemmas.{tallies_are_of_runs}
use Rattle.explain_report.proofs.laws.tallies_are_of_runs.Goals as goal

pub returns : goal.returns
returns c = tallies_are_of_runs
