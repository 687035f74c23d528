use Rattle.explain_report.proofs.TallyLemmas.{tally_is}
use Rattle.explain_report.proofs.tallies.Tally.from_sums.Goals as goal

pub returns : goal.returns
returns c rs sums = tally_is rs c.args.sums sums
