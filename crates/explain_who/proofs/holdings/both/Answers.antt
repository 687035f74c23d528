use Rattle.explain_who.proofs.Walked.{are_both}
use Rattle.explain_who.proofs.holdings.both.Goals as goal

pub returns : goal.returns
returns c line rs sides = are_both line rs c.args.sums sides
