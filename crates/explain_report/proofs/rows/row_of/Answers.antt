use Rattle.std.proofs.Common.{ap}
use Rattle.explain_report.specs.declared.tallies.Tally.{Tally}
use Rattle.explain_report.proofs.rows.row_of.Goals as goal

pub returns-clause-low_pages : goal.returns-clause-low_pages
returns-clause-low_pages c = ap (λ (t : Tally). t.total) c.extents_of-extents.ensures.low

pub returns-clause-high_pages : goal.returns-clause-high_pages
returns-clause-high_pages c = ap (λ (t : Tally). t.total) c.extents_of-extents.ensures.high
