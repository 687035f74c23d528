use Rattle.std.proofs.Common.{arith}
use Rattle.explain_standing.specs.NumberMaps.{number_in}
use Rattle.explain_findings.proofs.HomePages.{high_unassigned}
use Rattle.explain_findings.proofs.homes.home_at.Goals as goal

pub returns-then-word-ge-WORDS : goal.returns-then-word-ge-WORDS
returns-then-word-ge-WORDS c = high_unassigned c.args.storage.now (number_in c.args.lines.now) c.args.word (omega (arith, c.if-word-ge-WORDS.true))
