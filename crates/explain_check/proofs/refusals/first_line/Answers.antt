use Rattle.std.proofs.Common.{◌∙◌, ap}
use Rattle.explain_check.specs.Reasons.{up_to_feed}
use Rattle.explain_check.proofs.Reasons.{up_to_is}
use Rattle.explain_check.proofs.refusals.first_line.Goals as goal

pub returns-clause-line : goal.returns-clause-line
returns-clause-line c =
    up_to_is c.after_blanks-line.result.now c.before_feed.result c.before_feed.ensures.plain c.before_feed.ensures.feed ∙ ap up_to_feed c.after_blanks-line.ensures.value
