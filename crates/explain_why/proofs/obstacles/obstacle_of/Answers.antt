use Rattle.std.proofs.Common.{sym, true, true≢false, ◌∙◌}
use Rattle.explain_why.proofs.obstacles.obstacle_of.Goals as goal

pub returns-else-valid : goal.returns-else-valid
returns-else-valid c = λ written. absurd (true≢false (sym (c.valid.ensures.1 written) ∙ c.if-valid.false))
