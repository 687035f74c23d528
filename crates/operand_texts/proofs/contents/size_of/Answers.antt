use Rattle.std.proofs.Common.{◌≡◌, ◌≤◌, ◌∙◌, ℕ, Some, ap, arith}
use Rattle.std.proofs.lemmas.Grind.{common_steps}
use Rattle.operand_texts.specs.Values.{within_size}
use Rattle.operand_texts.proofs.contents.size_of.Goals as goal

sized : (n : ℕ) → 1 ≤ n → n ≤ 256 → Some n ≡ within_size (Some n)
sized n least most = grind (arith, common_steps)

pub returns-then-matches-clause-value : goal.returns-then-matches-clause-value
returns-then-matches-clause-value c = sized c.in_ok-size.size (omega arith) (omega arith) ∙ ap within_size c.in_ok-size.ensures
