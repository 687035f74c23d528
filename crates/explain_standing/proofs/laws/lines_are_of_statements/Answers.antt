use Rattle.explain_standing.proofs.LineLemmas.{lines_are_of_statements}
use Rattle.explain_standing.proofs.laws.lines_are_of_statements.Goals as goal

pub returns : goal.returns
returns c = λ settings. lines_are_of_statements settings
