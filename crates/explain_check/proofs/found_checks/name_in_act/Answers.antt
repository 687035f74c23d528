use Rattle.std.proofs.Common.{[], ◌∙◌}
use Rattle.operand_texts.specs.Written.{written_in}
use Rattle.explain_check.proofs.Names.{free_name, poke_name, release_name}
use Rattle.explain_check.proofs.found_checks.name_in_act.Goals as goal

pub returns-in-FreeCell : goal.returns-in-FreeCell
returns-in-FreeCell c = rw c.in-FreeCell.is (c.name_in-in-FreeCell.ensures 0 ∙ free_name [] _ 0)

pub returns-in-Poke : goal.returns-in-Poke
returns-in-Poke c = rw c.in-Poke.is (c.name_in.ensures 0 ∙ poke_name _ _ 0)

pub returns-in-Release : goal.returns-in-Release
returns-in-Release c =
    rw c.in-Release.is
    (c.name_in-in-Release.ensures 0 ∙ release_name (written_in c.in-Release.length) _ (written_in c.in-Release.subpool) c.in-Release.form 0)
