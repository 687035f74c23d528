use Rattle.std.proofs.Common.{refl}
use Rattle.task_tree.proofs.moves.first_words.Goals as goal

pub returns : goal.returns
returns c = refl
