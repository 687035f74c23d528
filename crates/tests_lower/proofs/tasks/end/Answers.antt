use Rattle.std.proofs.Common.{ℕ, List, []}
use Rattle.vsm_elements.specs.Store.{among}
use Rattle.vsm_elements.specs.Ownership.{Apart}
use Rattle.vsm_elements.proofs.ChainFrame.{false_if}
use Rattle.row_table.proofs.RowLemmas.{not_both}
use Rattle.task_tree.specs.TaskTree.{owned, parked_owned}
use Rattle.tests_lower.proofs.tasks.end.Goals as goal

turned : (xs ys : List ℕ) → Apart xs ys → Apart ys xs
turned xs ys h i m = false_if (among i xs) (λ k. not_both (among i ys) m (h i k))

pub returns : goal.returns
returns g c =
    (c.trees_stay.ensures c.park_subtree-parked.new.elements c.discard.new.elements (parked_owned c.park_subtree-parked.new.elements c.park_subtree-parked.result) [] c.park_subtree-parked.new.self c.discard.ensures.owned c.park_subtree-parked.ensures.tree
    (turned (owned c.park_subtree-parked.new.elements c.park_subtree-parked.new.self) (parked_owned c.park_subtree-parked.new.elements c.park_subtree-parked.result) c.park_subtree-parked.ensures.apart)).0
