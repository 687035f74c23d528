-- The set without runs.
use Rattle.std.proofs.Common.{◌≡◌, List, [], sym, subst}
use Rattle.vsm_elements.specs.Store.{Store}
use Rattle.run_tree.specs.declared.run.Run.{Run}
use Rattle.run_tree.specs.declared.tree.RunTree.{RunTree}
use Rattle.run_tree.specs.Trees.{IsTree}
use Rattle.run_set.specs.Runs.{Spaced}
use Rattle.run_set.specs.Kept.{runs_of, IsKept}

pub kept_empty : (t : RunTree) → ((s : Store) → IsTree s t) → ((s : Store) → runs_of s t ≡ []) → (s : Store) → IsKept s t
kept_empty t tree empty s =
    let P : List Run → Type 0 = Spaced 0 in
    record { tree = tree s; spaced = subst P (sym (empty s)) tt }
