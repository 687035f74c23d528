-- That elements hold a set has at most one proof.
use Rattle.std.specs.Prelude.{ℕ, ◌+◌, List, [], ◌∷◌}
use Rattle.std.proofs.Props.{props}
use mathlib.Core.HLevel.{Unit-prop}
use Rattle.vsm_elements.specs.Store.{Store}
use Rattle.run_tree.specs.declared.run.Run.{Run}
use Rattle.run_set.specs.declared.set.RunSet.{RunSet}
use Rattle.run_set.specs.Runs.{Spaced}
use Rattle.run_tree.specs.declared.tree.RunTree.{RunTree}
use Rattle.run_tree.specs.Props.{IsTree-prop}
use Rattle.run_set.specs.Kept.{IsKept}
use Rattle.run_set.specs.RunSet.{IsRunSet}

pub Spaced-prop : (low : ℕ) (rs : List Run) → IsProp (Spaced low rs)
Spaced-prop low [] = Unit-prop
Spaced-prop low (r ∷ rs) = hlevel (Spaced-prop (r.start + r.len + 1) rs, props)

IsKept-prop : (s : Store) (t : RunTree) → IsProp (IsKept s t)
IsKept-prop s t = hlevel (IsTree-prop, Spaced-prop, props)

pub IsRunSet-prop : (s : Store) (q : RunSet) → IsProp (IsRunSet s q)
unfolding IsRunSet
IsRunSet-prop s q = IsKept-prop s q.tree
