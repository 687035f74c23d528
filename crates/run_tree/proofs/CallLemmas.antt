-- A run that is replaced, at a place.
use Rattle.std.proofs.Common.{◌≡◌, ℕ, suc, ◌+◌, ◌<◌, List, ◌∷◌, ◌++◌, take, drop, sym, ap, ◌∙◌, arith, subst}
use Rattle.std.proofs.lemmas.List.{set_split}
use Rattle.vsm_elements.specs.Store.{Store, among}
use Rattle.vsm_elements.specs.Ownership.{Leaves}
use Rattle.vsm_elements.proofs.ChainLemmas.{not_both}
use Rattle.run_tree.specs.declared.run.Run.{Run}
use Rattle.run_tree.specs.declared.tree.RunTree.{RunTree}
use Rattle.run_tree.specs.Trees.{runs, owned, IsTree, Writes}
use Rattle.run_tree.proofs.TreeLemmas.{length-tree}

-- what replacing the run at one place does to the list
pub set_parts : (s t : Store) (h : RunTree) (k : ℕ) (run : Run) → IsTree s h → k < h.count → Writes s t h k run → runs t h ≡ take k (runs s h) ++ run ∷ drop (k + 1) (runs s h)
set_parts s t h k run tree low w =
    let e : suc k ≡ k + 1 = omega arith in
    w.are ∙ set_split (runs s h) k run (omega (arith, low, length-tree s h tree)) ∙ ap (λ (j : ℕ). take k (runs s h) ++ run ∷ drop j (runs s h)) e

pub set_leaves : (s t : Store) (h : RunTree) (k : ℕ) (run : Run) → Writes s t h k run → Leaves s t (owned s h) (owned t h)
set_leaves s t h k run w =
    let P : List ℕ → Type 0 = λ x. Leaves s t (owned s h) x in
    subst P (sym w.own) (record {
      others = λ i p q. w.others i p;
      gained = λ i p q. absurd (not_both (among i (owned s h)) q p);
      lost = λ i p q. absurd (not_both (among i (owned s h)) p q);
      spare = omega (arith, w.spare);
      as_many = w.as_many;
    })
