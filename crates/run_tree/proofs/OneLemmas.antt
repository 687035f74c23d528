-- A tree of one run.
use Rattle.std.proofs.Common.{◌≡◌, ℕ, ◌+◌, List, [], ◌∷◌, ◌++◌, false, length, set, Option, Some, None, refl, sym, ap, ◌∙◌, arith, IsSome, subst}
use Rattle.std.proofs.lemmas.List.{nil_from_length}
use Rattle.vsm_elements.specs.declared.element.Element.{Element}
use Rattle.vsm_elements.specs.Store.{Store, at, among}
use Rattle.vsm_elements.proofs.ChainLemmas.{not_both}
use Rattle.run_tree.specs.declared.run.Run.{Run}
use Rattle.run_tree.specs.declared.tree.RunTree.{RunTree}
use Rattle.run_tree.specs.declared.shape.RunNode.{RunNode}
use Rattle.run_tree.specs.Trees.{runs, owned, IsTree, Opens, Joins, Writes}
use Rattle.run_tree.proofs.TreeLemmas.{opened, opens, top_live, none_owned, length-tree}

only : (rs : List Run) (run : Run) → length rs ≡ 1 → set rs 0 run ≡ run ∷ []
only [] run e = absurd (omega (arith, e))
only (r ∷ rs) run e = ap (λ (xs : List Run). run ∷ xs) (nil_from_length rs (omega (arith, e)))

module _ (s : Store) (h : RunTree) (tree : IsTree s h) (one : h.count ≡ 1) where
  -- its element is its top
  pub owned_one : owned s h ≡ h.root ∷ []
  owned_one = go (at s h.root) refl (top_live s h tree (omega (arith, one))) where
    go : (o : Option Element) → at s h.root ≡ o → IsSome o → owned s h ≡ h.root ∷ []
    go None e live = absurd (not_both false live refl)
    go (Some x) e live =
        let n : RunNode = opened h x in
        let o : Opens s h n = opens s h x tree (omega (arith, one)) e in
        o.own
        ∙ ap (λ (xs : List ℕ). xs ++ n.id ∷ owned s n.right) (none_owned s n.left o.left (omega (arith, one, o.count)))
        ∙ ap (λ (xs : List ℕ). n.id ∷ xs) (none_owned s n.right o.right (omega (arith, one, o.count)))

  pub writes_one : (t : Store) (none : RunTree) (run : Run) → none.count ≡ 0 → runs s none ≡ [] → owned s none ≡ []
      → Joins s t none h.root run none (record { root = h.root; count = none.count + none.count + 1 }) → Writes s t h 0 run
  writes_one t none run zero no_runs nothing up =
      let count : none.count + none.count + 1 ≡ h.count = omega (arith, zero, one) in
      let is : ◌≡◌ {A = RunTree} (record { root = h.root; count = none.count + none.count + 1 }) h = ap (λ (c : ℕ). record { root = h.root; count = c }) count in
      let P : RunTree → Type 0 = Joins s t none h.root run none in
      let j : Joins s t none h.root run none h = subst P is up in
      record {
        tree = j.tree;
        are = j.are ∙ ap (λ (xs : List Run). xs ++ run ∷ xs) no_runs ∙ sym (only (runs s h) run (length-tree s h tree ∙ one));
        own = j.own ∙ ap (λ (xs : List ℕ). xs ++ h.root ∷ xs) nothing ∙ sym owned_one;
        others = λ i out. j.others i (ap (among i) (sym owned_one) ∙ out);
        spare = j.spare;
        as_many = j.as_many;
      }

  pub live_one : IsSome (at s h.root)
  live_one = top_live s h tree (omega (arith, one))
