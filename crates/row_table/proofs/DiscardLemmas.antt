-- A tree that is given back.
use Rattle.std.proofs.Common.{◌≡◌, ℕ, ◌+◌, true, false, inl, inr, List, [], ◌∷◌, ◌++◌, None, refl, sym, ap, ◌∙◌, arith, IsSome, subst, length-append}
use Rattle.std.proofs.lemmas.Bool.Decides.{eqb_tells}
use Rattle.vsm_elements.specs.Store.{Store, at, among, Updates}
use Rattle.vsm_elements.specs.Ownership.{Leaves}
use Rattle.vsm_elements.proofs.StoreLemmas.{among_first, among_later, among_cons}
use Rattle.vsm_elements.proofs.ChainLemmas.{not_both}
use Rattle.row_table.specs.declared.tree.ItemTree.{ItemTree}
use Rattle.row_table.specs.declared.shape.Node.{Node}
use Rattle.row_table.specs.Trees.{owned, IsTree, Opens}
use Rattle.row_table.proofs.Lists.{in_parts, out_parts, out_cons, distinct_right, distinct_apart, distinct_apart_back}
use Rattle.row_table.proofs.TreeLemmas.{tree_kept, owned_kept, none_owned}

pub discard_none : (s : Store) (h : ItemTree) → IsTree s h → h.root ≡ 0 → Leaves s s (owned s h) []
discard_none s h t e =
    let P : List ℕ → Type 0 = λ x. Leaves s s x [] in
    subst P (sym (none_owned s h e)) (record { others = λ i p q. refl; gained = λ i p q. absurd (not_both false q refl); lost = λ i p q. absurd (not_both false p refl); spare = refl; as_many = refl })

module _ (s u v t : Store) (h : ItemTree) (n : Node) (o : Opens s h n) (f : Leaves s u (owned s n.left) []) where
  same : (i : ℕ) → among i (n.item.id ∷ owned s n.right) ≡ true → at u i ≡ at s i
  same i m = f.others i (distinct_apart_back (owned s n.left) (n.item.id ∷ owned s n.right) o.distinct i m) refl

  pub right_tree : IsTree u n.right
  right_tree = tree_kept s u n.right o.right (λ i m. same i (among_later i n.item.id (owned s n.right) m))

  pub right_owned : owned u n.right ≡ owned s n.right
  right_owned = owned_kept s u n.right o.right (λ i m. same i (among_later i n.item.id (owned s n.right) m))

  module _ (g : Leaves u v (owned u n.right) []) where
    g' : Leaves u v (owned s n.right) []
    g' = let P : List ℕ → Type 0 = λ x. Leaves u v x [] in subst P right_owned g

    top_out : among n.item.id (owned s n.right) ≡ false
    top_out = (distinct_right (owned s n.left) (n.item.id ∷ owned s n.right) o.distinct).0

    pub top_live : IsSome (at v n.item.id)
    top_live =
        let e : at v n.item.id ≡ at s n.item.id = g'.others n.item.id top_out refl ∙ same n.item.id (among_first n.item.id (owned s n.right)) in
        rw e o.live

    pub discarded : Updates v t n.item.id None → t.spare ≡ v.spare + 1 → Leaves s t (owned s h) []
    discarded up more =
        let P : List ℕ → Type 0 = λ x. Leaves s t x [] in
        subst P (sym o.own) (record {
          others = λ i p q. other i p;
          gained = λ i p q. absurd (not_both false q refl);
          lost = λ i p q. gone i p;
          spare = omega (arith, more, g'.spare, f.spare, length-append (owned s n.left) (n.item.id ∷ owned s n.right));
          as_many = up.as_many ∙ g'.as_many ∙ f.as_many;
        }) where
          other : (i : ℕ) → among i (owned s n.left ++ n.item.id ∷ owned s n.right) ≡ false → at t i ≡ at s i
          other i p =
              let a = out_parts i (owned s n.left) (n.item.id ∷ owned s n.right) p in
              let b = out_cons i n.item.id (owned s n.right) a.1 in
              up.others i b.0 ∙ g'.others i b.1 refl ∙ f.others i a.0 refl

          gone : (i : ℕ) → among i (owned s n.left ++ n.item.id ∷ owned s n.right) ≡ true → at t i ≡ None
          gone i p = elim (in_parts i (owned s n.left) (n.item.id ∷ owned s n.right) p) [
            | inl m ↦ (let b = out_cons i n.item.id (owned s n.right) (distinct_apart (owned s n.left) (n.item.id ∷ owned s n.right) o.distinct i m) in
                up.others i b.0 ∙ g'.others i b.1 refl ∙ f.lost i m refl)
            | inr m ↦ elim (eqb_tells i n.item.id) [
              | inl q ↦ ap (at t) q.1 ∙ up.changed
              | inr q ↦ up.others i q.1 ∙ g'.lost i (sym (among_cons i n.item.id (owned s n.right) q.1) ∙ m) refl
            ]
          ]
