-- A row that is written keeps its element, and a subpool that is gone leaves all others.
use Rattle.std.proofs.Common.{◌≡◌, ℕ, true, false, inl, inr, List, Some, None, refl, sym, ap, ◌∙◌}
use Rattle.std.proofs.lemmas.Bool.{cond-false, cond-true}
use Rattle.std.specs.Prelude.{if◌then◌else◌}
use Rattle.vsm_elements.specs.Store.{Store, among}
use Rattle.vsm_elements.specs.Ownership.{Leaves}
use Rattle.row_table.specs.declared.row.Row.{Row}
use Rattle.row_table.specs.declared.table.RowTable.{RowTable}
use Rattle.row_table.specs.Rows.{same_key}
use Rattle.row_table.specs.RowTable.{row, owned, IsTable}
use Rattle.row_table.proofs.RowLemmas.{either, none_some, same_parts}
use Rattle.row_table.proofs.RowIdLemmas.{same_ids}
use Rattle.subpool_set.specs.Pools.{Pool, Pools, pools_with}
use Rattle.subpool_set.specs.QueueElements.{AreApart}
use Rattle.subpool_set.proofs.KeptLemmas.{some_row}
use Rattle.subpool_set.proofs.ApartLemmas.{apart_after}

module _ (s t : Store) (q : RowTable) (a b : ℕ) (x y : Row) (rows : (m n : ℕ) → row t q m n ≡ (if same_key a b m n then Some y else row s q m n)) (there : row s q a b ≡ Some x) (same : y.id ≡ x.id) where
  here : (m n : ℕ) → same_key a b m n ≡ true → row s q m n ≡ Some x
  here m n p =
      let u : (a ≡ m) × (b ≡ n) = same_parts a b m n p in
      ap (row s q m) (sym u.1) ∙ ap (λ (z : ℕ). row s q z b) (sym u.0) ∙ there

  now : (m n : ℕ) → same_key a b m n ≡ true → row t q m n ≡ Some y
  now m n p = rows m n ∙ cond-true (same_key a b m n) (Some y) (row s q m n) p

  other : (m n : ℕ) → same_key a b m n ≡ false → row t q m n ≡ row s q m n
  other m n p = rows m n ∙ cond-false (same_key a b m n) (Some y) (row s q m n) p

  to : (m n : ℕ) (z : Row) → row s q m n ≡ Some z → (w : Row) × ((row t q m n ≡ Some w) × (w.id ≡ z.id))
  to m n z e = elim (either (same_key a b m n)) [
    | inl p ↦ (y, (now m n p, same ∙ ap (λ (r : Row). r.id) (some_row x z (sym (here m n p) ∙ e))))
    | inr p ↦ (z, (other m n p ∙ e, refl))
  ]

  from : (m n : ℕ) (w : Row) → row t q m n ≡ Some w → (z : Row) × ((row s q m n ≡ Some z) × (z.id ≡ w.id))
  from m n w e = elim (either (same_key a b m n)) [
    | inl p ↦ (x, (here m n p, sym same ∙ ap (λ (r : Row). r.id) (some_row y w (sym (now m n p) ∙ e))))
    | inr p ↦ (w, (sym (other m n p) ∙ e, refl))
  ]

  pub written_ids : IsTable s q → IsTable t q → (i : ℕ) → among i (owned t q) ≡ among i (owned s q)
  written_ids h k = same_ids s t q q h k to from

-- one subpool is gone
pub gone_apart : (s t : Store) (had has : List ℕ) → Leaves s t had has → (f g : Pools) (number owner : ℕ) → ((n o : ℕ) → g n o ≡ pools_with f number owner None n o) → AreApart s f had → AreApart t g has
gone_apart s t had has call f g number owner left was =
    apart_after s t had has call f g (λ n o. o) (λ n o p e. inr (record { pool = p; there = less n o p (sym (left n o) ∙ e); same = refl })) (λ n o r p x e k h. h) was where
      less : (n o : ℕ) (p : Pool) → pools_with f number owner None n o ≡ Some p → f n o ≡ Some p
      less n o p e = elim (either (same_key owner number o n)) [
        | inl k ↦ absurd (none_some (pools_with f number owner None n o) p (cond-true (same_key owner number o n) None (f n o) k) e)
        | inr k ↦ sym (cond-false (same_key owner number o n) None (f n o) k) ∙ e
      ]
