-- A cell pool that is found by its name.
use Rattle.std.proofs.Common.{◌≡◌, ℕ, Ordering, Less, Equal, Greater, true, false, List, [], ◌∷◌, Some, refl, sym, ap, ◌∙◌, true≢false, is_eq, inl, inr}
use Rattle.std.specs.Ordering.{nat_cmp, eq_by_cmp}
use Rattle.std.specs.Cmp.{tied_itself}
use Rattle.std.specs.Cmp.Lexicographic.{nat_list_cmp_total, pointwise, slice_cmp}
use Rattle.std.specs.FinMap.{slice_cmp-IsAntisymmetric, nat_cmp-IsAntisymmetric}
use Rattle.std.specs.Prelude.{nat_eq}
use Rattle.std.proofs.lemmas.Bool.{and_from, and_parts, cases_Bool, eq-eqb, eqb-true}
use Rattle.service_laws.proofs.TaskTables.{found_first, found_later}
use Rattle.vsm_model.specs.CellPools.{CellPool, CellPools, cell_pool_in}

tied : (o : Ordering) → is_eq o ≡ true → o ≡ Equal
tied Less e = absurd (true≢false (sym e))
tied Equal e = refl
tied Greater e = absurd (true≢false (sym e))

-- two texts have the same bytes, or they haven't
pub same_bytes : (xs ys : List ℕ) → pointwise nat_eq xs ys ≡ true → xs ≡ ys
same_bytes [] [] e = refl
same_bytes [] (y ∷ ys) e = absurd (true≢false (sym e))
same_bytes (x ∷ xs) [] e = absurd (true≢false (sym e))
same_bytes (x ∷ xs) (y ∷ ys) e =
    let both = and_parts (nat_eq x y) (pointwise nat_eq xs ys) e in
    (λ i. eqb-true x y both.0 i ∷ same_bytes xs ys both.1 i)

itself : (xs : List ℕ) → pointwise nat_eq xs xs ≡ true
itself [] = refl
itself (x ∷ xs) = and_from (nat_eq x x) (pointwise nat_eq xs xs) (eq-eqb x x refl) (itself xs)

pub other_bytes : (xs ys : List ℕ) → pointwise nat_eq xs ys ≡ false → xs ≡ ys → ⊥
other_bytes xs ys e same = true≢false (sym (itself xs) ∙ ap (pointwise nat_eq xs) same ∙ e)

module _ (name its : List ℕ) (pool : CellPool) where
  -- it's the first row,
  pub is_named : (rows : CellPools) → name ≡ its → cell_pool_in ((its, pool) ∷ rows) name ≡ Some pool
  is_named rows same =
      found_first (its, pool) rows name (ap (eq_by_cmp (slice_cmp nat_cmp) name) (sym same) ∙ ap is_eq (tied_itself nat_list_cmp_total name))

  -- or one of those after it
  pub is_later : (name ≡ its → ⊥) → (rows : CellPools) → cell_pool_in ((its, pool) ∷ rows) name ≡ cell_pool_in rows name
  is_later apart rows =
      elim (cases_Bool (eq_by_cmp (slice_cmp nat_cmp) name its)) [
        | inl is ↦ absurd (apart (slice_cmp-IsAntisymmetric nat_cmp-IsAntisymmetric name its (tied (slice_cmp nat_cmp name its) is)))
        | inr other ↦ found_later (its, pool) rows name other
      ]
