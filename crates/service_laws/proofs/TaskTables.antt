-- Tables of cell pools of which some are left, and tables whose cell pools are changed in place.
use Rattle.std.proofs.Common.{◌≡◌, ℕ, suc, zero, ◌≤◌, Bool, true, false, ◌&&◌, if◌then◌else◌, Some, None, List, [], ◌∷◌, ◌++◌, length, map, flat_map, filter, AllPairs, Ordering, Less, Equal, Greater, is_lt, is_eq, refl, sym, ◌∙◌, ap, arith, inl, inr, true≢false}
use Rattle.std.specs.Ordering.{nat_cmp, eq_by_cmp}
use Rattle.std.specs.Option.{option_map}
use Rattle.std.specs.List.{AllByRecursion}
use Rattle.std.specs.Cmp.Lexicographic.{slice_cmp}
use Rattle.std.specs.FinMap.{slice_cmp-IsAntisymmetric, nat_cmp-IsAntisymmetric}
use Rattle.std.specs.FinMap.Entries.{below_all}
use Rattle.std.proofs.lemmas.Bool.{and_parts, and_from, cond-true, cond-false, cases_Bool}
use Rattle.std.proofs.lemmas.List.Elements.{All-from_recursion, recursion_from_All}
use Rattle.std.proofs.lemmas.List.Kept.{AllPairs-cons}
use Rattle.vsm_model.specs.CellPools.{CellPool, CellPools, cell_pool_in, are_ascending}
use Rattle.service_laws.proofs.Options.{some_none, same_some}

-- What holds of each element of two lists, one after the other.
module _ {X : Type 0} (P : X → Type 0) where
  pub left_part : (xs ys : List X) → AllByRecursion P (xs ++ ys) → AllByRecursion P xs
  left_part [] ys h = tt
  left_part (x ∷ xs) ys h = (h.0, left_part xs ys h.1)

  pub right_part : (xs ys : List X) → AllByRecursion P (xs ++ ys) → AllByRecursion P ys
  right_part [] ys h = h
  right_part (x ∷ xs) ys h = right_part xs ys h.1

  joined : (xs ys : List X) → AllByRecursion P xs → AllByRecursion P ys → AllByRecursion P (xs ++ ys)
  joined [] ys h g = g
  joined (x ∷ xs) ys h g = (h.0, joined xs ys h.1 g)

-- What holds of each two elements of a list, by recursion on the list.
module _ {X : Type 0} (R : X → X → Type 0) where
  Pairs : List X → Type 0
  Pairs [] = Unit {0}
  Pairs (x ∷ xs) = AllByRecursion (R x) xs × Pairs xs

  pairs : (xs : List X) → AllPairs R xs → Pairs xs
  unfolding Pairs
  pairs [] h = tt
  pairs (x ∷ xs) h = (
    recursion_from_All (R x) xs (λ k d below. h zero (suc k) d (omega arith) (omega (arith, below))),
    pairs xs (λ i j d less below. h (suc i) (suc j) d (omega (arith, less)) (omega (arith, below))),
  )

  all_pairs : (xs : List X) → Pairs xs → AllPairs R xs
  unfolding Pairs
  all_pairs [] h = λ i j d less below. absurd (omega (arith, below))
  all_pairs (x ∷ xs) h = AllPairs-cons R x xs (All-from_recursion (R x) xs h.0) (all_pairs xs h.1)

  later_pairs : (xs ys : List X) → Pairs (xs ++ ys) → Pairs ys
  unfolding Pairs
  later_pairs [] ys h = h
  later_pairs (x ∷ xs) ys h = later_pairs xs ys h.1

  -- the later ones are others, of which each is one of the former later ones
  with_later : (xs ys zs : List X) → ((P : X → Type 0) → AllByRecursion P ys → AllByRecursion P zs) → Pairs (xs ++ ys) → Pairs zs → Pairs (xs ++ zs)
  unfolding Pairs
  with_later [] ys zs fewer h g = g
  with_later (x ∷ xs) ys zs fewer h g = (
    joined (R x) xs zs (left_part (R x) xs ys h.0) (fewer (R x) (right_part (R x) xs ys h.0)),
    with_later xs ys zs fewer h.1 g,
  )

  module _ {A : Type 0} (parts : A → List X) (test : A → Bool) where
    parts_left : (P : X → Type 0) (rows : List A) → AllByRecursion P (flat_map parts rows) → AllByRecursion P (flat_map parts (filter test rows))
    parts_left P [] h = h
    parts_left P (row ∷ rows) h =
        let rest = parts_left P rows (right_part P (parts row) (flat_map parts rows) h) in
        elim (test row) as (λ b. AllByRecursion P (flat_map parts (if b then row ∷ filter test rows else filter test rows))) [
          | true ↦ joined P (parts row) (flat_map parts (filter test rows)) (left_part P (parts row) (flat_map parts rows) h) rest
          | false ↦ rest
        ]

    pairs_left : (rows : List A) → Pairs (flat_map parts rows) → Pairs (flat_map parts (filter test rows))
    pairs_left [] h = h
    pairs_left (row ∷ rows) h =
        let rest = pairs_left rows (later_pairs (parts row) (flat_map parts rows) h) in
        elim (test row) as (λ b. Pairs (flat_map parts (if b then row ∷ filter test rows else filter test rows))) [
          | true ↦ with_later (parts row) (flat_map parts rows) (flat_map parts (filter test rows)) (λ P. parts_left P rows) h rest
          | false ↦ rest
        ]

    -- what holds of each two parts of the rows holds of each two parts of those that are left
    pub apart_left : (rows : List A) → AllPairs R (flat_map parts rows) → AllPairs R (flat_map parts (filter test rows))
    apart_left rows h = all_pairs (flat_map parts (filter test rows)) (pairs_left rows (pairs (flat_map parts rows) h))

-- names in byte order
abbrev by_name : List ℕ → List ℕ → Ordering
by_name = slice_cmp nat_cmp

below_is_other : (o : Ordering) → is_lt o ≡ true → is_eq o ≡ false
below_is_other Less e = refl
below_is_other Equal e = absurd (true≢false (sym e))
below_is_other Greater e = refl

tied : (o : Ordering) → is_eq o ≡ true → o ≡ Equal
tied Less e = absurd (true≢false (sym e))
tied Equal e = refl
tied Greater e = absurd (true≢false (sym e))

-- The first row has the name, or it doesn't.
pub found_first : (row : List ℕ × CellPool) (rows : CellPools) (name : List ℕ) → eq_by_cmp by_name name row.0 ≡ true → cell_pool_in (row ∷ rows) name ≡ Some row.1
found_first row rows name is = cond-true (eq_by_cmp by_name name row.0) (Some row.1) (cell_pool_in rows name) is

pub found_later : (row : List ℕ × CellPool) (rows : CellPools) (name : List ℕ) → eq_by_cmp by_name name row.0 ≡ false → cell_pool_in (row ∷ rows) name ≡ cell_pool_in rows name
found_later row rows name other = cond-false (eq_by_cmp by_name name row.0) (Some row.1) (cell_pool_in rows name) other

-- a name that is below all names isn't among them
none_below : (name : List ℕ) (rows : CellPools) → below_all by_name name rows ≡ true → cell_pool_in rows name ≡ None
none_below name [] e = refl
none_below name (row ∷ rows) e =
    let parts = and_parts (is_lt (by_name name row.0)) (below_all by_name name rows) e in
    found_later row rows name (below_is_other (by_name name row.0) parts.0) ∙ none_below name rows parts.1

module _ (keeps : CellPool → Bool) where
  left : CellPools → CellPools
  left table = filter (λ row. keeps row.1) table

  row_stays : (row : List ℕ × CellPool) (rows : CellPools) → keeps row.1 ≡ true → left (row ∷ rows) ≡ row ∷ left rows
  unfolding left
  row_stays row rows is = cond-true (keeps row.1) (row ∷ left rows) (left rows) is

  row_leaves : (row : List ℕ × CellPool) (rows : CellPools) → keeps row.1 ≡ false → left (row ∷ rows) ≡ left rows
  unfolding left
  row_leaves row rows is = cond-false (keeps row.1) (row ∷ left rows) (left rows) is

  below_left : (name : List ℕ) (rows : CellPools) → below_all by_name name rows ≡ true → below_all by_name name (left rows) ≡ true
  unfolding left
  below_left name [] e = e
  below_left name (row ∷ rows) e =
      let parts = and_parts (is_lt (by_name name row.0)) (below_all by_name name rows) e in
      let rest = below_left name rows parts.1 in
      elim (keeps row.1) as (λ b. below_all by_name name (if b then row ∷ left rows else left rows) ≡ true) [
        | true ↦ and_from (is_lt (by_name name row.0)) (below_all by_name name (left rows)) parts.0 rest
        | false ↦ rest
      ]

  pub ascending_left : (table : CellPools) → are_ascending table ≡ true → are_ascending (filter (λ row. keeps row.1) table) ≡ true
  unfolding left
  ascending_left [] e = e
  ascending_left (row ∷ rows) e =
      let parts = and_parts (below_all by_name row.0 rows) (are_ascending rows) e in
      let rest = ascending_left rows parts.1 in
      elim (keeps row.1) as (λ b. are_ascending (if b then row ∷ left rows else left rows) ≡ true) [
        | true ↦ and_from (below_all by_name row.0 (left rows)) (are_ascending (left rows)) (below_left row.0 rows parts.0) rest
        | false ↦ rest
      ]

  pub fewer_left : (table : CellPools) → length (filter (λ row. keeps row.1) table) ≤ length table
  unfolding left
  fewer_left [] = omega arith
  fewer_left (row ∷ rows) =
      let rest = fewer_left rows in
      elim (keeps row.1) as (λ b. length (if b then row ∷ left rows else left rows) ≤ suc (length rows)) [
        | true ↦ omega (arith, rest)
        | false ↦ omega (arith, rest)
      ]

  -- A cell pool that passes is found as before,
  pub found_still : (table : CellPools) (name : List ℕ) (pool : CellPool) → cell_pool_in table name ≡ Some pool → keeps pool ≡ true → cell_pool_in (filter (λ row. keeps row.1) table) name ≡ Some pool
  unfolding left
  found_still [] name pool e stays = absurd (some_none pool (sym e))
  found_still (row ∷ rows) name pool e stays =
      elim (cases_Bool (eq_by_cmp by_name name row.0)) [
        | inl is ↦
            let same : row.1 ≡ pool = same_some row.1 pool (sym (found_first row rows name is) ∙ e) in
            ap (λ table. cell_pool_in table name) (row_stays row rows (ap keeps same ∙ stays)) ∙ found_first row (left rows) name is ∙ ap Some same
        | inr other ↦
            let rest = found_still rows name pool (sym (found_later row rows name other) ∙ e) stays in
            elim (cases_Bool (keeps row.1)) [
              | inl is ↦ ap (λ table. cell_pool_in table name) (row_stays row rows is) ∙ found_later row (left rows) name other ∙ rest
              | inr is ↦ ap (λ table. cell_pool_in table name) (row_leaves row rows is) ∙ rest
            ]
      ]

  -- a name without a cell pool still has none,
  pub none_still : (table : CellPools) (name : List ℕ) → cell_pool_in table name ≡ None → cell_pool_in (filter (λ row. keeps row.1) table) name ≡ None
  unfolding left
  none_still [] name e = refl
  none_still (row ∷ rows) name e =
      elim (cases_Bool (eq_by_cmp by_name name row.0)) [
        | inl is ↦ absurd (some_none row.1 (sym (found_first row rows name is) ∙ e))
        | inr other ↦
            let rest = none_still rows name (sym (found_later row rows name other) ∙ e) in
            elim (cases_Bool (keeps row.1)) [
              | inl is ↦ ap (λ table. cell_pool_in table name) (row_stays row rows is) ∙ found_later row (left rows) name other ∙ rest
              | inr is ↦ ap (λ table. cell_pool_in table name) (row_leaves row rows is) ∙ rest
            ]
      ]

  -- and one that doesn't pass isn't found.
  pub found_no_more : (table : CellPools) → are_ascending table ≡ true → (name : List ℕ) (pool : CellPool) → cell_pool_in table name ≡ Some pool → keeps pool ≡ false → cell_pool_in (filter (λ row. keeps row.1) table) name ≡ None
  unfolding left
  found_no_more [] up name pool e leaves = refl
  found_no_more (row ∷ rows) up name pool e leaves =
      let parts = and_parts (below_all by_name row.0 rows) (are_ascending rows) up in
      elim (cases_Bool (eq_by_cmp by_name name row.0)) [
        | inl is ↦
            let same : row.1 ≡ pool = same_some row.1 pool (sym (found_first row rows name is) ∙ e) in
            let own : name ≡ row.0 = slice_cmp-IsAntisymmetric nat_cmp-IsAntisymmetric name row.0 (tied (by_name name row.0) is) in
            let none = none_still rows name (none_below name rows (ap (λ n. below_all by_name n rows) own ∙ parts.0)) in
            ap (λ table. cell_pool_in table name) (row_leaves row rows (ap keeps same ∙ leaves)) ∙ none
        | inr other ↦
            let rest = found_no_more rows parts.1 name pool (sym (found_later row rows name other) ∙ e) leaves in
            elim (cases_Bool (keeps row.1)) [
              | inl is ↦ ap (λ table. cell_pool_in table name) (row_stays row rows is) ∙ found_later row (left rows) name other ∙ rest
              | inr is ↦ ap (λ table. cell_pool_in table name) (row_leaves row rows is) ∙ rest
            ]
      ]

-- Each cell pool is changed, and the names stay.
module _ (change : CellPool → CellPool) where
  below_changed : (name : List ℕ) (rows : CellPools) → below_all by_name name (map (λ row. (row.0, change row.1)) rows) ≡ below_all by_name name rows
  below_changed name [] = refl
  below_changed name (row ∷ rows) = ap (λ b. is_lt (by_name name row.0) && b) (below_changed name rows)

  pub ascending_changed : (table : CellPools) → are_ascending (map (λ row. (row.0, change row.1)) table) ≡ are_ascending table
  ascending_changed [] = refl
  ascending_changed (row ∷ rows) = λ i. below_changed row.0 rows i && ascending_changed rows i

  pub found_changed : (table : CellPools) (name : List ℕ) → cell_pool_in (map (λ row. (row.0, change row.1)) table) name ≡ option_map change (cell_pool_in table name)
  found_changed [] name = refl
  found_changed (row ∷ rows) name =
      elim (eq_by_cmp by_name name row.0) as (λ b. (if b then Some (change row.1) else cell_pool_in (map (λ row. (row.0, change row.1)) rows) name)
      ≡ option_map change (if b then Some row.1 else cell_pool_in rows name)) [
        | true ↦ refl
        | false ↦ found_changed rows name
      ]
