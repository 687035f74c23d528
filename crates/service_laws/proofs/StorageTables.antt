-- A table of cell pools of which some are left out.
use Rattle.std.proofs.Common.{◌≡◌, ℕ, suc, ◌≤◌, Ordering, Less, Equal, Greater, Bool, true, false, if◌then◌else◌, Option, Some, None, List, [], ◌∷◌, ◌++◌, length, filter, flat_map, refl, sym, ◌∙◌, ap, arith, true≢false}
use Rattle.std.specs.Prelude.{All, AllPairs}
use Rattle.std.specs.Ordering.{nat_cmp, is_lt, is_eq}
use Rattle.std.specs.FinMap.{slice_cmp-IsAntisymmetric, nat_cmp-IsAntisymmetric}
use Rattle.std.specs.Cmp.Lexicographic.{slice_cmp}
use Rattle.std.specs.FinMap.Entries.{below_all}
use Rattle.std.proofs.lemmas.Bool.{and_parts, and_from}
use Rattle.std.proofs.lemmas.List.Elements.{All-head, All-tail, All-cons, All-append, All-nil, All-filter, filter_passes}
use Rattle.std.proofs.lemmas.List.Kept.{AllPairs-cons}
use Rattle.vsm_model.specs.CellPools.{CellPool, CellPools, cell_pool_in, are_ascending}

module _ {X : Type 0} (R : X → X → Type 0) where
  pairs_head : (x : X) (xs : List X) → AllPairs R (x ∷ xs) → All (R x) xs
  pairs_head x xs h k d below = h 0 (suc k) d (omega arith) (omega (arith, below))

  pairs_tail : (x : X) (xs : List X) → AllPairs R (x ∷ xs) → AllPairs R xs
  pairs_tail x xs h i j d less below = h (suc i) (suc j) d (omega (arith, less)) (omega (arith, below))

  all_left : (P : X → Type 0) (xs ys : List X) → All P (xs ++ ys) → All P xs
  all_left P [] ys h = All-nil P
  all_left P (x ∷ xs) ys h = All-cons P x xs (All-head P x (xs ++ ys) h) (all_left P xs ys (All-tail P x (xs ++ ys) h))

  all_right : (P : X → Type 0) (xs ys : List X) → All P (xs ++ ys) → All P ys
  all_right P [] ys h = h
  all_right P (x ∷ xs) ys h = all_right P xs ys (All-tail P x (xs ++ ys) h)

  pairs_right : (xs ys : List X) → AllPairs R (xs ++ ys) → AllPairs R ys
  pairs_right [] ys h = h
  pairs_right (x ∷ xs) ys h = pairs_right xs ys (pairs_tail x (xs ++ ys) h)

  -- the second list may be replaced by one of which all that held of it holds
  pairs_with : (xs ys zs : List X) → ((P : X → Type 0) → All P ys → All P zs) → AllPairs R zs → AllPairs R (xs ++ ys) → AllPairs R (xs ++ zs)
  pairs_with [] ys zs fewer g h = g
  pairs_with (x ∷ xs) ys zs fewer g h =
      let first = pairs_head x (xs ++ ys) h in
      AllPairs-cons R x (xs ++ zs)
      (All-append (R x) xs zs (all_left (R x) xs ys first) (fewer (R x) (all_right (R x) xs ys first)))
      (pairs_with xs ys zs fewer g (pairs_tail x (xs ++ ys) h))

module _ {X Y : Type 0} (f : X → List Y) (passes : X → Bool) where
  -- what holds of all that a list yields holds of what a part of it yields
  all_of_part : (P : Y → Type 0) (xs : List X) → All P (flat_map f xs) → All P (flat_map f (filter passes xs))
  all_of_part P [] h = h
  all_of_part P (x ∷ xs) h =
      elim (passes x) as (λ b. All P (flat_map f (if b then x ∷ filter passes xs else filter passes xs))) [
        | true ↦ All-append P (f x) (flat_map f (filter passes xs)) (all_left (λ _ _. Unit {0}) P (f x) (flat_map f xs) h)
            (all_of_part P xs (all_right (λ _ _. Unit {0}) P (f x) (flat_map f xs) h))
        | false ↦ all_of_part P xs (all_right (λ _ _. Unit {0}) P (f x) (flat_map f xs) h)
      ]

  pub pairs_of_part : (R : Y → Y → Type 0) (xs : List X) → AllPairs R (flat_map f xs) → AllPairs R (flat_map f (filter passes xs))
  pairs_of_part R [] h = h
  pairs_of_part R (x ∷ xs) h =
      elim (passes x) as (λ b. AllPairs R (flat_map f (if b then x ∷ filter passes xs else filter passes xs))) [
        | true ↦ pairs_with R (f x) (flat_map f xs) (flat_map f (filter passes xs)) (λ P. all_of_part P xs)
            (pairs_of_part R xs (pairs_right R (f x) (flat_map f xs) h)) h
        | false ↦ pairs_of_part R xs (pairs_right R (f x) (flat_map f xs) h)
      ]

-- what holds of those that pass, by what held of all
pub all_passing : {X : Type 0} (P Q : X → Type 0) (passes : X → Bool) (xs : List X) → ((x : X) → P x → passes x ≡ true → Q x) → All P xs → All Q (filter passes xs)
all_passing P Q passes xs both h = λ k d below. both _ (All-filter passes P xs h k d below) (filter_passes passes xs k d below)

module _ (passes : List ℕ × CellPool → Bool) where
  below_part : (name : List ℕ) (table : CellPools) → below_all (slice_cmp nat_cmp) name table ≡ true → below_all (slice_cmp nat_cmp) name (filter passes table) ≡ true
  below_part name [] h = h
  below_part name (row ∷ table) h =
      let parts = and_parts (is_lt (slice_cmp nat_cmp name row.0)) (below_all (slice_cmp nat_cmp) name table) h in
      elim (passes row) as (λ b. below_all (slice_cmp nat_cmp) name (if b then row ∷ filter passes table else filter passes table) ≡ true) [
        | true ↦ and_from _ _ parts.0 (below_part name table parts.1)
        | false ↦ below_part name table parts.1
      ]

  -- names in order stay in order
  pub ascending_part : (table : CellPools) → are_ascending table ≡ true → are_ascending (filter passes table) ≡ true
  ascending_part [] h = h
  ascending_part (row ∷ table) h =
      let parts = and_parts (below_all (slice_cmp nat_cmp) row.0 table) (are_ascending table) h in
      elim (passes row) as (λ b. are_ascending (if b then row ∷ filter passes table else filter passes table) ≡ true) [
        | true ↦ and_from _ _ (below_part row.0 table parts.0) (ascending_part table parts.1)
        | false ↦ ascending_part table parts.1
      ]

  pub fewer : (table : CellPools) → length (filter passes table) ≤ length table
  fewer [] = omega arith
  fewer (row ∷ table) =
      let rest = fewer table in
      elim (passes row) as (λ b. length (if b then row ∷ filter passes table else filter passes table) ≤ suc (length table)) [
        | true ↦ omega (arith, rest)
        | false ↦ omega (arith, rest)
      ]

-- the cell pool, if it passes
abbrev pub kept_of : (CellPool → Bool) → Option CellPool → Option CellPool
kept_of f None = None
kept_of f (Some pool) = if f pool then Some pool else None

less : (o : Ordering) → is_lt o ≡ true → o ≡ Less
less Less e = refl
less Equal e = absurd (true≢false (sym e))
less Greater e = absurd (true≢false (sym e))

-- a name below the names of a list isn't found in it
below_none : (name : List ℕ) (table : CellPools) → below_all (slice_cmp nat_cmp) name table ≡ true → cell_pool_in table name ≡ None
below_none name [] below = refl
below_none name (row ∷ table) below =
    let parts = and_parts (is_lt (slice_cmp nat_cmp name row.0)) (below_all (slice_cmp nat_cmp) name table) below in
    ap (λ o. if is_eq o then Some row.1 else cell_pool_in table name) (less _ parts.0) ∙ below_none name table parts.1

-- what a name has in a part of a table
pub found_in_part : (f : CellPool → Bool) (table : CellPools) (name : List ℕ) → are_ascending table ≡ true →
    cell_pool_in (filter (λ row. f row.1) table) name ≡ kept_of f (cell_pool_in table name)
found_in_part f [] name up = refl
found_in_part f (row ∷ table) name up =
    let parts = and_parts (below_all (slice_cmp nat_cmp) row.0 table) (are_ascending table) up in
    let rest = found_in_part f table name parts.1 in
    elim (slice_cmp nat_cmp name row.0) as (λ o. slice_cmp nat_cmp name row.0 ≡ o → cell_pool_in (filter (λ row. f row.1) (row ∷ table)) name ≡ kept_of f (if is_eq o then Some row.1 else cell_pool_in table name)) [
      | Less ↦ λ e. other Less e refl ∙ rest
      | Greater ↦ λ e. other Greater e refl ∙ rest
      | Equal ↦ λ e. elim (f row.1) as (λ b. cell_pool_in (if b then row ∷ filter (λ row. f row.1) table else filter (λ row. f row.1) table) name ≡ (if b then Some row.1 else None)) [
        | true ↦ ap (λ o. if is_eq o then Some row.1 else cell_pool_in (filter (λ row. f row.1) table) name) e
        | false ↦
            let same : name ≡ row.0 = slice_cmp-IsAntisymmetric nat_cmp-IsAntisymmetric name row.0 e in
            rest ∙ ap (kept_of f) (ap (cell_pool_in table) same ∙ below_none row.0 table parts.0)
      ]
    ] refl where
      -- if the name isn't that of the row, the row doesn't matter
      other : (o : Ordering) → slice_cmp nat_cmp name row.0 ≡ o → is_eq o ≡ false →
          cell_pool_in (filter (λ row. f row.1) (row ∷ table)) name ≡ cell_pool_in (filter (λ row. f row.1) table) name
      other o e apart =
          elim (f row.1) as (λ b. cell_pool_in (if b then row ∷ filter (λ row. f row.1) table else filter (λ row. f row.1) table) name ≡ cell_pool_in (filter (λ row. f row.1) table) name) [
            | true ↦ ap (λ b. if b then Some row.1 else cell_pool_in (filter (λ row. f row.1) table) name) (ap is_eq e ∙ apart)
            | false ↦ refl
          ]
