-- The cells of an extent, and those of all extents of a cell pool.
use Rattle.std.proofs.Common.{◌≡◌, ◌≢◌, ◌⊎◌, ℕ, zero, suc, ◌+◌, ◌*◌, ◌%◌, ◌<◌, ◌≤◌, true, ◌&&◌, nat_le, ◌==◌, List, [], ◌∷◌, ◌++◌, flat_map, drop, refl, sym, ◌∙◌, subst, arith, inl, inr, true≢false}
use Rattle.std.specs.Prelude.{All, AllPairs}
use Rattle.std.proofs.lemmas.Bool.{and_parts, or_cases, or_left, or_right, eqb-true, eq-eqb, leb-true}
use Rattle.std.proofs.lemmas.List.Elements.{All-head, All-tail, All-cons, All-weaker, All-nil}
use Rattle.std.proofs.lemmas.List.Kept.{AllPairs-cons}
use Rattle.std.proofs.lemmas.List.Folds.{list_any-append}
use Rattle.vsm_model.specs.Search.{is_in}
use Rattle.vsm_model.specs.CellPools.{cells_from, extent_cells, extent_doublewords, CellPool, CellExtent}
use Rattle.vsm_model.specs.Cells.{are_cells}
use Rattle.service_laws.proofs.Lists.{pairs_nil, pairs_tail}

pub in_left : (xs ys : List ℕ) (c : ℕ) → is_in xs c ≡ true → is_in (xs ++ ys) c ≡ true
in_left xs ys c e = list_any-append (λ m. m == c) xs ys ∙ or_left (is_in xs c) (is_in ys c) e

pub in_right : (xs ys : List ℕ) (c : ℕ) → is_in ys c ≡ true → is_in (xs ++ ys) c ≡ true
in_right xs ys c e = list_any-append (λ m. m == c) xs ys ∙ or_right (is_in xs c) (is_in ys c) e

pub in_either : (xs ys : List ℕ) (c : ℕ) → is_in (xs ++ ys) c ≡ true → (is_in xs c ≡ true) ⊎ (is_in ys c ≡ true)
in_either xs ys c e = or_cases (is_in xs c) (is_in ys c) (sym (list_any-append (λ m. m == c) xs ys) ∙ e)

-- each element of a list is in it
pub all_in : (xs : List ℕ) → All (λ c. is_in xs c ≡ true) xs
all_in [] = All-nil (λ c. is_in [] c ≡ true)
all_in (x ∷ xs) =
    All-cons (λ c. is_in (x ∷ xs) c ≡ true) x xs (or_left (x == x) (is_in xs x) (eq-eqb x x refl))
    (All-weaker (λ c. is_in xs c ≡ true) (λ c. is_in (x ∷ xs) c ≡ true) (λ c e. or_right (x == c) (is_in xs c) e) xs (all_in xs))

-- what holds of all elements holds of one that is in the list
pub all_at : (P : ℕ → Type 0) (xs : List ℕ) (c : ℕ) → All P xs → is_in xs c ≡ true → P c
all_at P [] c h e = absurd (true≢false (sym e))
all_at P (x ∷ xs) c h e =
    elim (or_cases (x == c) (is_in xs c) e) [
      | inl here ↦ subst P (eqb-true x c here) (All-head P x xs h)
      | inr later ↦ all_at P xs c (All-tail P x xs h) later
    ]

pub all_drop : {X : Type 0} (P : X → Type 0) (xs : List X) → All P xs → All P (drop 1 xs)
all_drop P [] h = h
all_drop P (x ∷ xs) h = All-tail P x xs h

pub pairs_drop : {X : Type 0} (R : X → X → Type 0) (xs : List X) → AllPairs R xs → AllPairs R (drop 1 xs)
pairs_drop R [] h = h
pairs_drop R (x ∷ xs) h = pairs_tail R x xs h

-- the bounds of a size and a count
pub cell_bounds : (size count : ℕ) → are_cells size count ≡ true → (4 ≤ size) × (size ≤ 4096) × (1 ≤ count) × (count ≤ 4096)
cell_bounds size count e =
    let a = and_parts (((size % 4) == 0) && nat_le 4 size && nat_le size 4096 && nat_le 1 count) (nat_le count 4096) e in
    let b = and_parts (((size % 4) == 0) && nat_le 4 size && nat_le size 4096) (nat_le 1 count) a.0 in
    let c = and_parts (((size % 4) == 0) && nat_le 4 size) (nat_le size 4096) b.0 in
    let d = and_parts ((size % 4) == 0) (nat_le 4 size) c.0 in
    (leb-true 4 size d.1, leb-true size 4096 c.1, leb-true 1 count b.1, leb-true count 4096 a.1)

-- the cells of an extent are a size apart
pub cell_at : (size first count c : ℕ) → is_in (cells_from size first count) c ≡ true → (i : ℕ) × (i < count) × (c ≡ first + i * size)
cell_at size first zero c e = absurd (true≢false (sym e))
cell_at size first (suc count) c e =
    elim (or_cases (first == c) (is_in (cells_from size (first + size) count) c) e) [
      | inl here ↦ let same = eqb-true first c here in (0, omega arith, omega (arith, same))
      | inr later ↦
          let (i, below, at) = cell_at size (first + size) count c later in
          (suc i, omega (arith, below), omega (arith, at))
    ]

pub cells_behind : (size first count least : ℕ) → least ≤ first → All (λ c. least ≤ c) (cells_from size first count)
cells_behind size first zero least low = All-nil (λ c. least ≤ c)
cells_behind size first (suc count) least low =
    All-cons (λ c. least ≤ c) first (cells_from size (first + size) count) low (cells_behind size (first + size) count least (omega (arith, low)))

pub cells_distinct : (size first count : ℕ) → 1 ≤ size → AllPairs (λ c d. c ≢ d) (cells_from size first count)
cells_distinct size first zero some = pairs_nil (λ c d. c ≢ d)
cells_distinct size first (suc count) some =
    AllPairs-cons (λ c d. c ≢ d) first (cells_from size (first + size) count)
    (All-weaker (λ c. first + size ≤ c) (λ c. first ≢ c) (λ c far same. omega (arith, far, same, some)) (cells_from size (first + size) count)
    (cells_behind size (first + size) count (first + size) (omega arith)))
    (cells_distinct size (first + size) count some)

-- a product grows with its first factor
pub times_more : (i count size : ℕ) → i < count → i * size + size ≤ count * size
times_more zero zero size below = absurd (omega (arith, below))
times_more zero (suc count) size below = omega arith
times_more (suc i) zero size below = absurd (omega (arith, below))
times_more (suc i) (suc count) size below = let rest = times_more i count size (omega (arith, below)) in omega (arith, rest)

-- a cell of an extent begins and ends in it
pub cell_within : (pool : CellPool) (x : CellExtent) (c : ℕ) → is_in (extent_cells pool.size x) c ≡ true →
    (x.address ≤ c) × (c + pool.size ≤ x.address + 8 * extent_doublewords pool x.cells)
cell_within pool x c e =
    let (i, below, at) = cell_at pool.size x.address x.cells c e in
    let room = times_more i x.cells pool.size below in
    (omega (arith, at), omega (arith, at, room))

-- an extent with a cell has a doubleword
pub some_doublewords : (pool : CellPool) (cells : ℕ) → 1 ≤ cells → 4 ≤ pool.size → 1 ≤ extent_doublewords pool cells
some_doublewords pool cells some size = let room = times_more 0 cells pool.size some in omega (arith, room, size)

-- a cell of all extents is one of an extent
pub cell_of : (P : CellExtent → Type 0) (size : ℕ) (xs : List CellExtent) (c : ℕ) → All P xs → is_in (flat_map (extent_cells size) xs) c ≡ true →
    (x : CellExtent) × (P x) × (is_in (extent_cells size x) c ≡ true)
cell_of P size [] c h e = absurd (true≢false (sym e))
cell_of P size (x ∷ xs) c h e =
    elim (in_either (extent_cells size x) (flat_map (extent_cells size) xs) c e) [
      | inl here ↦ (x, All-head P x xs h, here)
      | inr later ↦ cell_of P size xs c (All-tail P x xs h) later
    ]
