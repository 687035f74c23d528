-- Cell pools as plain values: which of them is found, and what the calls do to them.
use Rattle.std.specs.Prelude.{◌≡◌, ℕ, Bool, true, false, ◌==◌, if◌then◌else◌, List, [], ◌∷◌, Option, Some, None}
use Rattle.std.specs.Str.{bytes_eq}
use Rattle.vsm_model.specs.declared.Subpool.{Subpool}
use Rattle.vsm_model.specs.Subpools.{same_subpool}
-- A pool by itself, and its cells and extents.
pub use Rattle.cell_pool.specs.Pool.{Pool, cells_of, AreApart, HasCells, uses, rounded, overlaps, meets}
pub use Rattle.cell_pool.specs.Pool.{without_first, with_first, extended, retracted, IsExtended}
unfoldable pub use Rattle.cell_pool.specs.Pool.{cells_from}

-- the first pool of which the test holds
abbrev pub first_with : (Pool → Bool) → List Pool → Option Pool
first_with test [] = None
first_with test (p ∷ ps) = if test p then Some p else first_with test ps

abbrev pub is_named : List ℕ → Pool → Bool
is_named name p = bytes_eq name p.name

abbrev pub is_of : ℕ → Pool → Bool
is_of id p = id == p.id

-- the pool of this name
abbrev pub pool_in : List ℕ → List Pool → Option Pool
pool_in name ps = first_with (is_named name) ps

-- the pool of this id
abbrev pub id_in : ℕ → List Pool → Option Pool
id_in id ps = first_with (is_of id) ps

-- no two pools have one name
abbrev pub Single : List Pool → Type 0
Single [] = Unit {0}
Single (p ∷ ps) = (pool_in p.name ps ≡ None) × Single ps

-- the area overlaps an extent of some pool
abbrev pub Meets : (List ℕ → Option Pool) → ℕ → ℕ → Type 0
Meets pools start len = (name : List ℕ) × (p : Pool) × (pools name ≡ Some p) × (meets start len p ≡ true)

-- only the pool of this id is changed
abbrev pub at_id : ℕ → (Pool → Pool) → Pool → Pool
at_id id change p = if id == p.id then change p else p

-- the pool, if the test holds of it
abbrev pub only : (Pool → Bool) → Option Pool → Option Pool
only test None = None
only test (Some p) = if test p then Some p else None

-- the pool, if the test does not hold of it
abbrev pub all_but : (Pool → Bool) → Option Pool → Option Pool
all_but test None = None
all_but test (Some p) = if test p then None else Some p

-- the pool is of this very subpool
abbrev pub lies_in : Subpool → Pool → Bool
lies_in subpool p = same_subpool p.settings.subpool subpool

-- if the pool lies in the subpool, it lies in that of the same number of another owner
abbrev pub handed_on : Subpool → ℕ → Pool → Pool
handed_on subpool to p =
    if lies_in subpool p
    then record p { settings = record p.settings { subpool = record p.settings.subpool { owner = to } } }
    else p

-- the first of the two that exists
abbrev pub either_of : Option Pool → Option Pool → Option Pool
either_of None y = y
either_of (Some x) y = Some x

-- the test holds of a pool that exists
abbrev pub holds_of : (Pool → Bool) → Option Pool → Bool
holds_of test None = false
holds_of test (Some p) = test p

-- What is found of `x`, if all pools of a subpool change places with those of it among others, where `y` is found: the
-- other one, if one of the two lies in the subpool.
abbrev pub exchanged : Subpool → Option Pool → Option Pool → Option Pool
exchanged subpool x y = if holds_of (lies_in subpool) (either_of x y) then y else x

-- Pools of both that have one name lie both in the subpool, or both outside it. So no name then appears twice.
abbrev pub GoTogether : Subpool → (ℕ → Option Pool) → (ℕ → Option Pool) → Type 0
GoTogether subpool pools others = (i j : ℕ) (x y : Pool) → pools i ≡ Some x → others j ≡ Some y → x.name ≡ y.name
    → lies_in subpool x ≡ lies_in subpool y
