-- What a contract sees of a tree: its runs in order, and its elements in the order of their runs.
use Rattle.std.specs.Prelude.{◌≡◌, ℕ, zero, suc, ◌+◌, false, List, [], ◌∷◌, ◌++◌, IsSome, take, drop, slice_set}
use Rattle.vsm_elements.specs.Store.{Store, at, among, Distinct, made_and_aside}
use Rattle.run_tree.specs.declared.run.Run.{Run}
use Rattle.run_tree.specs.declared.tree.RunTree.{RunTree}
use Rattle.run_tree.specs.declared.shape.RunNode.{RunNode}
use Rattle.run_tree.specs.Shape.{grown, runs_in, ids_in, IsTreeOf}

-- the first n of the runs; if there are fewer, followed by empty ones
abbrev pub fitted : ℕ → List Run → List Run
fitted zero rs = []
fitted (suc n) [] = record { start = 0; len = 0 } ∷ fitted n []
fitted (suc n) (r ∷ rs) = r ∷ fitted n rs

-- the runs, in order: in any elements, as many as the head counts
unfoldable pub runs : Store → RunTree → List Run
runs s h = fitted h.count (runs_in (grown s h.count h.root))

-- the ids of the tree's elements, in the order of their runs
unfoldable pub owned : Store → RunTree → List ℕ
owned s h = ids_in (grown s h.count h.root)

-- these elements hold the tree
unfoldable pub IsTree : Store → RunTree → Type 0
IsTree s h = IsTreeOf s h (grown s h.count h.root)

-- the head is that of a node, with what is before and after it
pub record Opens (s : Store) (h : RunTree) (n : RunNode) : Type 0 where
  pub left : IsTree s n.left
  pub right : IsTree s n.right
  pub are : runs s h ≡ runs s n.left ++ n.run ∷ runs s n.right
  pub own : owned s h ≡ owned s n.left ++ n.id ∷ owned s n.right
  pub root : n.id ≡ h.root
  pub count : h.count ≡ n.left.count + n.right.count + 1
  pub distinct : Distinct (owned s n.left ++ n.id ∷ owned s n.right)
  pub live : IsSome (at s n.id)

-- a live element became a node over two trees, and all other elements are as they were
pub record Joins (s t : Store) (left : RunTree) (id : ℕ) (run : Run) (right : RunTree) (h : RunTree) : Type 0 where
  pub tree : IsTree t h
  pub are : runs t h ≡ runs s left ++ run ∷ runs s right
  pub own : owned t h ≡ owned s left ++ id ∷ owned s right
  pub root : h.root ≡ id
  pub count : h.count ≡ left.count + right.count + 1
  pub others : (i : ℕ) → among i (id ∷ []) ≡ false → at t i ≡ at s i
  pub spare : t.spare ≡ s.spare
  pub as_many : made_and_aside t ≡ made_and_aside s

-- two trees became one
pub record Merges (s t : Store) (a b h : RunTree) : Type 0 where
  pub tree : IsTree t h
  pub are : runs t h ≡ runs s a ++ runs s b
  pub own : owned t h ≡ owned s a ++ owned s b
  pub count : h.count ≡ a.count + b.count
  pub others : (i : ℕ) → among i (owned s a ++ owned s b) ≡ false → at t i ≡ at s i
  pub spare : t.spare ≡ s.spare
  pub as_many : made_and_aside t ≡ made_and_aside s

-- one tree became two, the first of which has k runs
pub record Splits (s t : Store) (h : RunTree) (k : ℕ) (a b : RunTree) : Type 0 where
  pub first : IsTree t a
  pub second : IsTree t b
  pub are : runs s h ≡ runs t a ++ runs t b
  pub own : owned s h ≡ owned t a ++ owned t b
  pub count : a.count ≡ k
  pub rest : a.count + b.count ≡ h.count
  pub others : (i : ℕ) → among i (owned s h) ≡ false → at t i ≡ at s i
  pub spare : t.spare ≡ s.spare
  pub as_many : made_and_aside t ≡ made_and_aside s

-- a live element became the run at k
pub record Puts (s t : Store) (h : RunTree) (k id : ℕ) (run : Run) (r : RunTree) : Type 0 where
  pub tree : IsTree t r
  pub are : runs t r ≡ take k (runs s h) ++ run ∷ drop k (runs s h)
  pub own : owned t r ≡ take k (owned s h) ++ id ∷ drop k (owned s h)
  pub count : r.count ≡ h.count + 1
  pub others : (i : ℕ) → among i (id ∷ owned s h) ≡ false → at t i ≡ at s i
  pub spare : t.spare ≡ s.spare
  pub as_many : made_and_aside t ≡ made_and_aside s

-- the run at k was removed, and its element is no longer the tree's
pub record CutsOut (s t : Store) (h : RunTree) (k : ℕ) (r : RunTree) (id : ℕ) : Type 0 where
  pub tree : IsTree t r
  pub are : runs t r ≡ take k (runs s h) ++ drop (k + 1) (runs s h)
  pub own : owned t r ≡ take k (owned s h) ++ drop (k + 1) (owned s h)
  pub was : owned s h ≡ take k (owned s h) ++ id ∷ drop (k + 1) (owned s h)
  pub count : r.count + 1 ≡ h.count
  pub kept : at t id ≡ at s id
  pub others : (i : ℕ) → among i (owned s h) ≡ false → at t i ≡ at s i
  pub spare : t.spare ≡ s.spare
  pub as_many : made_and_aside t ≡ made_and_aside s

-- the run at k was replaced, and the head stays
pub record Writes (s t : Store) (h : RunTree) (k : ℕ) (run : Run) : Type 0 where
  pub tree : IsTree t h
  pub are : runs t h ≡ slice_set (runs s h) k run
  pub own : owned t h ≡ owned s h
  pub others : (i : ℕ) → among i (owned s h) ≡ false → at t i ≡ at s i
  pub spare : t.spare ≡ s.spare
  pub as_many : made_and_aside t ≡ made_and_aside s
