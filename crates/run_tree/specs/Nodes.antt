-- What a node's element says.
use Rattle.std.specs.Prelude.{◌≡◌, ◌≢◌, ℕ, ◌%◌, ◌^◌, take, drop, slice_index_or, Some, List, [], ◌∷◌, ◌++◌}
use Rattle.vsm_elements.specs.Store.{Store, at, made_and_aside}
use Rattle.vsm_elements.specs.Chain.{element}
use Rattle.run_tree.specs.declared.run.Run.{Run}
use Rattle.run_tree.specs.declared.tree.RunTree.{RunTree}
use Rattle.run_tree.specs.declared.shape.RunNode.{RunNode}
use Rattle.run_tree.specs.declared.shape.Rooms.{Rooms}
use Rattle.run_tree.specs.Shape.{longest, plain, paged, total}
use Rattle.run_tree.specs.Trees.{runs, owned, Opens}

-- it names the tops of the trees below it, how many runs are before, and its run
pub record IsLinked (s : Store) (n : RunNode) : Type 0 where
  pub next : (element s n.id).next ≡ n.left.root
  pub front : take 3 ((element s n.id).words) ≡ n.right.root ∷ n.left.count ∷ n.run.start ∷ []
  pub len : slice_index_or ((element s n.id).words) 3 0 ≡ n.run.len
  pub end : drop 7 ((element s n.id).words) ≡ []

-- this is the most room of all runs, from any number and from one on a page, and what a word holds of their numbers
abbrev pub AreRooms : Rooms → List Run → Type 0
AreRooms r rs = (r.plain ≡ longest plain rs) × (r.paged ≡ longest paged rs) × (r.total ≡ total rs % 2 ^ 32)

-- the rooms of a list to which some runs are added
abbrev pub Adds : Rooms → Rooms → Rooms → Type 0
Adds rooms more next = (xs new ys : List Run) → AreRooms rooms (xs ++ ys) → AreRooms more new →
    AreRooms next (xs ++ (new ++ ys))

-- the rooms of a list in which other runs replace some
abbrev pub Changes : Rooms → Rooms → Rooms → Rooms → Type 0
Changes rooms was now next = (xs old new ys : List Run) → AreRooms rooms (xs ++ (old ++ ys)) →
    AreRooms was old → AreRooms now new → AreRooms next (xs ++ (new ++ ys))

-- how many runs are before the one at the top
abbrev pub top_place : Store → RunTree → ℕ
top_place s h = slice_index_or ((element s h.root).words) 1 0

-- the node's element says that this many runs are before it, and this is the room of all: the rest is as it was
pub record Announces (s t : Store) (h : RunTree) (n : RunNode) (count : ℕ) (rooms : Rooms) : Type 0 where
  pub opens : Opens t h n
  pub are : runs t h ≡ runs s h
  pub own : owned t h ≡ owned s h
  pub says : at t n.id ≡ Some (record {
    next = n.left.root;
    words = n.right.root ∷ count ∷ n.run.start ∷ n.run.len ∷ rooms.plain ∷ rooms.paged ∷ rooms.total ∷ [];
  })
  pub others : (i : ℕ) → i ≢ n.id → at t i ≡ at s i
  pub spare : t.spare ≡ s.spare
  pub as_many : made_and_aside t ≡ made_and_aside s
