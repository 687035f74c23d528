-- A tree of elements: each node has its run, the list before it and the list after it, and writes into its element how
-- many are before it, how long the longest of all its runs is, and how many numbers these have.
use Rattle.std.specs.Prelude.{◌≡◌, ℕ, zero, suc, ◌+◌, ◌-◌, ◌*◌, ◌/◌, ◌%◌, ◌^◌, max, Bool, true, false}
use Rattle.std.specs.Prelude.{List, [], ◌∷◌, ◌++◌, length, Some, slice_index_or}
use Rattle.vsm_elements.specs.declared.element.Element.{Element}
use Rattle.vsm_elements.specs.Store.{Store, at, Distinct}
use Rattle.vsm_elements.specs.Chain.{element}
use Rattle.run_tree.specs.declared.run.Run.{Run}
use Rattle.run_tree.specs.declared.tree.RunTree.{RunTree}

pub data Shape : Type 0 where
  leaf : Shape
  node : Shape → ℕ → Run → Shape → Shape

-- the runs and the ids of a tree, in order

abbrev pub runs_in : Shape → List Run
runs_in leaf = []
runs_in (node l id r q) = runs_in l ++ r ∷ runs_in q

abbrev pub ids_in : Shape → List ℕ
ids_in leaf = []
ids_in (node l id r q) = ids_in l ++ id ∷ ids_in q

abbrev pub size : Shape → ℕ
size t = length (ids_in t)

abbrev pub top : Shape → ℕ
top leaf = 0
top (node l id r q) = id

-- how much room a run has: from its first number, and from its first number on a boundary of 512

abbrev pub plain : Run → ℕ
plain r = r.len

abbrev pub paged : Run → ℕ
paged r = r.start + r.len - (r.start + 511) / 512 * 512

abbrev pub room_of : Bool → Run → ℕ
room_of true r = paged r
room_of false r = plain r

-- the most of these
abbrev pub longest : (Run → ℕ) → List Run → ℕ
longest room [] = 0
longest room (r ∷ rs) = max (room r) (longest room rs)

-- the numbers of all of them
abbrev pub total : List Run → ℕ
total [] = 0
total (r ∷ rs) = r.len + total rs

-- what the element of a node contains: of the numbers, what a word holds of them
abbrev pub written : Shape → Run → Shape → Element
written l r q = record {
  next = top l;
  words = top q ∷ size l ∷ r.start ∷ r.len ∷ longest plain (runs_in l ++ r ∷ runs_in q) ∷
      longest paged (runs_in l ++ r ∷ runs_in q) ∷ total (runs_in l ++ r ∷ runs_in q) % 2 ^ 32 ∷ [];
}

abbrev pub Held : Store → Shape → Type 0
Held s leaf = Unit {0}
Held s (node l id r q) = Held s l × (at s id ≡ Some (written l r q)) × Held s q

-- what is read from an id on, at most this many levels deep
abbrev pub grown : Store → ℕ → ℕ → Shape
grown s zero id = leaf
grown s (suc n) zero = leaf
grown s (suc n) (suc i) = node (grown s n ((element s (suc i)).next)) (suc i)
    (record {
      start = slice_index_or ((element s (suc i)).words) 2 0;
      len = slice_index_or ((element s (suc i)).words) 3 0;
    })
    (grown s n (slice_index_or ((element s (suc i)).words) 0 0))

-- the tree of this head is exactly this one
pub record IsTreeOf (s : Store) (h : RunTree) (t : Shape) : Type 0 where
  pub root : h.root ≡ top t
  pub count : h.count ≡ size t
  pub held : Held s t
  pub distinct : Distinct (ids_in t)
