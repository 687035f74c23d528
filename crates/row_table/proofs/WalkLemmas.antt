-- Walks over the rows: the first one, and the one after a place.
use Rattle.std.proofs.Common.{◌≡◌, ◌≢◌, ℕ, zero, suc, ◌+◌, ◌<◌, ◌≤◌, ◌%◌, ◌/◌, Bool, true, inl, inr, List, [], ◌∷◌, ◌++◌, length, take, drop, get_or, Option, Some, None, IsSome, refl, sym, ap, ◌∙◌, subst, append_assoc, arith}
use Rattle.std.specs.Prelude.{if◌then◌else◌, map, option_map, slice_get}
use Rattle.std.proofs.lemmas.List.{take_more, take-append-drop}
use Rattle.std.proofs.lemmas.Bool.Decides.{leb_tells}
use Rattle.vsm_elements.specs.Store.{Store, at, among}
use Rattle.vsm_elements.specs.Chain.{Link, element, last_or}
use Rattle.row_table.specs.declared.item.Item.{Item}
use Rattle.row_table.specs.declared.tree.ItemTree.{ItemTree}
use Rattle.row_table.specs.Items.{key, item_in, item_from, AllBelow, AllFrom, Ascends}
use Rattle.row_table.specs.Trees.{items, owned}
use Rattle.row_table.proofs.Lists.{in_middle}
use Rattle.row_table.proofs.ShapeLemmas.{id_of, ids_append, positive}
use Rattle.row_table.proofs.OrderLemmas.{below_more, below_join, below_middle, ascends_right, from_here, in_here}
use Rattle.row_table.proofs.ItemSetLemmas.{AllStored, stored}
use Rattle.row_table.proofs.TreeLemmas.{owned_ids, length-tree, small_tree}
use Rattle.row_table.specs.declared.row.Row.{Row}
use Rattle.row_table.specs.Rows.{word, row_in}
use Rattle.row_table.specs.Keys.{row_in_item, link_in, links}
use Rattle.row_table.specs.Kept.{IsKept, StandsAt}
use Rattle.row_table.specs.RowTable.{row_of}
use Rattle.row_table.proofs.PlaceLemmas.{last_or-append, next_place}
use Rattle.row_table.proofs.KeyLemmas.{key_whole, row_by_item, map_parts, length-links}

-- lists

map_at : (ns : List Item) (k : ℕ) → slice_get (map link_in ns) k ≡ option_map link_in (slice_get ns k)
map_at [] k = refl
map_at (n ∷ ns) zero = refl
map_at (n ∷ ns) (suc k) = map_at ns k

rows_at : (ns : List Link) (k : ℕ) → slice_get (map row_of ns) k ≡ option_map row_of (slice_get ns k)
rows_at [] k = refl
rows_at (n ∷ ns) zero = refl
rows_at (n ∷ ns) (suc k) = rows_at ns k

row_at : (o : Option Item) → option_map row_of (option_map link_in o) ≡ option_map row_in_item o
row_at None = refl
row_at (Some n) = refl

-- the row at an index is that of the item there
pub rows_item : (ns : List Item) (k : ℕ) → slice_get (map row_of (map link_in ns)) k ≡ option_map row_in_item (slice_get ns k)
rows_item ns k = rows_at (map link_in ns) k ∙ ap (option_map row_of) (map_at ns k) ∙ row_at (slice_get ns k)

take_map : (ns : List Item) (k : ℕ) → take k (map link_in ns) ≡ map link_in (take k ns)
take_map ns zero = refl
take_map [] (suc k) = refl
take_map (n ∷ ns) (suc k) = ap (λ (z : List Link). link_in n ∷ z) (take_map ns k)

pub got_within : (ns : List Item) (k : ℕ) (n : Item) → slice_get ns k ≡ Some n → k < length ns
got_within [] k n e = absurd (no e) where
  no : None ≡ Some n → ⊥
  no e = cc
got_within (m ∷ ns) zero n e = omega arith
got_within (m ∷ ns) (suc k) n e = omega (arith, got_within ns k n e)

-- the first item of a key or above it, by where that is

from_later : (k : ℕ) (x : Item) (xs : List Item) → key x < k → item_from k (x ∷ xs) ≡ item_from k xs
from_later k x xs low = elim (leb_tells k (key x)) [
  | inl p ↦ absurd (omega (arith, p.1, low))
  | inr p ↦ ap (λ (b : Bool). if b then Some x else item_from k xs) p.0
]

from_place : (k : ℕ) (ns : List Item) (index : ℕ) → AllBelow k (take index ns) → AllFrom k (drop index ns) → item_from k ns ≡ slice_get ns index
from_place k [] index b f = refl
from_place k (n ∷ ns) zero b f = from_here k n ns f.0
from_place k (n ∷ ns) (suc i) b f = from_later k n ns b.0 ∙ from_place k ns i b.1 f

all_from_0 : (ns : List Item) → AllFrom 0 ns
all_from_0 [] = tt
all_from_0 (n ∷ ns) = (omega arith, all_from_0 ns)

pub first_is : (ns : List Item) → item_from 0 ns ≡ slice_get ns 0
first_is ns = from_place 0 ns 0 tt (all_from_0 ns)

pub first_cut : (ns : List Item) (n : Item) → item_from 0 ns ≡ Some n → ns ≡ n ∷ drop 1 ns
first_cut [] n e = absurd (no e) where
  no : None ≡ Some n → ⊥
  no e = cc
first_cut (m ∷ ns) n e = go (sym (first_is (m ∷ ns)) ∙ e) where
  go : Some m ≡ Some n → m ∷ ns ≡ n ∷ ns
  go e = cc

pub first_none : (ns : List Item) → item_from 0 ns ≡ None → ns ≡ []
first_none [] e = refl
first_none (m ∷ ns) e = absurd (no (sym (first_is (m ∷ ns)) ∙ e)) where
  no : Some m ≡ None → ⊥
  no e = cc

-- a first row is under its own numbers
pub first_row : (ns : List Item) (n : Item) (r : Row) → item_from 0 ns ≡ Some n → r ≡ row_in_item n → row_in (word r.words 0) (word r.words 1) (map link_in ns) ≡ Some r
first_row ns n r e same =
    let cut : ns ≡ n ∷ drop 1 ns = first_cut ns n e in
    let k : ℕ = word n.words 0 in
    let P : Row → Type 0 = λ x. row_in (word x.words 0) (word x.words 1) (map link_in ns) ≡ Some x in
    subst P (sym same) (row_by_item (k % 256) (k / 256) ns (omega arith)
    ∙ ap (λ (z : ℕ). option_map row_in_item (item_in z ns)) (key_whole k)
    ∙ ap (λ (z : List Item). option_map row_in_item (item_in k z)) cut
    ∙ ap (option_map row_in_item) (in_here k n (drop 1 ns) refl))

-- the item before a place
pub record LastItem (ns : List Item) (index before : ℕ) : Type 0 where
  pub xs : List Item
  pub n : Item
  pub ys : List Item
  pub whole : ns ≡ xs ++ n ∷ ys
  pub front : take index ns ≡ xs ++ n ∷ []
  pub rest : drop index ns ≡ ys
  pub is : n.id ≡ before

abbrev no_item : Item
no_item = record { id = 0; words = [] }

last_item : (ns : List Item) (j before : ℕ) → j < length ns → before ≡ last_or 0 (take (suc j) (map link_in ns)) → LastItem ns (suc j) before
last_item ns j before low e =
    let n : Item = get_or ns j no_item in
    let one : suc j ≡ j + 1 = omega arith in
    let front : take (suc j) ns ≡ take j ns ++ n ∷ [] = ap (λ (k : ℕ). take k ns) one ∙ take_more ns j no_item low in
    record {
      xs = take j ns;
      n = n;
      ys = drop (suc j) ns;
      whole = sym (take-append-drop (suc j) ns) ∙ ap (λ (z : List Item). z ++ drop (suc j) ns) front ∙ append_assoc (take j ns) (n ∷ []) (drop (suc j) ns);
      front = front;
      rest = refl;
      is = sym (e ∙ ap (last_or 0) (take_map ns (suc j) ∙ ap (map link_in) front ∙ map_parts (take j ns) (n ∷ [])) ∙ last_or-append 0 (map link_in (take j ns)) (link_in n));
    }

middle_stored : (s : Store) (xs : List Item) (n : Item) (ys : List Item) → AllStored s (xs ++ n ∷ ys) → (n.words ≡ drop 1 ((element s n.id).words)) × IsSome (at s n.id)
middle_stored s [] n ys h = h.0
middle_stored s (x ∷ xs) n ys h = middle_stored s xs n ys h.1

module _ (s : Store) (q : ItemTree) (kept : IsKept s q) (index before : ℕ) (place : StandsAt s q index before) where
  abbrev ns : List Item
  ns = items s q

  last_stored : (l : LastItem ns index before) → (l.n.words ≡ drop 1 ((element s before).words)) × IsSome (at s before)
  last_stored l =
      let P : List Item → Type 0 = AllStored s in
      let Q : ℕ → Type 0 = λ i. (l.n.words ≡ drop 1 ((element s i).words)) × IsSome (at s i) in
      subst Q l.is (middle_stored s l.xs l.n l.ys (subst P l.whole (stored s q kept.tree)))

  pub front_place : before ≡ 0 → item_from 0 ns ≡ slice_get ns index
  front_place e = go index place where
    go : (i : ℕ) → StandsAt s q i before → item_from 0 ns ≡ slice_get ns i
    go zero p = first_is ns
    go (suc j) p =
        let l : LastItem ns (suc j) before = last_item ns j before (omega (arith, p.within, length-links ns)) p.behind in
        let P : List Item → Type 0 = AllStored s in
        let st = middle_stored s l.xs l.n l.ys (subst P l.whole (stored s q kept.tree)) in
        absurd (omega (arith, positive s l.n.id st.1, l.is, e))

  pub last_there : before ≢ 0 → LastItem ns index before
  last_there ne = go index place where
    go : (i : ℕ) → StandsAt s q i before → LastItem ns i before
    go zero p = absurd (ne p.behind)
    go (suc j) p = last_item ns j before (omega (arith, p.within, length-links ns)) p.behind

  pub last_owned : before ≢ 0 → among before (owned s q) ≡ true
  last_owned ne =
      let l : LastItem ns index before = last_there ne in
      let ids : owned s q ≡ map id_of l.xs ++ l.n.id ∷ map id_of l.ys = owned_ids s q ∙ ap (map id_of) l.whole ∙ ids_append l.xs (l.n ∷ l.ys) in
      ap (λ (z : ℕ). among z (owned s q)) (sym l.is) ∙ ap (among l.n.id) ids ∙ in_middle (map id_of l.xs) l.n.id (map id_of l.ys)

  pub inner_place : before ≢ 0 → (k : ℕ) (words : List ℕ) → words ≡ drop 1 ((element s before).words) → k ≡ word words 0 + 1 → item_from k ns ≡ slice_get ns index
  inner_place ne k words w e =
      let l : LastItem ns index before = last_there ne in
      let same : word words 0 ≡ key l.n = ap (λ (v : List ℕ). word v 0) (w ∙ sym (last_stored l).0) in
      let k_is : k ≡ key l.n + 1 = omega (arith, e, same) in
      let P : List Item → Type 0 = Ascends in
      let order : Ascends (l.xs ++ l.n ∷ l.ys) = subst P l.whole kept.ascends in
      let B : List Item → Type 0 = AllBelow k in
      let F : List Item → Type 0 = AllFrom k in
      let G : ℕ → Type 0 = λ z. AllFrom z l.ys in
      from_place k ns index
      (subst B (sym l.front) (below_join k l.xs (l.n ∷ []) (below_more (key l.n) k l.xs (omega (arith, k_is)) (below_middle l.xs l.n l.ys order)) (omega (arith, k_is), tt)))
      (subst F (sym l.rest) (subst G (sym k_is) (ascends_right l.xs (l.n ∷ l.ys) order).0))

  -- the place after the row that is read
  pub next_stands : (n : Item) → slice_get ns index ≡ Some n → StandsAt s q (index + 1) n.id
  next_stands n e =
      let low : index < length ns = got_within ns index n e in
      record {
        within = omega (arith, low, length-links ns);
        behind = sym (next_place (links s q) index (link_in n) (map_at ns index ∙ ap (option_map link_in) e) (omega (arith, low, length-links ns)));
      }

  pub next_fits : (n : Item) → slice_get ns index ≡ Some n → index + 1 ≤ 4294967040
  next_fits n e = omega (arith, got_within ns index n e, length-tree s q, small_tree s q kept.tree)

pub first_there : (ns : List Item) (n : Item) → item_from 0 ns ≡ Some n → IsSome (item_in (key n) ns)
first_there ns n e =
    let P : Option Item → Type 0 = λ o. IsSome o in
    subst P (sym (ap (item_in (key n)) (first_cut ns n e) ∙ in_here (key n) n (drop 1 ns) refl)) refl
