-- A table by its parts, its last row, and lists of rows that are equal.
use Rattle.std.proofs.Common.{◌≡◌, ℕ, ◌≤◌, Bool, true, inl, inr, List, [], ◌∷◌, ◌++◌, length, Option, Some, None, refl, sym, ap, ◌∙◌, subst, arith}
use Rattle.std.specs.Prelude.{map, option_map, if◌then◌else◌}
use Rattle.vsm_elements.specs.Store.{Store}
use Rattle.row_table.specs.declared.item.Item.{Item}
use Rattle.row_table.specs.declared.tree.ItemTree.{ItemTree}
use Rattle.row_table.specs.declared.shape.Node.{Node}
use Rattle.row_table.specs.Items.{Ascends, last_item, item_or}
use Rattle.row_table.specs.Trees.{items, Opens}
use Rattle.row_table.proofs.ShapeLemmas.{id_of}
use Rattle.row_table.proofs.OrderLemmas.{ascends_left, ascends_right}
use Rattle.row_table.proofs.TreeLemmas.{owned_ids, length-tree, small_tree}
use Rattle.row_table.specs.declared.row.Row.{Row}
use Rattle.row_table.specs.Rows.{word, is_under, comes_before, RowsBehind, AreInOrder, AreLow, row_among, row_or, last_row}
use Rattle.row_table.specs.Keys.{row_in_item, link_in}
use Rattle.row_table.specs.Kept.{IsKept}
use Rattle.row_table.specs.RowTable.{row_of, rows, owned}
use Rattle.row_table.specs.Laws.{RowsOwn, RowsAreLow, RowsAreOne}
use Rattle.row_table.proofs.RowLemmas.{either, none_some, same_parts, same_self}
use Rattle.row_table.proofs.NextLemmas.{before_more, not_before}

-- the rows of items
abbrev pub rows_in : List Item → List Row
rows_in ns = map row_of (map link_in ns)

pub rows-append : (xs ys : List Item) → rows_in (xs ++ ys) ≡ rows_in xs ++ rows_in ys
rows-append [] ys = refl
rows-append (x ∷ xs) ys = ap (λ (z : List Row). row_in_item x ∷ z) (rows-append xs ys)

pub half_kept : (s : Store) (q : ItemTree) (n : Node) → IsKept s q → Opens s q n → IsKept s n.left × IsKept s n.right
half_kept s q n h o =
    let P : List Item → Type 0 = Ascends in
    let order : Ascends (items s n.left ++ n.item ∷ items s n.right) = subst P o.are h.ascends in (
      record { tree = o.left; ascends = ascends_left (items s n.left) (n.item ∷ items s n.right) order },
      record { tree = o.right; ascends = (ascends_right (items s n.left) (n.item ∷ items s n.right) order).1 },
    )

pub rows_are_low : RowsAreLow
unfolding rows
rows_are_low s q = go (items s q.tree) where
  go : (ns : List Item) → AreLow (rows_in ns)
  go [] = tt
  go (n ∷ ns) = (omega arith, go ns)

last_of : (n : Item) (o : Option Item) → row_in_item (item_or n o) ≡ row_or (row_in_item n) (option_map row_in_item o)
last_of n None = refl
last_of n (Some m) = refl

pub last_rows : (ns : List Item) → last_row (rows_in ns) ≡ option_map row_in_item (last_item ns)
last_rows [] = refl
last_rows (n ∷ ns) = ap (λ (o : Option Row). Some (row_or (row_in_item n) o)) (last_rows ns) ∙ ap Some (sym (last_of n (last_item ns)))

length-rows : (ns : List Item) → length (rows_in ns) ≡ length ns
length-rows [] = refl
length-rows (n ∷ ns) = omega (arith, length-rows ns)

pub few_rows : (s : Store) (q : ItemTree) → IsKept s q → length (rows_in (items s q)) ≤ 4294967040
few_rows s q h = omega (arith, length-rows (items s q), length-tree s q, small_tree s q h.tree)

ids_of : (ns : List Item) → map id_of ns ≡ map (λ r. r.id) (rows_in ns)
ids_of [] = refl
ids_of (n ∷ ns) = ap (λ (z : List ℕ). n.id ∷ z) (ids_of ns)

pub rows_own : RowsOwn
unfolding rows owned
rows_own s q = owned_ids s q.tree ∙ ids_of (items s q.tree)

-- no row after a key is under it, or under one before it
none_behind : (a b : ℕ) (rs : List Row) → RowsBehind a b rs → row_among a b rs ≡ None
none_behind a b [] h = refl
none_behind a b (r ∷ rs) h = elim (either (is_under a b r.words)) [
  | inl p ↦ (let q : (word r.words 0 ≡ a) × (word r.words 1 ≡ b) = same_parts (word r.words 0) (word r.words 1) a b p in
      absurd (not_before a b (ap (λ (z : ℕ). comes_before a b z b) (sym q.0) ∙ ap (λ (z : ℕ). comes_before a b (word r.words 0) z) (sym q.1) ∙ h.0)))
  | inr p ↦ ap (λ (z : Bool). if z then Some r else row_among a b rs) p ∙ none_behind a b rs h.1
]

behind_more : (x y a b : ℕ) (rs : List Row) → comes_before x y a b ≡ true → RowsBehind a b rs → RowsBehind x y rs
behind_more x y a b [] e h = tt
behind_more x y a b (r ∷ rs) e h = (before_more x y a b (word r.words 0) (word r.words 1) e h.0, behind_more x y a b rs e h.1)

first_among : (r : Row) (rs : List Row) → row_among (word r.words 0) (word r.words 1) (r ∷ rs) ≡ Some r
first_among r rs = ap (λ (z : Bool). if z then Some r else row_among (word r.words 0) (word r.words 1) rs) (same_self (word r.words 0) (word r.words 1))

-- what is found is after it, if all are
found_behind : (x y a b : ℕ) (rs : List Row) (r : Row) → RowsBehind x y rs → row_among a b rs ≡ Some r → comes_before x y a b ≡ true
found_behind x y a b [] r h e = absurd (none_some None r refl e)
found_behind x y a b (q ∷ rs) r h e = elim (either (is_under a b q.words)) [
  | inl p ↦ (let k : (word q.words 0 ≡ a) × (word q.words 1 ≡ b) = same_parts (word q.words 0) (word q.words 1) a b p in
      ap (λ (z : ℕ). comes_before x y z b) (sym k.0) ∙ ap (λ (z : ℕ). comes_before x y (word q.words 0) z) (sym k.1) ∙ h.0)
  | inr p ↦ found_behind x y a b rs r h.1 (sym (ap (λ (z : Bool). if z then Some q else row_among a b rs) p) ∙ e)
]

some_row : (x y : Row) → Some x ≡ Some y → x ≡ y
some_row x y e = cc

-- the first rows are equal
heads : (x y : Row) (xs ys : List Row) → AreInOrder (x ∷ xs) → AreInOrder (y ∷ ys) → ((a b : ℕ) → row_among a b (x ∷ xs) ≡ row_among a b (y ∷ ys)) → x ≡ y
heads x y xs ys h k e = elim (either (is_under (word x.words 0) (word x.words 1) y.words)) [
  | inl p ↦ some_row x y (sym (first_among x xs) ∙ e (word x.words 0) (word x.words 1) ∙ ap (λ (z : Bool). if z then Some y else row_among (word x.words 0) (word x.words 1) ys) p)
  | inr p ↦ elim (either (is_under (word y.words 0) (word y.words 1) x.words)) [
    | inl q ↦ some_row x y (sym (sym (first_among y ys) ∙ sym (e (word y.words 0) (word y.words 1)) ∙ ap (λ (z : Bool). if z then Some x else row_among (word y.words 0) (word y.words 1) xs) q))
    | inr q ↦ (let later : row_among (word x.words 0) (word x.words 1) ys ≡ Some x = sym (ap (λ (z : Bool). if z then Some y else row_among (word x.words 0) (word x.words 1) ys) p) ∙ sym (e (word x.words 0) (word x.words 1)) ∙ first_among x xs in
        let other : row_among (word y.words 0) (word y.words 1) xs ≡ Some y = sym (ap (λ (z : Bool). if z then Some x else row_among (word y.words 0) (word y.words 1) xs) q) ∙ e (word y.words 0) (word y.words 1) ∙ first_among y ys in
        let to : comes_before (word y.words 0) (word y.words 1) (word x.words 0) (word x.words 1) ≡ true = found_behind (word y.words 0) (word y.words 1) (word x.words 0) (word x.words 1) ys x k.0 later in
        let from : comes_before (word x.words 0) (word x.words 1) (word y.words 0) (word y.words 1) ≡ true = found_behind (word x.words 0) (word x.words 1) (word y.words 0) (word y.words 1) xs y h.0 other in
        absurd (not_before (word x.words 0) (word x.words 1) (before_more (word x.words 0) (word x.words 1) (word y.words 0) (word y.words 1) (word x.words 0) (word x.words 1) from to)))
  ]
]

-- and so are the rest
rest_of : (x : Row) (xs ys : List Row) → RowsBehind (word x.words 0) (word x.words 1) xs → RowsBehind (word x.words 0) (word x.words 1) ys → ((a b : ℕ) → row_among a b (x ∷ xs) ≡ row_among a b (x ∷ ys)) → (a b : ℕ) → row_among a b xs ≡ row_among a b ys
rest_of x xs ys h k e a b = elim (either (is_under a b x.words)) [
  | inl p ↦ (let q : (word x.words 0 ≡ a) × (word x.words 1 ≡ b) = same_parts (word x.words 0) (word x.words 1) a b p in
      let none : (zs : List Row) → RowsBehind (word x.words 0) (word x.words 1) zs → row_among a b zs ≡ None = λ zs w. ap (λ (z : ℕ). row_among z b zs) (sym q.0) ∙ ap (λ (z : ℕ). row_among (word x.words 0) z zs) (sym q.1) ∙ none_behind (word x.words 0) (word x.words 1) zs w in
      none xs h ∙ sym (none ys k))
  | inr p ↦ sym (ap (λ (z : Bool). if z then Some x else row_among a b xs) p) ∙ e a b ∙ ap (λ (z : Bool). if z then Some x else row_among a b ys) p
]

pub rows_are_one : RowsAreOne
rows_are_one [] [] h k e = refl
rows_are_one [] (y ∷ ys) h k e = absurd (none_some None y refl (e (word y.words 0) (word y.words 1) ∙ first_among y ys))
rows_are_one (x ∷ xs) [] h k e = absurd (none_some None x refl (sym (e (word x.words 0) (word x.words 1)) ∙ first_among x xs))
rows_are_one (x ∷ xs) (y ∷ ys) h k e =
    let same : x ≡ y = heads x y xs ys h k e in
    let B : Row → Type 0 = λ z. RowsBehind (word z.words 0) (word z.words 1) ys in
    let E : Row → Type 0 = λ z. (a b : ℕ) → row_among a b (x ∷ xs) ≡ row_among a b (z ∷ ys) in
    ap (λ (z : Row). z ∷ xs) same
    ∙ ap (λ (z : List Row). y ∷ z) (rows_are_one xs ys h.1 k.1 (rest_of x xs ys h.0 (subst B (sym same) k.0) (subst E (sym same) e)))
