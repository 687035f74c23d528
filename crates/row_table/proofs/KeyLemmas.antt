-- Rows as items: what is under two numbers, and that the rows ascend.
use Rattle.std.proofs.Common.{◌≡◌, ℕ, ◌+◌, ◌/◌, ◌%◌, ◌<◌, ◌≤◌, Bool, true, false, ◌==◌, ◌⊎◌, inl, inr, List, [], ◌∷◌, ◌++◌, length, Option, Some, None, IsSome, refl, sym, ap, ◌∙◌, subst, arith}
use Rattle.std.specs.Prelude.{if◌then◌else◌, map, option_map}
use Rattle.std.proofs.lemmas.Bool.Decides.{eqb_tells}
use Rattle.vsm_elements.specs.Store.{Store}
use Rattle.vsm_elements.specs.Chain.{Link, ids}
use Rattle.row_table.specs.declared.item.Item.{Item}
use Rattle.row_table.specs.declared.tree.ItemTree.{ItemTree}
use Rattle.row_table.specs.Items.{key, item_in, AllFrom}
use Rattle.row_table.specs.Items
use Rattle.row_table.specs.Trees.{items, owned}
use Rattle.row_table.proofs.ShapeLemmas.{id_of}
use Rattle.row_table.proofs.TreeLemmas.{owned_ids}
use Rattle.row_table.specs.declared.row.Row.{Row}
use Rattle.row_table.specs.Rows.{word, is_under, row_in, AllBehind, Ascends}
use Rattle.row_table.specs.Keys.{key_of, seven, row_in_item, link_in, links}
use Rattle.row_table.proofs.RowLemmas.{not_both, same_by, same_parts, row_later, differs}
use Rattle.row_table.proofs.NextLemmas.{says_before}

pub false_by : (b : Bool) → (b ≡ true → ⊥) → b ≡ false
false_by true h = absurd (h refl)
false_by false h = refl

pub key_parts : (k a b : ℕ) → a < 256 → k ≡ key_of a b → (k % 256 ≡ a) × (k / 256 ≡ b)
key_parts k a b low e = (omega (arith, e, low), omega (arith, e, low))

pub key_whole : (k : ℕ) → key_of (k % 256) (k / 256) ≡ k
key_whole k = omega arith

pub key_under : (a b : ℕ) (w : List ℕ) → a < 256 → is_under a b (seven w) ≡ (word w 0 == key_of a b)
key_under a b w low = elim (eqb_tells (word w 0) (key_of a b)) [
  | inl p ↦ (let q = key_parts (word w 0) a b low p.1 in same_by (word w 0 % 256) (word w 0 / 256) a b q.0 q.1 ∙ sym p.0)
  | inr p ↦ false_by (is_under a b (seven w)) (λ h. (let q : (word w 0 % 256 ≡ a) × (word w 0 / 256 ≡ b) = same_parts (word w 0 % 256) (word w 0 / 256) a b h in p.1 (omega (arith, q.0, q.1)))) ∙ sym p.0
]

one_step : (a b : ℕ) (n : Item) (ns : List Item) (z : Bool) → row_in a b (map link_in ns) ≡ option_map row_in_item (item_in (key_of a b) ns)
    → (if z then Some (row_in_item n) else row_in a b (map link_in ns)) ≡ option_map row_in_item (if z then Some n else item_in (key_of a b) ns)
one_step a b n ns true e = refl
one_step a b n ns false e = e

-- the row under two numbers is that of the item under their key
pub row_by_item : (a b : ℕ) (ns : List Item) → a < 256 → row_in a b (map link_in ns) ≡ option_map row_in_item (item_in (key_of a b) ns)
row_by_item a b [] low = refl
row_by_item a b (n ∷ ns) low =
    ap (λ (z : Bool). if z then Some (row_in_item n) else row_in a b (map link_in ns)) (key_under a b n.words low)
    ∙ one_step a b n ns (word n.words 0 == key_of a b) (row_by_item a b ns low)

-- no row has a first number of 256 or more
pub none_wide : (a b : ℕ) (ns : List Item) → 256 ≤ a → row_in a b (map link_in ns) ≡ None
none_wide a b [] wide = refl
none_wide a b (n ∷ ns) wide = row_later a b (link_in n) (map link_in ns) (differs (seven n.words) a b (inl (λ e. omega (arith, wide, e)))) ∙ none_wide a b ns wide

some_of_map : (o : Option Item) (r : Row) → option_map row_in_item o ≡ Some r → (n : Item) × ((o ≡ Some n) × (row_in_item n ≡ r))
some_of_map None r e = absurd (no e) where
  no : None ≡ Some r → ⊥
  no e = cc
some_of_map (Some n) r e = (n, (refl, inside e)) where
  inside : Some (row_in_item n) ≡ Some r → row_in_item n ≡ r
  inside e = cc

pub is_some_map : (o : Option Item) → IsSome (option_map row_in_item o) → IsSome o
is_some_map None h = h
is_some_map (Some n) h = refl

pub none_of_map : (o : Option Item) → option_map row_in_item o ≡ None → o ≡ None
none_of_map None h = refl
none_of_map (Some n) h = absurd (no h) where
  no : Some (row_in_item n) ≡ None → ⊥
  no e = cc

wide_or : (a : ℕ) → (a < 256) ⊎ (256 ≤ a)
wide_or a = elim (eqb_tells (a / 256) 0) [
  | inl p ↦ inl (omega (arith, p.1))
  | inr p ↦ inr (omega (arith, p.1))
]

no_row : (o : Option Row) → o ≡ None → IsSome o → ⊥
no_row None e h = not_both false h refl
no_row (Some x) e h = absurd (no e) where
  no : Some x ≡ None → ⊥
  no e = cc

pub some_low : (a b : ℕ) (ns : List Item) → IsSome (row_in a b (map link_in ns)) → a < 256
some_low a b ns h = elim (wide_or a) [
  | inl p ↦ p
  | inr p ↦ absurd (no_row (row_in a b (map link_in ns)) (none_wide a b ns p) h)
]

pub some_item : (a b : ℕ) (ns : List Item) → IsSome (row_in a b (map link_in ns)) → IsSome (item_in (key_of a b) ns)
some_item a b ns h =
    let P : Option Row → Type 0 = λ o. IsSome o in
    is_some_map (item_in (key_of a b) ns) (subst P (row_by_item a b ns (some_low a b ns h)) h)

-- the item of a row
pub item_of_row : (a b : ℕ) (ns : List Item) (r : Row) → row_in a b (map link_in ns) ≡ Some r → (n : Item) × ((item_in (key_of a b) ns ≡ Some n) × (row_in_item n ≡ r))
item_of_row a b ns r e =
    let P : Option Row → Type 0 = λ o. IsSome o in
    let some : IsSome (row_in a b (map link_in ns)) = subst P (sym e) refl in
    some_of_map (item_in (key_of a b) ns) r (sym (row_by_item a b ns (some_low a b ns some)) ∙ e)

pub none_item : (a b : ℕ) (ns : List Item) → a < 256 → row_in a b (map link_in ns) ≡ None → item_in (key_of a b) ns ≡ None
none_item a b ns low e = none_of_map (item_in (key_of a b) ns) (sym (row_by_item a b ns low) ∙ e)

-- what `find` returns

pub found_none : (a b : ℕ) (ns : List Item) (o : Option Item) → a < 256 → o ≡ item_in (key_of a b) ns → o ≡ None → None ≡ row_in a b (map link_in ns)
found_none a b ns o low e f = sym (row_by_item a b ns low ∙ ap (option_map row_in_item) (sym e ∙ f))

pub found_some : (a b : ℕ) (ns : List Item) (o : Option Item) (n : Item) (r : Row) → a < 256 → o ≡ item_in (key_of a b) ns → o ≡ Some n → r ≡ row_in_item n → Some r ≡ row_in a b (map link_in ns)
found_some a b ns o n r low e f same = ap Some same ∙ sym (row_by_item a b ns low ∙ ap (option_map row_in_item) (sym e ∙ f))

-- the rows ascend

links_behind : (k : ℕ) (ns : List Item) → AllFrom (k + 1) ns → AllBehind (k % 256) (k / 256) (map link_in ns)
links_behind k [] h = tt
links_behind k (n ∷ ns) h = (
  says_before (k % 256) (k / 256) (word n.words 0 % 256) (word n.words 0 / 256) (elim (eqb_tells (k / 256) (word n.words 0 / 256)) [
    | inl p ↦ inr (p.1, omega (arith, p.1, h.0))
    | inr p ↦ inl (omega (arith, p.1, h.0))
  ]),
  links_behind k ns h.1,
)

pub links_ascend : (ns : List Item) → Items.Ascends ns → Ascends (map link_in ns)
links_ascend [] h = tt
links_ascend (n ∷ ns) h = (links_behind (word n.words 0) ns h.0, links_ascend ns h.1)

-- lists in parts

pub map_parts : (xs ys : List Item) → map link_in (xs ++ ys) ≡ map link_in xs ++ map link_in ys
map_parts [] ys = refl
map_parts (x ∷ xs) ys = ap (λ (z : List Link). link_in x ∷ z) (map_parts xs ys)

pub ids_links : (ns : List Item) → ids (map link_in ns) ≡ map id_of ns
ids_links [] = refl
ids_links (n ∷ ns) = ap (λ (z : List ℕ). n.id ∷ z) (ids_links ns)

pub owned_links : (s : Store) (h : ItemTree) → owned s h ≡ ids (links s h)
owned_links s h = owned_ids s h ∙ sym (ids_links (items s h))

pub length-links : (ns : List Item) → length (map link_in ns) ≡ length ns
length-links [] = refl
length-links (n ∷ ns) = omega (arith, length-links ns)
