-- What the calls on a tree do to its rows.
use Rattle.std.proofs.Common.{◌≡◌, ℕ, ◌+◌, ◌<◌, ◌≤◌, Bool, true, false, ◌==◌, inl, inr, List, [], ◌∷◌, ◌++◌, drop, Option, Some, None, IsSome, refl, sym, ap, ◌∙◌, subst, arith}
use Rattle.std.specs.Prelude.{if◌then◌else◌, map, option_map}
use Rattle.std.proofs.lemmas.Bool.Decides.{eqb_tells}
use Rattle.vsm_elements.specs.declared.element.Element.{Element}
use Rattle.vsm_elements.specs.Store.{Store, at, among, Updates}
use Rattle.vsm_elements.specs.Chain.{Link}
use Rattle.vsm_elements.specs.Ownership.{Leaves}
use Rattle.vsm_elements.proofs.StoreLemmas.{among_first, among_later}
use Rattle.vsm_elements.proofs.ChainFrame.{gone}
use Rattle.row_table.specs.declared.item.Item.{Item}
use Rattle.row_table.specs.declared.tree.ItemTree.{ItemTree}
use Rattle.row_table.specs.Items.{key, item_in, item_from, AllBelow, AllFrom}
use Rattle.row_table.specs.Items
use Rattle.row_table.specs.Trees.{items, owned, IsTree, IsPut, Puts, Takes, Writes}
use Rattle.row_table.proofs.OrderLemmas.{in_none_below, in_behind, in_here}
use Rattle.row_table.proofs.ItemSetLemmas.{stored}
use Rattle.row_table.proofs.ShapeLemmas.{id_of}
use Rattle.row_table.proofs.TreeLemmas.{owned_ids, tree_kept, items_kept, owned_kept}
use Rattle.row_table.proofs.Lists.{out_cons, out_of_cons}
use Rattle.row_table.specs.declared.row.Row.{Row}
use Rattle.row_table.specs.Rows.{word, same_key, is_under, row_in, Single, Ascends}
use Rattle.row_table.specs.Keys.{key_of, seven, row_in_item, link_in, links}
use Rattle.row_table.specs.Kept.{IsKept}
use Rattle.std.proofs.lemmas.Bool.{cond-true}
use Rattle.row_table.proofs.RowLemmas.{not_both, same_sym, same_parts, row_gone, row_put}
use Rattle.row_table.proofs.AscendLemmas.{single}
use Rattle.row_table.proofs.KeyLemmas.{false_by, key_parts, row_by_item, links_ascend, map_parts}
use Rattle.row_table.proofs.TableLemmas.{stored_in}

-- a row is removed
module _ (s t : Store) (h r : ItemTree) (a b : ℕ) (item : Item) (kept : IsKept s h) (low : a < 256) (k : Takes s t h (key_of a b) item r) where
  abbrev xs : List Link
  xs = map link_in k.taken.before

  abbrev ys : List Link
  ys = map link_in k.taken.behind

  abbrev n : Link
  n = link_in item

  whole : links s h ≡ xs ++ n ∷ ys
  whole = ap (map link_in) k.taken.are ∙ map_parts k.taken.before (item ∷ k.taken.behind)

  rest : links t r ≡ xs ++ ys
  rest = ap (map link_in) k.taken.were ∙ map_parts k.taken.before k.taken.behind

  alone : Single (xs ++ n ∷ ys)
  alone = let P : List Link → Type 0 = Ascends in single (xs ++ n ∷ ys) (subst P whole (links_ascend (items s h) kept.ascends))

  under_is : (x y : ℕ) → is_under x y n.words ≡ same_key a b x y
  under_is x y =
      let p = key_parts (key item) a b low k.key in
      ap (λ (z : ℕ). same_key z (word n.words 1) x y) p.0 ∙ ap (λ (z : ℕ). same_key a z x y) p.1

  pub took_row : row_in a b (links s h) ≡ Some (row_in_item item)
  took_row =
      let Q : ℕ → Type 0 = λ z. AllBelow z k.taken.before in
      row_by_item a b (items s h) low
      ∙ ap (option_map row_in_item) (ap (item_in (key_of a b)) k.taken.are
      ∙ in_behind (key_of a b) k.taken.before (item ∷ k.taken.behind) (in_none_below (key_of a b) k.taken.before (subst Q k.key k.taken.below))
      ∙ in_here (key_of a b) item k.taken.behind k.key)

  pub took_rows : (x y : ℕ) → row_in x y (links t r) ≡ (if same_key a b x y then None else row_in x y (links s h))
  took_rows x y =
      ap (row_in x y) rest ∙ row_gone x y n xs ys alone
      ∙ ap (λ (z : Bool). if z then None else row_in x y (xs ++ n ∷ ys)) (under_is x y) ∙ ap (λ (z : List Link). if same_key a b x y then None else row_in x y z) (sym whole)

  pub took_kept : IsKept t r
  took_kept = record { tree = k.tree; ascends = k.order }

-- which elements are owned after an item was removed
pub took_leaves : (s t : Store) (h r : ItemTree) (m : ℕ) (item : Item) → Takes s t h m item r → Leaves s t (owned s h) (item.id ∷ owned t r)
took_leaves s t h r m item k = record {
  others = λ i p q. k.others i p;
  gained = λ i p q. absurd (not_both (among i (owned s h)) (k.member i ∙ q) p);
  lost = λ i p q. absurd (not_both (among i (item.id ∷ owned t r)) (sym (k.member i) ∙ p) q);
  spare = omega (arith, k.spare, k.length);
  as_many = k.as_many;
}

-- and after it was given back
pub gave_leaves : (s u t : Store) (h r : ItemTree) (m : ℕ) (item : Item) → Takes s u h m item r → IsTree t r → owned t r ≡ owned u r → Updates u t item.id None → t.spare ≡ u.spare + 1 → Leaves s t (owned s h) (owned t r)
gave_leaves s u t h r m item k tree own up more =
    let P : List ℕ → Type 0 = λ z. Leaves s t (owned s h) z in
    subst P (sym own) (record {
      others = λ i p q. up.others i (out_cons i item.id (owned u r) (sym (k.member i) ∙ p)).0 ∙ k.others i p;
      gained = λ i p q. absurd (not_both (among i (owned s h)) (k.member i ∙ among_later i item.id (owned u r) q) p);
      lost = λ i p q. elim (eqb_tells i item.id) [
        | inl e ↦ ap (at t) e.1 ∙ up.changed
        | inr e ↦ absurd (not_both (among i (item.id ∷ owned u r)) (sym (k.member i) ∙ p) (out_of_cons i item.id (owned u r) e.1 q))
      ];
      spare = omega (arith, more, k.spare, k.length);
      as_many = up.as_many ∙ k.as_many;
    })

-- what is left stays while the element is given back
pub left_same : (s u t : Store) (h r : ItemTree) (m : ℕ) (item : Item) → Takes s u h m item r → Updates u t item.id None → (i : ℕ) → among i (owned u r) ≡ true → at t i ≡ at u i
left_same s u t h r m item k up i p = up.others i (λ e. not_both (among i (owned u r)) p (ap (λ (z : ℕ). among z (owned u r)) e ∙ k.out))

-- a row is inserted
module _ (s t : Store) (h r : ItemTree) (item : Item) (words : List ℕ) (back : seven item.words ≡ words) (kept : IsKept s h)
    (absent : row_in (word words 0) (word words 1) (links s h) ≡ None) (p : Puts s t h item r) where
  abbrev xs' : List Link
  xs' = map link_in p.put.before

  abbrev ys' : List Link
  ys' = map link_in p.put.behind

  abbrev m : Link
  m = record { id = item.id; words = words }

  same : link_in item ≡ m
  same = ap (λ (w : List ℕ). record { id = item.id; words = w }) back

  were : links s h ≡ xs' ++ ys'
  were = ap (map link_in) p.put.were ∙ map_parts p.put.before p.put.behind

  are : links t r ≡ xs' ++ m ∷ ys'
  are = ap (map link_in) p.put.are ∙ map_parts p.put.before (item ∷ p.put.behind) ∙ ap (λ (z : Link). xs' ++ z ∷ ys') same

  pub put_rows : (a b : ℕ) → row_in a b (links t r) ≡ (if is_under a b words then Some (record { id = item.id; words = words }) else row_in a b (links s h))
  put_rows a b =
      ap (row_in a b) are ∙ row_put a b m xs' ys' (sym (ap (row_in (word words 0) (word words 1)) were) ∙ absent)
      ∙ ap (λ (z : List Link). if is_under a b words then Some (record { id = item.id; words = words }) else row_in a b z) (sym were)

  pub put_kept : IsKept t r
  put_kept = record { tree = p.tree; ascends = p.order }

pub put_leaves : (s t : Store) (h r : ItemTree) (item : Item) → Puts s t h item r → Leaves s t (item.id ∷ owned s h) (owned t r)
put_leaves s t h r item p = record {
  others = λ i x y. p.others i x;
  gained = λ i x y. absurd (not_both (among i (owned t r)) y (p.member i ∙ x));
  lost = λ i x y. absurd (not_both (among i (item.id ∷ owned s h)) x (sym (p.member i) ∙ y));
  spare = omega (arith, p.spare, p.length);
  as_many = p.as_many;
}

-- a row is written, under its key
same_order : (xs : List Item) (n m : Item) (ys : List Item) → key m ≡ key n → Items.Ascends (xs ++ n ∷ ys) → Items.Ascends (xs ++ m ∷ ys)
same_order [] n m ys e h = let P : ℕ → Type 0 = λ z. AllFrom (z + 1) ys in (subst P (sym e) h.0, h.1)
same_order (x ∷ xs) n m ys e h = (above xs h.0, same_order xs n m ys e h.1) where
  above : (zs : List Item) → AllFrom (key x + 1) (zs ++ n ∷ ys) → AllFrom (key x + 1) (zs ++ m ∷ ys)
  above [] f = let P : ℕ → Type 0 = λ z. key x + 1 ≤ z in (subst P (sym e) f.0, f.1)
  above (z ∷ zs) f = (f.0, above zs f.1)

module _ (s t : Store) (h : ItemTree) (a b : ℕ) (item : Item) (six words : List ℕ) (kept : IsKept s h) (low : a < 256)
    (found : item_in (key_of a b) (items s h) ≡ Some item) (key_is : word six 0 ≡ word item.words 0) (here : key item ≡ key_of a b)
    (back : seven six ≡ words) (under : is_under a b words ≡ true) (w : Writes s t h item.id six) where
  abbrev before : List Item
  before = w.set.before

  abbrev behind : List Item
  behind = w.set.behind

  abbrev xs'' : List Link
  xs'' = map link_in before

  abbrev ys'' : List Link
  ys'' = map link_in behind

  old_is : w.set.old ≡ item
  old_is =
      let e : w.set.old.words ≡ item.words = w.was ∙ sym (stored_in s (key_of a b) (items s h) (stored s h kept.tree) item found).0 in
      ap (λ (i : ℕ). record { id = i; words = w.set.old.words }) w.set.named ∙ ap (λ (v : List ℕ). record { id = item.id; words = v }) e

  were'' : items s h ≡ before ++ item ∷ behind
  were'' = w.set.were ∙ ap (λ (z : Item). before ++ z ∷ behind) old_is

  whole'' : links s h ≡ xs'' ++ link_in item ∷ ys''
  whole'' = ap (map link_in) were'' ∙ map_parts before (item ∷ behind)

  abbrev m'' : Link
  m'' = record { id = item.id; words = words }

  are'' : links t h ≡ xs'' ++ m'' ∷ ys''
  are'' = ap (map link_in) w.set.are ∙ map_parts before (record { id = item.id; words = six } ∷ behind) ∙ ap (λ (v : List ℕ). xs'' ++ record { id = item.id; words = v } ∷ ys'') back

  alone'' : Single (xs'' ++ link_in item ∷ ys'')
  alone'' = let P : List Link → Type 0 = Ascends in single (xs'' ++ link_in item ∷ ys'') (subst P whole'' (links_ascend (items s h) kept.ascends))

  under_is'' : (x y : ℕ) → is_under x y (seven item.words) ≡ same_key a b x y
  under_is'' x y =
      let p = key_parts (key item) a b low here in
      ap (λ (z : ℕ). same_key z (word (seven item.words) 1) x y) p.0 ∙ ap (λ (z : ℕ). same_key a z x y) p.1

  left'' : (x y : ℕ) → row_in x y (xs'' ++ ys'') ≡ (if same_key a b x y then None else row_in x y (links s h))
  left'' x y =
      row_gone x y (link_in item) xs'' ys'' alone''
      ∙ ap (λ (z : Bool). if z then None else row_in x y (xs'' ++ link_in item ∷ ys'')) (under_is'' x y) ∙ ap (λ (z : List Link). if same_key a b x y then None else row_in x y z) (sym whole'')

  found'' : row_in a b (links s h) ≡ Some (row_in_item item)
  found'' = row_by_item a b (items s h) low ∙ ap (option_map row_in_item) found

  absent'' : row_in (word words 0) (word words 1) (xs'' ++ ys'') ≡ None
  absent'' = left'' (word words 0) (word words 1) ∙ cond-true (same_key a b (word words 0) (word words 1)) None (row_in (word words 0) (word words 1) (links s h)) (same_sym a b (word words 0) (word words 1) ∙ under)

  pub set_rows : (x y : ℕ) → row_in x y (links t h)
      ≡ (if is_under x y words then option_map (λ (r : Row). record { id = r.id; words = words }) (row_in a b (links s h)) else (if same_key a b x y then None else row_in x y (links s h)))
  set_rows x y =
      ap (row_in x y) are'' ∙ row_put x y m'' xs'' ys'' absent''
      ∙ ap (λ (z : Option Row). if is_under x y words then Some (record { id = item.id; words = words }) else z) (left'' x y)
      ∙ ap (λ (z : Option Row). if is_under x y words then option_map (λ (r : Row). record { id = r.id; words = words }) z else (if same_key a b x y then None else row_in x y (links s h))) (sym found'')

  pub set_kept : IsKept t h
  set_kept =
      let P : List Item → Type 0 = Items.Ascends in
      record {
        tree = w.tree;
        ascends = subst P (sym w.set.are) (same_order before item (record { id = item.id; words = six }) behind key_is (subst P were'' kept.ascends));
      }

pub set_leaves : (s t : Store) (h : ItemTree) (id : ℕ) (six : List ℕ) → Writes s t h id six → among id (owned s h) ≡ true → Leaves s t (owned s h) (owned t h)
set_leaves s t h id six w there =
    let P : List ℕ → Type 0 = λ z. Leaves s t (owned s h) z in
    subst P (sym w.own) (record {
      others = λ i p q. w.others i (out_of_cons i id [] (λ e. not_both (among i (owned s h)) (ap (λ (z : ℕ). among z (owned s h)) e ∙ there) p) refl);
      gained = λ i p q. absurd (not_both (among i (owned s h)) q p);
      lost = λ i p q. absurd (not_both (among i (owned s h)) p q);
      spare = omega (arith, w.spare);
      as_many = w.as_many;
    })

-- look-ups

pub takes_key : (s t : Store) (h r : ItemTree) (item : Item) (m k : ℕ) → m ≡ k → Takes s t h m item r → Takes s t h k item r
takes_key s t h r item m k e x = let P : ℕ → Type 0 = λ j. Takes s t h j item r in subst P e x

pub not_none : (o : Option Item) → o ≡ None → IsSome o → ⊥
not_none None e h = not_both false h refl
not_none (Some n) e h = absurd (no e) where
  no : Some n ≡ None → ⊥
  no e = cc

found_step : (k : ℕ) (m n : Item) (o : Option Item) (ids : List ℕ) → ((key m == k) ≡ true → key m ≡ k) → (o ≡ Some n → (key n ≡ k) × (among n.id ids ≡ true))
    → (z : Bool) → (key m == k) ≡ z → (if z then Some m else o) ≡ Some n → (key n ≡ k) × (among n.id (m.id ∷ ids) ≡ true)
found_step k m n o ids at rest true p e =
    let same : m ≡ n = inside e in
    let P : Item → Type 0 = λ x. (key x ≡ k) × (among x.id (m.id ∷ ids) ≡ true) in
    subst P same (at p, among_first m.id ids) where
      inside : Some m ≡ Some n → m ≡ n
      inside e = cc
found_step k m n o ids at rest false p e = let r = rest e in (r.0, among_later n.id m.id ids r.1)

tells : (a b : ℕ) → (a == b) ≡ true → a ≡ b
tells a b h = elim (eqb_tells a b) [
  | inl p ↦ p.1
  | inr p ↦ absurd (not_both (a == b) h p.0)
]

found_says : (k : ℕ) (ns : List Item) (n : Item) → item_in k ns ≡ Some n → (key n ≡ k) × (among n.id (map id_of ns) ≡ true)
found_says k [] n e = absurd (no e) where
  no : None ≡ Some n → ⊥
  no e = cc
found_says k (m ∷ ns) n e = found_step k m n (item_in k ns) (map id_of ns) (tells (key m) k) (found_says k ns n) (key m == k) refl e

pub found_key : (k : ℕ) (ns : List Item) (n : Item) → item_in k ns ≡ Some n → key n ≡ k
found_key k ns n e = (found_says k ns n e).0

pub found_owned : (s : Store) (h : ItemTree) (k : ℕ) (n : Item) → item_in k (items s h) ≡ Some n → among n.id (owned s h) ≡ true
found_owned s h k n e = ap (among n.id) (owned_ids s h) ∙ (found_says k (items s h) n e).1

pub own_key : (a b k : ℕ) (words : List ℕ) → is_under a b words ≡ true → k ≡ key_of a b → a < 256 → (k ≡ key_of (word words 0) (word words 1)) × (word words 0 < 256)
own_key a b k words under e low =
    let p : (word words 0 ≡ a) × (word words 1 ≡ b) = same_parts (word words 0) (word words 1) a b under in
    (omega (arith, e, p.0, p.1), omega (arith, low, p.0))

-- a call that leaves an element of its own, which is then given back
pub given_back : (s u t : Store) (x : ℕ) (had has : List ℕ) → Leaves s u had (x ∷ has) → among x has ≡ false → Updates u t x None → t.spare ≡ u.spare + 1 → Leaves s t had has
given_back s u t x had has l out up more = record {
  others = λ i p q. elim (eqb_tells i x) [
    | inl e ↦ ap (at t) e.1 ∙ up.changed ∙ sym (l.gained i p (ap (λ (z : ℕ). among z (x ∷ has)) e.1 ∙ among_first x has))
    | inr e ↦ up.others i e.1 ∙ l.others i p (out_of_cons i x has e.1 q)
  ];
  gained = λ i p q. l.gained i p (among_later i x has q);
  lost = λ i p q. elim (eqb_tells i x) [
    | inl e ↦ ap (at t) e.1 ∙ up.changed
    | inr e ↦ up.others i e.1 ∙ l.lost i p (out_of_cons i x has e.1 q)
  ];
  spare = omega (arith, more, l.spare);
  as_many = up.as_many ∙ l.as_many;
}

-- an element that is taken, and a call that gets it
pub taken_first : (s u t : Store) (x : ℕ) (e : Option Element) (had has : List ℕ) → at s x ≡ None → Updates s u x e → u.spare + 1 ≡ s.spare → Leaves u t (x ∷ had) has → Leaves s t had has
taken_first s u t x e had has fresh up fewer l = record {
  others = λ i p q. elim (eqb_tells i x) [
    | inl y ↦ l.lost i (ap (λ (z : ℕ). among z (x ∷ had)) y.1 ∙ among_first x had) q ∙ sym (ap (at s) y.1 ∙ fresh)
    | inr y ↦ l.others i (out_of_cons i x had y.1 p) q ∙ up.others i y.1
  ];
  gained = λ i p q. elim (eqb_tells i x) [
    | inl y ↦ ap (at s) y.1 ∙ fresh
    | inr y ↦ sym (up.others i y.1) ∙ l.gained i (out_of_cons i x had y.1 p) q
  ];
  lost = λ i p q. l.lost i (among_later i x had p) q;
  spare = omega (arith, fewer, l.spare);
  as_many = l.as_many ∙ up.as_many;
}

-- what a table has is not an element that wasn't live
pub fresh_out : (s : Store) (ids : List ℕ) (x : ℕ) → ((i : ℕ) → among i ids ≡ true → IsSome (at s i)) → at s x ≡ None → among x ids ≡ false
fresh_out s ids x live fresh = false_by (among x ids) (λ m. gone (at s x) fresh (live x m))

pub fresh_same : (s u : Store) (ids : List ℕ) (x : ℕ) (e : Option Element) → ((i : ℕ) → among i ids ≡ true → IsSome (at s i)) → at s x ≡ None → Updates s u x e → (i : ℕ) → among i ids ≡ true → at u i ≡ at s i
fresh_same s u ids x e live fresh up i m = up.others i (λ y. gone (at s x) fresh (live x (ap (λ (z : ℕ). among z ids) (sym y) ∙ m)))

-- the first row is removed, and its element given back
pub gave_kept : (s u t : Store) (h r : ItemTree) (m : ℕ) (item : Item) → Takes s u h m item r → Updates u t item.id None → IsKept t r
gave_kept s u t h r m item k up =
    let same : (i : ℕ) → among i (owned u r) ≡ true → at t i ≡ at u i = left_same s u t h r m item k up in
    let P : List Item → Type 0 = Items.Ascends in
    record { tree = tree_kept u t r k.tree same; ascends = subst P (sym (items_kept u t r k.tree same)) k.order }

pub gave_items : (s u t : Store) (h r : ItemTree) (m : ℕ) (item : Item) → Takes s u h m item r → Updates u t item.id None → items t r ≡ items u r
gave_items s u t h r m item k up = items_kept u t r k.tree (left_same s u t h r m item k up)

pub gave_owned : (s u t : Store) (h r : ItemTree) (m : ℕ) (item : Item) → Takes s u h m item r → Updates u t item.id None → owned t r ≡ owned u r
gave_owned s u t h r m item k up = owned_kept u t r k.tree (left_same s u t h r m item k up)

first_part : (ns : List Item) (n item : Item) (xs ys : List Item) → ns ≡ n ∷ drop 1 ns → ns ≡ xs ++ item ∷ ys → AllBelow (key item) xs → key item ≡ key n → xs ≡ []
first_part ns n item [] ys cut e b same = refl
first_part ns n item (x ∷ xs) ys cut e b same =
    let first : x ≡ n = heads x n (xs ++ item ∷ ys) (drop 1 ns) (sym e ∙ cut) in
    absurd (omega (arith, b.0, same, ap key first)) where
      heads : (x y : Item) (xs ys : List Item) → x ∷ xs ≡ y ∷ ys → x ≡ y
      heads x y xs ys e = cc

pub popped : (ns : List Item) (n item : Item) (ms : List Item) → ns ≡ n ∷ drop 1 ns → IsPut ms item ns → key item ≡ key n → ns ≡ item ∷ ms
popped ns n item ms cut p same =
    let none : p.before ≡ [] = first_part ns n item p.before p.behind cut p.are p.below same in
    p.are ∙ ap (λ (z : List Item). z ++ item ∷ p.behind) none ∙ ap (λ (z : List Item). item ∷ z) (sym (p.were ∙ ap (λ (z : List Item). z ++ p.behind) none))
