-- The ids of a table's elements are those of its rows.
use Rattle.std.proofs.Common.{◌≡◌, ℕ, Bool, true, false, ◌||◌, List, [], ◌∷◌, Some, None, inl, inr, refl, sym, ap, ◌∙◌}
use Rattle.std.proofs.lemmas.Bool.Decides.{eqb_tells}
use Rattle.vsm_elements.specs.Store.{Store, among}
use Rattle.vsm_elements.specs.Chain.{Link, ids}
use Rattle.row_table.specs.Keys.{links}
use Rattle.row_table.proofs.KeyLemmas.{owned_links, links_ascend}
use Rattle.row_table.specs.Trees.{items}
use Rattle.vsm_elements.proofs.StoreLemmas.{among_cons, among_later}
use Rattle.row_table.specs.declared.row.Row.{Row}
use Rattle.row_table.specs.declared.table.RowTable.{RowTable}
use Rattle.row_table.specs.Rows.{word, is_under, row_in, Single}
use Rattle.row_table.specs.RowTable.{row, owned, IsTable}
use Rattle.row_table.specs.Laws.{RowIdsAre}
use Rattle.row_table.proofs.AscendLemmas.{single}
use Rattle.row_table.proofs.RowLemmas.{either, not_both, none_some, same_parts, same_self, eqb_refl, of, row_here, row_later}

some_row : (x y : Row) → Some x ≡ Some y → x ≡ y
some_row x y e = cc

-- what is under a key in a list after a first link under another is also under it in the whole
later : (n : Link) (ns : List Link) (a b : ℕ) (r : Row) → row_in (word n.words 0) (word n.words 1) ns ≡ None → row_in a b ns ≡ Some r → row_in a b (n ∷ ns) ≡ Some r
later n ns a b r none e = elim (either (is_under a b n.words)) [
  | inl p ↦ (let k : (word n.words 0 ≡ a) × (word n.words 1 ≡ b) = same_parts (word n.words 0) (word n.words 1) a b p in
      absurd (none_some (row_in a b ns) r (ap (λ (z : ℕ). row_in z b ns) (sym k.0) ∙ ap (λ (z : ℕ). row_in (word n.words 0) z ns) (sym k.1) ∙ none) e))
  | inr p ↦ row_later a b n ns p ∙ e
]

-- the row of this id
record Holder (ns : List Link) (i : ℕ) : Type 0 where
  r : Row
  there : row_in (word r.words 0) (word r.words 1) ns ≡ Some r
  is : r.id ≡ i

holder : (ns : List Link) → Single ns → (i : ℕ) → among i (ids ns) ≡ true → Holder ns i
holder [] h i m = absurd (not_both false m refl)
holder (n ∷ ns) h i m = elim (eqb_tells i n.id) [
  | inl p ↦ record { r = of n; there = row_here (word n.words 0) (word n.words 1) n ns (same_self (word n.words 0) (word n.words 1)); is = sym p.1 }
  | inr p ↦ (let w : Holder ns i = holder ns h.1 i (sym (among_cons i n.id (ids ns) p.1) ∙ m) in
      record { r = w.r; there = later n ns (word w.r.words 0) (word w.r.words 1) w.r h.0 w.there; is = w.is })
]

in_ids : (ns : List Link) (a b : ℕ) (r : Row) → row_in a b ns ≡ Some r → among r.id (ids ns) ≡ true
in_ids [] a b r e = absurd (none_some None r refl e)
in_ids (n ∷ ns) a b r e = elim (either (is_under a b n.words)) [
  | inl p ↦ (let same : n.id ≡ r.id = ap (λ (z : Row). z.id) (some_row (of n) r (sym (row_here a b n ns p) ∙ e)) in
      ap (λ (z : ℕ). among z (n.id ∷ ids ns)) (sym same) ∙ ap (λ (z : Bool). z || among n.id (ids ns)) (eqb_refl n.id))
  | inr p ↦ among_later r.id n.id (ids ns) (in_ids ns a b r (sym (row_later a b n ns p) ∙ e))
]

pub row_ids_are : RowIdsAre
unfolding row owned IsTable
row_ids_are s q i h = (
  (λ m. (let w : Holder (links s q.tree) i = holder (links s q.tree) (single (links s q.tree) (links_ascend (items s q.tree) h.ascends)) i (sym (ap (among i) (owned_links s q.tree)) ∙ m) in (word w.r.words 0, word w.r.words 1, w.r, (w.there, w.is)))),
  (λ a b r e. ap (among r.id) (owned_links s q.tree) ∙ in_ids (links s q.tree) a b r e),
)

same_bool : (a b : Bool) → (a ≡ true → b ≡ true) → (b ≡ true → a ≡ true) → a ≡ b
same_bool true b f g = sym (f refl)
same_bool false true f g = absurd (not_both false (g refl) refl)
same_bool false false f g = refl

-- if each row of one table has its id in another, and the other way round, they have the same ids
pub same_ids : (s t : Store) (q r : RowTable) → IsTable s q → IsTable t r
    → ((a b : ℕ) (x : Row) → row s q a b ≡ Some x → (y : Row) × ((row t r a b ≡ Some y) × (y.id ≡ x.id)))
    → ((a b : ℕ) (y : Row) → row t r a b ≡ Some y → (x : Row) × ((row s q a b ≡ Some x) × (x.id ≡ y.id)))
    → (i : ℕ) → among i (owned t r) ≡ among i (owned s q)
same_ids s t q r h k to from i = same_bool (among i (owned t r)) (among i (owned s q)) (λ m. back ((row_ids_are t r i k).0 m)) (λ m. on ((row_ids_are s q i h).0 m)) where
  back : (a : ℕ) × (b : ℕ) × (y : Row) × ((row t r a b ≡ Some y) × (y.id ≡ i)) → among i (owned s q) ≡ true
  back w = (let x = from w.0 w.1 w.2 w.3.0 in
      ap (λ (z : ℕ). among z (owned s q)) (sym (x.1.1 ∙ w.3.1)) ∙ (row_ids_are s q i h).1 w.0 w.1 x.0 x.1.0)

  on : (a : ℕ) × (b : ℕ) × (x : Row) × ((row s q a b ≡ Some x) × (x.id ≡ i)) → among i (owned t r) ≡ true
  on w = (let y = to w.0 w.1 w.2 w.3.0 in
      ap (λ (z : ℕ). among z (owned t r)) (sym (y.1.1 ∙ w.3.1)) ∙ (row_ids_are t r i k).1 w.0 w.1 y.0 y.1.0)
