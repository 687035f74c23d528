-- Two calls on the parts of a stock, one after the other.
use Rattle.std.proofs.Common.{◌≡◌, ℕ, ◌+◌, ◌-◌, ◌*◌, ◌<◌, ◌≤◌, ◌==◌, ◌&&◌, ◌||◌, true, false, List, [], ◌∷◌, ◌++◌, length, take, drop, Option, Some, None, refl, ap, sym, ◌∙◌, subst, arith}
use Rattle.std.specs.List.{list_any}
use Rattle.std.specs.Prelude.{map, option_map, slice_get, not, if◌then◌else◌, IsSome}
use Rattle.vsm_elements.specs.Store.{Store}
use Rattle.vsm_elements.specs.Chain.{Link, links, IsChain}
use Rattle.vsm_elements.specs.Chain
use Rattle.vsm_elements.specs.Ownership.{Leaves}
use Rattle.vsm_elements.specs.declared.chain.Chain.{Chain}
use Rattle.vsm_elements.proofs.ChainFrame.{Leaves-trans}
use Rattle.row_table.specs.declared.row.Row.{Row}
use Rattle.row_table.specs.declared.table.RowTable.{RowTable}
use Rattle.row_table.specs.RowTable
use Rattle.row_table.specs.RowTable.{rows, IsTable}
use Rattle.list_table.specs.declared.stock.Stock.{Stock}
use Rattle.list_table.specs.Entries.{Entry}
use Rattle.list_table.specs.Stocks.{items_of, rows_of, contents, entry_with, holdings, IsStock}
use Rattle.list_table.specs.ListTable.{entry_of}
use Rattle.list_table.specs.declared.row.ListRow.{ListRow}
use Rattle.list_table.specs.Laws.{ChangesTo}
use Rattle.list_table.proofs.StockLemmas.{items_change, used_change, extents_change, places_change}
use Rattle.cell_pool.specs.declared.settings.Extent.{Extent}
use Rattle.cell_pool.specs.Notes.{is_noted, AreNumbered}
use Rattle.cell_pool.specs.Places.{place_words, placed_at, overlaps_place, ArePlaced, AreSeparate}
use Rattle.cell_pool.specs.Reach.{Widens}
use Rattle.cell_pool.proofs.MeetLemmas.{met}
use Rattle.cell_pool.proofs.SeparateLemmas.{begins_elsewhere, begins_last}
use Rattle.cell_pool.specs.Items.{extent_of, cell_item, cell_items, pool_of, IsSound}
use Rattle.cell_pool.proofs.ShapeLemmas.{own_extents, count_cells}
use Rattle.cell_pool.proofs.SoundLemmas.{taken_all, taken_sound, put_all, put_sound, grown_all, grown_sound, cut_all, cut_sound}
use Rattle.cell_pool.specs.Pools.{Pool, IsExtended, uses, meets, without_first, with_first, extended, retracted}
use Rattle.cell_pool.proofs.LawLemmas.{retracts_back, some_extent, end_is, last_is, last_cells}

-- the items, and then the cells in use
module _ (s s1 s2 : Store) (k : Stock) (h : IsStock s k) (items : Chain) (f : Leaves s s1 (Chain.owned s k.items) (Chain.owned s1 items)) (c : IsChain s1 items)
    (used : RowTable) (g : Leaves s1 s2 (RowTable.owned s1 k.used) (RowTable.owned s2 used)) (d : IsTable s2 used) where
  one : ChangesTo s s1 k (record { items = items; used = k.used; extents = k.extents; places = k.places }) × (rows s1 k.used ≡ rows s k.used) × (rows s1 k.extents ≡ rows s k.extents) × (rows s1 k.places ≡ rows s k.places)
  one = items_change s s1 k items h f c

  two : ChangesTo s1 s2 (record { items = items; used = k.used; extents = k.extents; places = k.places }) (record { items = items; used = used; extents = k.extents; places = k.places }) × (links s2 items ≡ links s1 items) × (rows s2 k.extents ≡ rows s1 k.extents) × (rows s2 k.places ≡ rows s1 k.places)
  two = used_change s1 s2 (record { items = items; used = k.used; extents = k.extents; places = k.places }) used one.0.stands g d

  pub taken_stands : IsStock s2 (record { items = items; used = used; extents = k.extents; places = k.places })
  taken_stands = two.0.stands

  pub taken_leaves : Leaves s s2 (holdings s k) (holdings s2 (record { items = items; used = used; extents = k.extents; places = k.places }))
  taken_leaves = Leaves-trans s s1 s2 (holdings s k) (holdings s1 (record { items = items; used = k.used; extents = k.extents; places = k.places })) (holdings s2 (record { items = items; used = used; extents = k.extents; places = k.places })) one.0.leaves two.0.leaves

  pub taken_items : links s2 items ≡ links s1 items
  taken_items = two.1

  pub taken_extents : rows s2 k.extents ≡ rows s k.extents
  taken_extents = two.2 ∙ one.2

  pub taken_places : rows s2 k.places ≡ rows s k.places
  taken_places = two.3 ∙ one.3

pub items_used : (s s1 : Store) (k : Stock) (h : IsStock s k) (items : Chain) (f : Leaves s s1 (Chain.owned s k.items) (Chain.owned s1 items)) (c : IsChain s1 items) → IsTable s1 k.used × (rows s1 k.used ≡ rows s k.used)
items_used s s1 k h items f c = let r = items_change s s1 k items h f c in (r.0.stands.used, r.1)

-- the cells in use, and then the items
module _ (s s1 s2 : Store) (k : Stock) (h : IsStock s k) (used : RowTable) (f : Leaves s s1 (RowTable.owned s k.used) (RowTable.owned s1 used)) (c : IsTable s1 used)
    (items : Chain) (g : Leaves s1 s2 (Chain.owned s1 k.items) (Chain.owned s2 items)) (d : IsChain s2 items) where
  one' : ChangesTo s s1 k (record { items = k.items; used = used; extents = k.extents; places = k.places }) × (links s1 k.items ≡ links s k.items) × (rows s1 k.extents ≡ rows s k.extents) × (rows s1 k.places ≡ rows s k.places)
  one' = used_change s s1 k used h f c

  two' : ChangesTo s1 s2 (record { items = k.items; used = used; extents = k.extents; places = k.places }) (record { items = items; used = used; extents = k.extents; places = k.places }) × (rows s2 used ≡ rows s1 used) × (rows s2 k.extents ≡ rows s1 k.extents) × (rows s2 k.places ≡ rows s1 k.places)
  two' = items_change s1 s2 (record { items = k.items; used = used; extents = k.extents; places = k.places }) items one'.0.stands g d

  pub put_stands : IsStock s2 (record { items = items; used = used; extents = k.extents; places = k.places })
  put_stands = two'.0.stands

  pub put_leaves : Leaves s s2 (holdings s k) (holdings s2 (record { items = items; used = used; extents = k.extents; places = k.places }))
  put_leaves = Leaves-trans s s1 s2 (holdings s k) (holdings s1 (record { items = k.items; used = used; extents = k.extents; places = k.places })) (holdings s2 (record { items = items; used = used; extents = k.extents; places = k.places })) one'.0.leaves two'.0.leaves

  pub put_used : rows s2 used ≡ rows s1 used
  put_used = two'.1

  pub put_extents : rows s2 k.extents ≡ rows s k.extents
  put_extents = two'.2 ∙ one'.2

  pub put_places : rows s2 k.places ≡ rows s k.places
  put_places = two'.3 ∙ one'.3

pub used_items : (s s1 : Store) (k : Stock) (h : IsStock s k) (used : RowTable) (f : Leaves s s1 (RowTable.owned s k.used) (RowTable.owned s1 used)) (c : IsTable s1 used) → IsChain s1 k.items × (links s1 k.items ≡ links s k.items)
used_items s s1 k h used f c = let r = used_change s s1 k used h f c in (r.0.stands.items, r.1)

-- the extents, their places, and then the items
module _ (s s1 s2 s3 : Store) (k : Stock) (h : IsStock s k) (extents : RowTable) (f : Leaves s s1 (RowTable.owned s k.extents) (RowTable.owned s1 extents)) (c : IsTable s1 extents)
    (places : RowTable) (m : Leaves s1 s2 (RowTable.owned s1 k.places) (RowTable.owned s2 places)) (e : IsTable s2 places) (items : Chain) (g : Leaves s2 s3 (Chain.owned s2 k.items) (Chain.owned s3 items)) (d : IsChain s3 items) where
  abbrev with_extents : Stock
  with_extents = record { items = k.items; used = k.used; extents = extents; places = k.places }

  abbrev with_places : Stock
  with_places = record { items = k.items; used = k.used; extents = extents; places = places }

  abbrev with_items : Stock
  with_items = record { items = items; used = k.used; extents = extents; places = places }

  first : ChangesTo s s1 k with_extents × (links s1 k.items ≡ links s k.items) × (rows s1 k.used ≡ rows s k.used) × (rows s1 k.places ≡ rows s k.places)
  first = extents_change s s1 k extents h f c

  second : ChangesTo s1 s2 with_extents with_places × (links s2 k.items ≡ links s1 k.items) × (rows s2 k.used ≡ rows s1 k.used) × (rows s2 extents ≡ rows s1 extents)
  second = places_change s1 s2 with_extents places first.0.stands m e

  third : ChangesTo s2 s3 with_places with_items × (rows s3 k.used ≡ rows s2 k.used) × (rows s3 extents ≡ rows s2 extents) × (rows s3 places ≡ rows s2 places)
  third = items_change s2 s3 with_places items second.0.stands g d

  pub grown_stands : IsStock s3 with_items
  grown_stands = third.0.stands

  pub grown_leaves : Leaves s s3 (holdings s k) (holdings s3 with_items)
  grown_leaves = Leaves-trans s s2 s3 (holdings s k) (holdings s2 with_places) (holdings s3 with_items) (Leaves-trans s s1 s2 (holdings s k) (holdings s1 with_extents) (holdings s2 with_places) first.0.leaves second.0.leaves) third.0.leaves

  pub grown_used : rows s3 k.used ≡ rows s k.used
  grown_used = third.1 ∙ second.2 ∙ first.2

  pub grown_extents : rows s3 extents ≡ rows s1 extents
  grown_extents = third.2 ∙ second.3

  pub grown_places : rows s3 places ≡ rows s2 places
  grown_places = third.3

-- what is kept when the extents have changed, and when their places have, too
module _ (s s1 : Store) (k : Stock) (h : IsStock s k) (extents : RowTable) (f : Leaves s s1 (RowTable.owned s k.extents) (RowTable.owned s1 extents)) (c : IsTable s1 extents) where
  behind_extents : ChangesTo s s1 k (record { items = k.items; used = k.used; extents = extents; places = k.places }) × (links s1 k.items ≡ links s k.items) × (rows s1 k.used ≡ rows s k.used) × (rows s1 k.places ≡ rows s k.places)
  behind_extents = extents_change s s1 k extents h f c

  pub places_still : IsTable s1 k.places × (rows s1 k.places ≡ rows s k.places)
  places_still = (behind_extents.0.stands.places, behind_extents.3)

  pub items_still : (s2 : Store) (places : RowTable) → Leaves s1 s2 (RowTable.owned s1 k.places) (RowTable.owned s2 places) → IsTable s2 places → IsChain s2 k.items × (links s2 k.items ≡ links s k.items)
  items_still s2 places m e = let r = places_change s1 s2 (record { items = k.items; used = k.used; extents = extents; places = k.places }) places behind_extents.0.stands m e in (r.0.stands.items, r.1 ∙ behind_extents.1)

-- a row's stock became another by calls on its parts, and its pool changed so, with these words
pub record Becomes (s t : Store) (r : ListRow) (words : List ℕ) (d : Stock) (f : Pool → Pool) : Type 0 where
  pub leaves : Leaves s t (holdings s r.stock) (holdings t d)
  pub stands : IsStock t d
  pub made : pool_of (entry_with r.id words (contents t d)) ≡ f (pool_of (entry_of s r))
  pub sound : IsSound (entry_with r.id words (contents t d))

-- the first free cell is now in use
pub taken : (s s1 s2 : Store) (r : ListRow) (h : IsStock s r.stock) → IsSound (entry_of s r) → (items : Chain) → Leaves s s1 (Chain.owned s r.stock.items) (Chain.owned s1 items) → IsChain s1 items
    → (used : RowTable) → Leaves s1 s2 (RowTable.owned s1 r.stock.used) (RowTable.owned s2 used) → IsTable s2 used
    → items_of (links s1 items) ≡ take 5 (items_of (links s r.stock.items)) ++ drop 6 (items_of (links s r.stock.items)) → (cell : ℕ) → slice_get (pool_of (entry_of s r)).cells 0 ≡ Some cell
    → ((a : ℕ) → is_noted a (rows_of (rows s2 used)) ≡ ((a == cell) || is_noted a (rows_of (rows s1 r.stock.used))))
    → Becomes s s2 r r.words (record { items = items; used = used; extents = r.stock.extents; places = r.stock.places }) without_first
taken s s1 s2 r h sound items f c used g d out cell first now =
    let x = entry_of s r in
    let its : items_of (links s2 items) ≡ take 5 x.items ++ drop 6 x.items = ap items_of (taken_items s s1 s2 r.stock h items f c used g d) ∙ out in
    let notes : (a : ℕ) → is_noted a (rows_of (rows s2 used)) ≡ ((a == cell) || is_noted a x.used) = λ a. now a ∙ ap (λ (z : List Row). (a == cell) || is_noted a (rows_of z)) (items_used s s1 r.stock h items f c).1 in
    let P : List Row → Type 0 = λ z. IsSound (record { id = r.id; words = r.words; items = items_of (links s2 items); used = rows_of (rows s2 used); extents = rows_of z; places = rows_of (rows s2 r.stock.places) }) in
    let Q : List Row → Type 0 = λ z. IsSound (record { id = r.id; words = r.words; items = items_of (links s2 items); used = rows_of (rows s2 used); extents = x.extents; places = rows_of z }) in
    record {
      leaves = taken_leaves s s1 s2 r.stock h items f c used g d;
      stands = taken_stands s s1 s2 r.stock h items f c used g d;
      made =
          ap (λ (z : List Row). pool_of (record { id = r.id; words = r.words; items = items_of (links s2 items); used = rows_of (rows s2 used); extents = rows_of z; places = rows_of (rows s2 r.stock.places) })) (taken_extents s s1 s2 r.stock h items f c used g d)
          ∙ ap (λ (z : List Row). pool_of (record { id = r.id; words = r.words; items = items_of (links s2 items); used = rows_of (rows s2 used); extents = x.extents; places = rows_of z })) (taken_places s s1 s2 r.stock h items f c used g d)
          ∙ taken_all x sound (items_of (links s2 items)) (rows_of (rows s2 used)) cell its first notes;
      sound = subst P (sym (taken_extents s s1 s2 r.stock h items f c used g d)) (subst Q (sym (taken_places s s1 s2 r.stock h items f c used g d)) (taken_sound x sound (items_of (links s2 items)) (rows_of (rows s2 used)) cell its first notes));
    }

-- a cell in use becomes the first of the free ones
pub put : (s s1 s2 : Store) (r : ListRow) (h : IsStock s r.stock) → IsSound (entry_of s r) → (used : RowTable) → Leaves s s1 (RowTable.owned s r.stock.used) (RowTable.owned s1 used) → IsTable s1 used
    → (items : Chain) → Leaves s1 s2 (Chain.owned s1 r.stock.items) (Chain.owned s2 items) → IsChain s2 items → (cell : ℕ)
    → items_of (links s2 items) ≡ take 5 (items_of (links s1 r.stock.items)) ++ cell_item cell ∷ drop 5 (items_of (links s1 r.stock.items)) → uses (pool_of (entry_of s r)) cell ≡ true
    → ((a : ℕ) → is_noted a (rows_of (rows s1 used)) ≡ (not (a == cell) && is_noted a (rows_of (rows s r.stock.used))))
    → Becomes s s2 r r.words (record { items = items; used = used; extents = r.stock.extents; places = r.stock.places }) (with_first cell)
put s s1 s2 r h sound used f c items g d cell in_front in_use now =
    let x = entry_of s r in
    let its : items_of (links s2 items) ≡ take 5 x.items ++ cell_item cell ∷ drop 5 x.items = in_front ∙ ap (λ (z : List Link). take 5 (items_of z) ++ cell_item cell ∷ drop 5 (items_of z)) (used_items s s1 r.stock h used f c).1 in
    let notes : (a : ℕ) → is_noted a (rows_of (rows s2 used)) ≡ (not (a == cell) && is_noted a x.used) = λ a. ap (λ (z : List Row). is_noted a (rows_of z)) (put_used s s1 s2 r.stock h used f c items g d) ∙ now a in
    let P : List Row → Type 0 = λ z. IsSound (record { id = r.id; words = r.words; items = items_of (links s2 items); used = rows_of (rows s2 used); extents = rows_of z; places = rows_of (rows s2 r.stock.places) }) in
    let Q : List Row → Type 0 = λ z. IsSound (record { id = r.id; words = r.words; items = items_of (links s2 items); used = rows_of (rows s2 used); extents = x.extents; places = rows_of z }) in
    record {
      leaves = put_leaves s s1 s2 r.stock h used f c items g d;
      stands = put_stands s s1 s2 r.stock h used f c items g d;
      made =
          ap (λ (z : List Row). pool_of (record { id = r.id; words = r.words; items = items_of (links s2 items); used = rows_of (rows s2 used); extents = rows_of z; places = rows_of (rows s2 r.stock.places) })) (put_extents s s1 s2 r.stock h used f c items g d)
          ∙ ap (λ (z : List Row). pool_of (record { id = r.id; words = r.words; items = items_of (links s2 items); used = rows_of (rows s2 used); extents = x.extents; places = rows_of z })) (put_places s s1 s2 r.stock h used f c items g d)
          ∙ put_all x sound (items_of (links s2 items)) (rows_of (rows s2 used)) cell its in_use notes;
      sound = subst P (sym (put_extents s s1 s2 r.stock h used f c items g d)) (subst Q (sym (put_places s s1 s2 r.stock h used f c items g d)) (put_sound x sound (items_of (links s2 items)) (rows_of (rows s2 used)) cell its in_use notes));
    }

-- an extent is added, in its place, and its cells after the free ones
pub grown : (s s1 s2 s3 : Store) (r : ListRow) (h : IsStock s r.stock) → IsSound (entry_of s r) → (extents : RowTable) → Leaves s s1 (RowTable.owned s r.stock.extents) (RowTable.owned s1 extents) → IsTable s1 extents
    → (places : RowTable) → Leaves s1 s2 (RowTable.owned s1 r.stock.places) (RowTable.owned s2 places) → IsTable s2 places → (items : Chain) → Leaves s2 s3 (Chain.owned s2 r.stock.items) (Chain.owned s3 items) → IsChain s3 items → (size start count : ℕ) → size ≡ (pool_of (entry_of s r)).settings.size
    → items_of (links s3 items) ≡ items_of (links s2 r.stock.items) ++ cell_items size start count → AreNumbered 0 (rows_of (rows s1 extents))
    → map extent_of (rows_of (rows s1 extents)) ≡ map extent_of (rows_of (rows s r.stock.extents)) ++ record { start = start; count = count } ∷ []
    → ((a : ℕ) → placed_at a (rows_of (rows s2 places)) ≡ (if a == start then Some (place_words size (record { start = start; count = count })) else placed_at a (rows_of (rows s1 r.stock.places))))
    → 0 < count → meets start (count * (pool_of (entry_of s r)).settings.size) (pool_of (entry_of s r)) ≡ false
    → (words : List ℕ) → Widens r.words words size (record { start = start; count = count }) → Becomes s s3 r words (record { items = items; used = r.stock.used; extents = extents; places = places }) (extended start count)
grown s s1 s2 s3 r h sound extents f c places m o items g d size start count is behind numbered more placed some clear words wide =
    let x = entry_of s r in
    let its : items_of (links s3 items) ≡ x.items ++ cell_items (pool_of x).settings.size start count =
    behind ∙ ap (λ (z : List Link). items_of z ++ cell_items size start count) (items_still s s1 r.stock h extents f c s2 places m o).1 ∙ ap (λ (z : ℕ). x.items ++ cell_items z start count) is in
    let e : rows s3 extents ≡ rows s1 extents = grown_extents s s1 s2 s3 r.stock h extents f c places m o items g d in
    let p : rows s3 places ≡ rows s2 places = grown_places s s1 s2 s3 r.stock h extents f c places m o items g d in
    let u : rows s3 r.stock.used ≡ rows s r.stock.used = grown_used s s1 s2 s3 r.stock h extents f c places m o items g d in
    let its_extents : map extent_of (rows_of (rows s3 extents)) ≡ map extent_of x.extents ++ record { start = start; count = count } ∷ [] = ap (λ (z : List Row). map extent_of (rows_of z)) e ∙ more in
    let its_places : (a : ℕ) → placed_at a (rows_of (rows s3 places)) ≡ (if a == start then Some (place_words (pool_of x).settings.size (record { start = start; count = count })) else placed_at a x.places) =
    λ a. ap (λ (z : List Row). placed_at a (rows_of z)) p ∙ placed a
    ∙ ap (λ (z : List Row). if a == start then Some (place_words size (record { start = start; count = count })) else placed_at a (rows_of z)) (places_still s s1 r.stock h extents f c).1
    ∙ ap (λ (z : ℕ). if a == start then Some (place_words z (record { start = start; count = count })) else placed_at a x.places) is in
    let V : ℕ → Type 0 = λ z. Widens r.words words z (record { start = start; count = count }) in
    let wider : Widens r.words words (pool_of x).settings.size (record { start = start; count = count }) = subst V is wide in
    let N : List Row → Type 0 = λ z. AreNumbered 0 (rows_of z) in
    let P : List Row → Type 0 = λ z. IsSound (record { id = r.id; words = words; items = items_of (links s3 items); used = rows_of z; extents = rows_of (rows s3 extents); places = rows_of (rows s3 places) }) in
    record {
      leaves = grown_leaves s s1 s2 s3 r.stock h extents f c places m o items g d;
      stands = grown_stands s s1 s2 s3 r.stock h extents f c places m o items g d;
      made =
          ap (λ (z : List Row). pool_of (record { id = r.id; words = words; items = items_of (links s3 items); used = rows_of z; extents = rows_of (rows s3 extents); places = rows_of (rows s3 places) })) u
          ∙ grown_all x sound words (items_of (links s3 items)) (rows_of (rows s3 extents)) (rows_of (rows s3 places)) start count wider its its_extents;
      sound = subst P (sym u) (grown_sound x sound words (items_of (links s3 items)) (rows_of (rows s3 extents)) (rows_of (rows s3 places)) start count wider its its_extents (subst N (sym e) numbered) some clear its_places);
    }

-- how long the list is when its last extent goes
pub record Shrinks (x : Entry) (ext : IsExtended (pool_of x)) (y : Extent) (count : ℕ) : Type 0 where
  pub last : ext.last ≡ y
  pub fits : 5 + y.count ≤ count
  pub whole : (count - y.count) + y.count ≡ length x.items
  pub some : 5 ≤ count - y.count

pub length-rows : (rs : List Row) → length (rows_of rs) ≡ length rs
length-rows [] = refl
length-rows (r ∷ rs) = omega (arith, length-rows rs)

pub shrinks : (x : Entry) (ext : IsExtended (pool_of x)) (rs : List Row) (y : Extent) → map extent_of x.extents ≡ map extent_of (rows_of rs) ++ y ∷ [] → (count : ℕ) → length x.items ≡ count → 5 ≤ length x.items → Shrinks x ext y count
shrinks x ext rs y less count long room =
    let p = pool_of x in
    let are : p.extents ≡ map extent_of (rows_of rs) ++ y ∷ [] = own_extents x ∙ less in
    let there : slice_get p.extents (length p.extents - 1) ≡ Some y = end_is p ext (map extent_of (rows_of rs)) y are in
    let k : length p.extents ≡ (length p.extents - 1) + 1 = omega (arith, some_extent p ext) in
    let few : y.count ≤ length p.cells = last_cells p ext (length p.extents - 1) y k there in
    let cells : length p.cells ≡ length x.items - 5 = count_cells x in
    record {
      last = last_is p ext (length p.extents - 1) y k there;
      fits = omega (arith, few, cells, long, room);
      whole = omega (arith, few, cells, long, room);
      some = omega (arith, few, cells, long, room);
    }

-- the last extent goes, from its place too, with its cells at the end of the free ones
pub shrunk : (s s1 s2 s3 : Store) (r : ListRow) (h : IsStock s r.stock) → IsSound (entry_of s r) → (extents : RowTable) → Leaves s s1 (RowTable.owned s r.stock.extents) (RowTable.owned s1 extents) → IsTable s1 extents
    → (places : RowTable) → Leaves s1 s2 (RowTable.owned s1 r.stock.places) (RowTable.owned s2 places) → IsTable s2 places → (items : Chain) → Leaves s2 s3 (Chain.owned s2 r.stock.items) (Chain.owned s3 items) → IsChain s3 items → (y : Extent) (end : ℕ)
    → items_of (links s3 items) ≡ take end (items_of (links s2 r.stock.items)) ++ drop (end + y.count) (items_of (links s2 r.stock.items)) → end + y.count ≡ length (items_of (links s r.stock.items)) → 5 ≤ end
    → AreNumbered 0 (rows_of (rows s1 extents)) → map extent_of (rows_of (rows s r.stock.extents)) ≡ map extent_of (rows_of (rows s1 extents)) ++ y ∷ []
    → ((a : ℕ) → placed_at a (rows_of (rows s2 places)) ≡ (if a == y.start then None else placed_at a (rows_of (rows s1 r.stock.places)))) → (x : IsExtended (pool_of (entry_of s r))) → x.last ≡ y
    → Becomes s s3 r r.words (record { items = items; used = r.stock.used; extents = extents; places = places }) (retracted y.count)
shrunk s s1 s2 s3 r h sound extents f c places m o items g d y end cut size some numbered less placed ext same =
    let x = entry_of s r in
    let its : items_of (links s3 items) ≡ take end x.items ++ drop (end + y.count) x.items = cut ∙ ap (λ (z : List Link). take end (items_of z) ++ drop (end + y.count) (items_of z)) (items_still s s1 r.stock h extents f c s2 places m o).1 in
    let e : rows s3 extents ≡ rows s1 extents = grown_extents s s1 s2 s3 r.stock h extents f c places m o items g d in
    let p : rows s3 places ≡ rows s2 places = grown_places s s1 s2 s3 r.stock h extents f c places m o items g d in
    let u : rows s3 r.stock.used ≡ rows s r.stock.used = grown_used s s1 s2 s3 r.stock h extents f c places m o items g d in
    let its_extents : map extent_of x.extents ≡ map extent_of (rows_of (rows s3 extents)) ++ y ∷ [] = less ∙ ap (λ (z : List Row). map extent_of (rows_of z) ++ y ∷ []) (sym e) in
    let its_places : (a : ℕ) → placed_at a (rows_of (rows s3 places)) ≡ (if a == y.start then None else placed_at a x.places) =
    λ a. ap (λ (z : List Row). placed_at a (rows_of z)) p ∙ placed a
    ∙ ap (λ (z : List Row). if a == y.start then None else placed_at a (rows_of z)) (places_still s s1 r.stock h extents f c).1 in
    let N : List Row → Type 0 = λ z. AreNumbered 0 (rows_of z) in
    let P : List Row → Type 0 = λ z. IsSound (record { id = r.id; words = r.words; items = items_of (links s3 items); used = rows_of z; extents = rows_of (rows s3 extents); places = rows_of (rows s3 places) }) in
    record {
      leaves = grown_leaves s s1 s2 s3 r.stock h extents f c places m o items g d;
      stands = grown_stands s s1 s2 s3 r.stock h extents f c places m o items g d;
      made =
          ap (λ (z : List Row). pool_of (record { id = r.id; words = r.words; items = items_of (links s3 items); used = rows_of z; extents = rows_of (rows s3 extents); places = rows_of (rows s3 places) })) u
          ∙ cut_all x sound (items_of (links s3 items)) (rows_of (rows s3 extents)) (rows_of (rows s3 places)) end y.count y its size some its_extents;
      sound = subst P (sym u) (cut_sound x sound (items_of (links s3 items)) (rows_of (rows s3 extents)) (rows_of (rows s3 places)) end y.count y its size some its_extents (subst N (sym e) numbered) ext.rest y.start
          (ext.is ∙ ap (λ (z : Extent). extended z.start z.count ext.rest) same) (retracts_back ext.rest y.start y.count) its_places);
    }

-- the extent that goes has its place
pub has_place : (x : Entry) → IsSound x → (ext : IsExtended (pool_of x)) (y : Extent) → ext.last ≡ y → IsSome (placed_at y.start x.places)
has_place x sound ext y same =
    let S : Pool → Type 0 = λ z. AreSeparate z.settings.size z.extents in
    let L : Pool → Type 0 = λ z. ArePlaced z x.places in
    let B : Pool → Type 0 = λ z. 0 < z.settings.size in
    let O : Option (List ℕ) → Type 0 = λ z. IsSome z in
    let are : pool_of x ≡ extended y.start y.count ext.rest = ext.is ∙ ap (λ (z : Extent). extended z.start z.count ext.rest) same in
    subst O (sym (subst L are sound.placed y.start ∙ ap (option_map (place_words ext.rest.settings.size)) (begins_last ext.rest.settings.size (subst B are sound.size) ext.rest.extents y (subst S are sound.separate)))) refl

-- and one that is added has none yet
pub no_place_yet : (x : Entry) → IsSound x → (start count : ℕ) → 0 < count → meets start (count * (pool_of x).settings.size) (pool_of x) ≡ false → placed_at start x.places ≡ None
no_place_yet x sound start count some clear =
    sound.placed start
    ∙ ap (option_map (place_words (pool_of x).settings.size)) (begins_elsewhere (pool_of x).settings.size sound.size start count some (pool_of x).extents sound.separate clear)

-- an area meets the extents in their places exactly if it meets the pool
pub met_pool : (s : Store) (r : ListRow) → IsStock s r.stock → IsSound (entry_of s r) → (start len : ℕ)
    → list_any (overlaps_place start len) (rows_of (rows s r.stock.places)) ≡ meets start len (pool_of (entry_of s r))
met_pool s r h sound start len = met s r.stock.places h.places (pool_of (entry_of s r)) sound.size sound.separate sound.placed start len
