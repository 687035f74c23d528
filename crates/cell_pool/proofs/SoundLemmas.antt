-- A pool's row stays sound under the calls.
use Rattle.std.proofs.Common.{◌≡◌, ℕ, true, false, ◌+◌, ◌-◌, ◌*◌, ◌<◌, ◌≤◌, ◌==◌, ◌&&◌, ◌||◌, List, [], ◌∷◌, ◌++◌, length, take, drop, refl, sym, ap, ◌∙◌, subst, arith, length-append, length-drop, append_assoc, Some, None}
use Rattle.std.specs.Prelude.{map, slice_get, not, if◌then◌else◌}
use Rattle.std.proofs.lemmas.List.{map-append, take-append-drop, drop-drop, drop-map, take-map}
use Rattle.list_table.specs.Entries.{Entry}
use Rattle.cell_pool.specs.declared.settings.Extent.{Extent}
use Rattle.cell_pool.specs.Names.{packed, AreTexts}
use Rattle.cell_pool.specs.Pool.{Pool, HasCells, uses, meets, without_first, with_first, extended, retracted}
use Rattle.cell_pool.specs.Items.{extent_of, cell_of, cell_item, cell_items, pool_of, subpool_in, IsSound}
use Rattle.cell_pool.specs.Notes.{is_noted, AreNoted, AreNumbered}
use Rattle.cell_pool.specs.Places.{place_words, placed_at, ArePlaced, AreSeparate}
use Rattle.cell_pool.specs.Reach.{AreWithin, Widens}
use Rattle.cell_pool.proofs.ReachLemmas.{within_widened, within_less, same_subpool_in}
use Rattle.cell_pool.proofs.FreeLemmas.{taken_cells, taken_notes, put_cells, put_notes, grown_cells, grown_notes, cut_cells, cut_notes}
use Rattle.cell_pool.proofs.SeparateLemmas.{separate_more, separate_less, last_has}
use Rattle.cell_pool.proofs.MeetLemmas.{placed_more, placed_less}
use Rattle.cell_pool.proofs.ShapeLemmas.{Items, entry_as, pool_with, label_with, room_with, own_cells, own_extents, cells_back, take-more, drop_whole}

module _ (x : Entry) (sound : IsSound x) where
  -- what stays sound if the texts stay
  again : (words : List ℕ) → subpool_in words ≡ subpool_in x.words → (items cells : Items) → items ≡ take 5 x.items ++ cells → (used extents places : Items) → AreNumbered 0 extents
      → (p : Pool) → record (pool_of x) { extents = map extent_of extents; cells = map cell_of cells } ≡ p → HasCells p → AreNoted p used
      → AreSeparate p.settings.size p.extents → ArePlaced p places → AreWithin words p.settings.size p.extents → IsSound (entry_as x words items used extents places)
  again words same items cells are used extents places numbered p is has notes apart placed within =
      let e : pool_of (entry_as x words items used extents places) ≡ record (pool_of x) { extents = map extent_of extents; cells = map cell_of cells } = pool_with x sound.room words same items cells are used extents places in
      let W : Pool → Type 0 = λ z. AreWithin words z.settings.size z.extents in
      let H : Pool → Type 0 = HasCells in
      let N : Pool → Type 0 = λ z. AreNoted z used in
      let S : Pool → Type 0 = λ z. AreSeparate z.settings.size z.extents in
      let P : Pool → Type 0 = λ z. ArePlaced z places in
      let B : Pool → Type 0 = λ z. 0 < z.settings.size in
      let T : Pool → Type 0 = λ z. AreTexts z.name z.header in
      record {
        small = sound.small;
        room = room_with x sound.room words same items cells are used extents places;
        size = subst B (sym e) sound.size;
        named = label_with x sound.room words same items cells are used extents places ∙ sound.named ∙ ap (λ (z : Pool). packed z.name) (sym e);
        texts = subst T (sym e) sound.texts;
        numbered = numbered;
        separate = subst S (sym (e ∙ is)) apart;
        placed = subst P (sym (e ∙ is)) placed;
        within = subst W (sym (e ∙ is)) within;
        cells = subst H (sym (e ∙ is)) has;
        noted = subst N (sym (e ∙ is)) notes;
      }

  same_extents : (p : Pool) → p.extents ≡ (pool_of x).extents → map extent_of x.extents ≡ p.extents
  same_extents p e = sym (own_extents x) ∙ sym e

  -- the first free cell is taken out
  module _ (items used : Items) (cell : ℕ) (h : items ≡ take 5 x.items ++ drop 6 x.items) (first : slice_get (pool_of x).cells 0 ≡ Some cell)
      (now : (a : ℕ) → is_noted a used ≡ ((a == cell) || is_noted a x.used)) where
    taken_is : record (pool_of x) { extents = map extent_of x.extents; cells = map cell_of (drop 6 x.items) } ≡ without_first (pool_of x)
    taken_is =
        ap (λ (z : List Extent). record (pool_of x) { extents = z; cells = map cell_of (drop 6 x.items) }) (sym (own_extents x))
        ∙ ap (λ (z : List ℕ). record (pool_of x) { cells = z }) (sym (ap (drop 1) (own_cells x) ∙ drop-map cell_of 1 (drop 5 x.items) ∙ ap (map cell_of) (drop-drop 1 5 x.items)))

    pub taken_all : pool_of (entry_as x x.words items used x.extents x.places) ≡ without_first (pool_of x)
    taken_all = pool_with x sound.room x.words refl items (drop 6 x.items) h used x.extents x.places ∙ taken_is

    pub taken_sound : IsSound (entry_as x x.words items used x.extents x.places)
    taken_sound = again x.words refl items (drop 6 x.items) h used x.extents x.places sound.numbered (without_first (pool_of x)) taken_is (taken_cells (pool_of x) sound.cells cell first) (taken_notes (pool_of x) sound.cells cell first x.used used sound.noted now) sound.separate sound.placed sound.within

  -- a cell is put first
  module _ (items used : Items) (cell : ℕ) (h : items ≡ take 5 x.items ++ cell_item cell ∷ drop 5 x.items) (in_use : uses (pool_of x) cell ≡ true)
      (now : (a : ℕ) → is_noted a used ≡ (not (a == cell) && is_noted a x.used)) where
    put_is : record (pool_of x) { extents = map extent_of x.extents; cells = map cell_of (cell_item cell ∷ drop 5 x.items) } ≡ with_first cell (pool_of x)
    put_is =
        ap (λ (z : List Extent). record (pool_of x) { extents = z; cells = map cell_of (cell_item cell ∷ drop 5 x.items) }) (sym (own_extents x))
        ∙ ap (λ (z : List ℕ). record (pool_of x) { cells = cell ∷ z }) (sym (own_cells x))

    pub put_all : pool_of (entry_as x x.words items used x.extents x.places) ≡ with_first cell (pool_of x)
    put_all = pool_with x sound.room x.words refl items (cell_item cell ∷ drop 5 x.items) h used x.extents x.places ∙ put_is

    pub put_sound : IsSound (entry_as x x.words items used x.extents x.places)
    put_sound = again x.words refl items (cell_item cell ∷ drop 5 x.items) h used x.extents x.places sound.numbered (with_first cell (pool_of x)) put_is (put_cells (pool_of x) sound.cells cell in_use) (put_notes (pool_of x) sound.cells cell in_use x.used used sound.noted now) sound.separate sound.placed sound.within

  -- an extent is added
  module _ (words : List ℕ) (items extents places : Items) (start count : ℕ) (wide : Widens x.words words (pool_of x).settings.size (record { start = start; count = count })) (h : items ≡ x.items ++ cell_items (pool_of x).settings.size start count)
      (more : map extent_of extents ≡ map extent_of x.extents ++ record { start = start; count = count } ∷ []) where
    grown_parts : items ≡ take 5 x.items ++ (drop 5 x.items ++ cell_items (pool_of x).settings.size start count)
    grown_parts = h ∙ ap (λ (z : Items). z ++ cell_items (pool_of x).settings.size start count) (sym (take-append-drop 5 x.items)) ∙ append_assoc (take 5 x.items) (drop 5 x.items) (cell_items (pool_of x).settings.size start count)

    grown_is : record (pool_of x) { extents = map extent_of extents; cells = map cell_of (drop 5 x.items ++ cell_items (pool_of x).settings.size start count) } ≡ extended start count (pool_of x)
    grown_is =
        ap (λ (z : List Extent). record (pool_of x) { extents = z; cells = map cell_of (drop 5 x.items ++ cell_items (pool_of x).settings.size start count) }) (more ∙ ap (λ (z : List Extent). z ++ record { start = start; count = count } ∷ []) (sym (own_extents x)))
        ∙ ap (λ (z : List ℕ). record (pool_of x) { extents = (pool_of x).extents ++ record { start = start; count = count } ∷ []; cells = z })
        (map-append cell_of (drop 5 x.items) (cell_items (pool_of x).settings.size start count)
        ∙ ap (λ (z : List ℕ). z ++ map cell_of (cell_items (pool_of x).settings.size start count)) (sym (own_cells x))
        ∙ ap (λ (z : List ℕ). (pool_of x).cells ++ z) (cells_back _))

    same : subpool_in words ≡ subpool_in x.words
    same = same_subpool_in x.words words (pool_of x).settings.size (record { start = start; count = count }) wide

    pub grown_all : pool_of (entry_as x words items x.used extents places) ≡ extended start count (pool_of x)
    grown_all = pool_with x sound.room words same items (drop 5 x.items ++ cell_items (pool_of x).settings.size start count) grown_parts x.used extents places ∙ grown_is

    pub grown_sound : AreNumbered 0 extents → 0 < count → meets start (count * (pool_of x).settings.size) (pool_of x) ≡ false
        → ((a : ℕ) → placed_at a places ≡ (if a == start then Some (place_words (pool_of x).settings.size (record { start = start; count = count })) else placed_at a x.places))
        → IsSound (entry_as x words items x.used extents places)
    grown_sound numbered some clear now = again words same items (drop 5 x.items ++ cell_items (pool_of x).settings.size start count) grown_parts x.used extents places numbered (extended start count (pool_of x)) grown_is
        (grown_cells (pool_of x) sound.size start count sound.cells clear) (grown_notes (pool_of x) sound.size start count sound.cells clear x.used sound.noted)
        (separate_more (pool_of x).settings.size sound.size start count some (pool_of x).extents sound.separate clear)
        (placed_more (pool_of x) sound.size start count some sound.separate clear x.places places sound.placed now)
        (within_widened x.words words (pool_of x).settings.size (record { start = start; count = count }) wide (pool_of x).extents sound.within)

  -- the last extent goes
  module _ (items extents places : Items) (end n : ℕ) (y : Extent) (h : items ≡ take end x.items ++ drop (end + n) x.items) (size : end + n ≡ length x.items) (some : 5 ≤ end)
      (less : map extent_of x.extents ≡ map extent_of extents ++ y ∷ []) where
    cut_parts : items ≡ take 5 x.items ++ take (end - 5) (drop 5 x.items)
    cut_parts =
        let e : end ≡ 5 + (end - 5) = omega (arith, some) in
        h ∙ ap (λ (z : Items). take end x.items ++ z) (drop_whole x.items (end + n) (omega (arith, size))) ∙ nothing_more (take end x.items)
        ∙ ap (λ (z : ℕ). take z x.items) e ∙ take-more x.items 5 (end - 5) where
          nothing_more : (xs : Items) → xs ++ [] ≡ xs
          nothing_more [] = refl
          nothing_more (z ∷ xs) = ap (λ (w : Items). z ∷ w) (nothing_more xs)

    front_extents : map extent_of extents ≡ take (length (pool_of x).extents - 1) (pool_of x).extents
    front_extents = sym (ap (λ (z : List Extent). take (length z - 1) z) (own_extents x ∙ less) ∙ all_but (map extent_of extents)) where
      all_but : (zs : List Extent) → take (length (zs ++ y ∷ []) - 1) (zs ++ y ∷ []) ≡ zs
      all_but zs = let e : length (zs ++ y ∷ []) - 1 ≡ length zs = omega (arith, length-append zs (y ∷ [])) in ap (λ (z : ℕ). take z (zs ++ y ∷ [])) e ∙ seam zs where
        seam : (ws : List Extent) → take (length ws) (ws ++ y ∷ []) ≡ ws
        seam [] = refl
        seam (w ∷ ws) = ap (λ (z : List Extent). w ∷ z) (seam ws)

    cut_is : record (pool_of x) { extents = map extent_of extents; cells = map cell_of (take (end - 5) (drop 5 x.items)) } ≡ retracted n (pool_of x)
    cut_is =
        let e : end - 5 ≡ length (pool_of x).cells - n = omega (arith, some, size, ap length (own_cells x), length-map' (drop 5 x.items), length-drop 5 x.items) in
        ap (λ (z : List Extent). record (pool_of x) { extents = z; cells = map cell_of (take (end - 5) (drop 5 x.items)) }) front_extents
        ∙ ap (λ (z : List ℕ). record (pool_of x) { extents = take (length (pool_of x).extents - 1) (pool_of x).extents; cells = z })
        (sym (take-map cell_of (end - 5) (drop 5 x.items)) ∙ ap (take (end - 5)) (sym (own_cells x)) ∙ ap (λ (z : ℕ). take z (pool_of x).cells) e) where
          length-map' : (xs : Items) → length (map cell_of xs) ≡ length xs
          length-map' [] = refl
          length-map' (z ∷ xs) = omega (arith, length-map' xs)

    pub cut_all : pool_of (entry_as x x.words items x.used extents places) ≡ retracted n (pool_of x)
    cut_all = pool_with x sound.room x.words refl items (take (end - 5) (drop 5 x.items)) cut_parts x.used extents places ∙ cut_is

    pub cut_sound : AreNumbered 0 extents → (rest : Pool) (start : ℕ) → pool_of x ≡ extended start n rest → retracted n (extended start n rest) ≡ rest
        → ((a : ℕ) → placed_at a places ≡ (if a == start then None else placed_at a x.places)) → IsSound (entry_as x x.words items x.used extents places)
    cut_sound numbered rest start are back now =
        let P : Pool → Type 0 = HasCells in
        let N : Pool → Type 0 = λ z. AreNoted z x.used in
        let R : Pool → Type 0 = λ z. 0 < z.settings.size in
        let S : Pool → Type 0 = λ z. AreSeparate z.settings.size z.extents in
        let L : Pool → Type 0 = λ z. ArePlaced z x.places in
        let big : 0 < rest.settings.size = subst R are sound.size in
        let whole : AreSeparate rest.settings.size (extended start n rest).extents = subst S are sound.separate in
        let I : Pool → Type 0 = λ z. AreWithin x.words z.settings.size z.extents in
        again x.words refl items (take (end - 5) (drop 5 x.items)) cut_parts x.used extents places numbered rest (cut_is ∙ ap (retracted n) are ∙ back)
        (cut_cells rest big start n (subst P are sound.cells)) (cut_notes rest big start n (subst P are sound.cells) x.used (subst N are sound.noted))
        (separate_less rest.settings.size big start n (last_has rest.settings.size rest.extents (record { start = start; count = n }) whole) rest.extents whole).0
        (placed_less rest big start n whole x.places places (subst L are sound.placed) now)
        (within_less x.words rest.settings.size (record { start = start; count = n }) rest.extents (subst I are sound.within))
