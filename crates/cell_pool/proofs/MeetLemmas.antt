-- Whether an area meets one of the extents: by the rows of their places, and by what these say.
use Rattle.std.proofs.Common.{◌≡◌, ℕ, ◌+◌, ◌*◌, ◌<◌, ◌≤◌, ◌==◌, ◌&&◌, ◌||◌, Bool, true, false, List, [], ◌∷◌, ◌++◌, Option, Some, None, inl, inr, refl, sym, ap, ◌∙◌, subst, arith}
use Rattle.std.specs.Prelude.{if◌then◌else◌, option_map, nat_lt}
use Rattle.std.specs.List.{list_any}
use Rattle.std.proofs.lemmas.Bool.{le-ltb, ltb-false, cond-false, cond-true}
use Rattle.vsm_elements.specs.Store.{Store}
use Rattle.vsm_elements.proofs.ChainLemmas.{not_both}
use Rattle.row_table.specs.declared.row.Row.{Row}
use Rattle.row_table.specs.declared.table.RowTable.{RowTable}
use Rattle.row_table.specs.Rows.{word, AreInOrder, AreLow}
use Rattle.row_table.specs.RowTable.{rows, IsTable}
use Rattle.row_table.proofs.RowLemmas.{either, none_some}
use Rattle.row_table.proofs.TableLemmas.{rows_ascend}
use Rattle.row_table.proofs.HalfLemmas.{rows_are_low}
use Rattle.list_table.specs.Stocks.{rows_of}
use Rattle.cell_pool.specs.declared.settings.Extent.{Extent}
use Rattle.cell_pool.specs.Pool.{Pool, overlaps, meets, rounded, extended}
use Rattle.cell_pool.specs.Notes.{is_at}
use Rattle.cell_pool.specs.Places.{place_words, placed_at, beginning_at, overlaps_place, place_bytes, ArePlaced, AreSeparate, BeginFrom, AreSpread}
use Rattle.cell_pool.proofs.EntryLemmas.{eqb_same, eqb_refl}
use Rattle.cell_pool.proofs.CellLemmas.{or_left, or_right}
use Rattle.cell_pool.proofs.SeparateLemmas.{some_is, one_not, begins_elsewhere, begins_elsewhere_than, beginning_more, beside_one, has_cells, last_has, separate_less}
use Rattle.cell_pool.proofs.CellPlaceLemmas.{Say, first_says, rest_say, all_say}

abbrev Items : Type 0
Items = List (List ℕ)

-- rows in parts

module _ (start len : ℕ) where
  abbrev met_by : List Row → Bool
  met_by rs = list_any (overlaps_place start len) (rows_of rs)

  pub any_parts : (xs : List Row) (r : Row) (ys : List Row) → met_by (xs ++ r ∷ ys) ≡ (overlaps_place start len r.words || (met_by xs || met_by ys))
  any_parts [] r ys = refl
  any_parts (q ∷ xs) r ys =
      ap (λ (z : Bool). overlaps_place start len q.words || z) (any_parts xs r ys)
      ∙ turn (overlaps_place start len q.words) (overlaps_place start len r.words) (met_by xs) (met_by ys) where
        turn : (a b c d : Bool) → (a || (b || (c || d))) ≡ (b || ((a || c) || d))
        turn true true c d = refl
        turn true false c d = refl
        turn false true c d = refl
        turn false false c d = refl

  -- an area before an extent doesn't overlap it
  ends_before : (r : Row) → start + len ≤ word r.words 2 → overlaps_place start len r.words ≡ false
  ends_before r l = last (nat_lt start (word r.words 2 + rounded (place_bytes r.words))) (nat_lt (word r.words 2) (start + len)) (le-ltb (word r.words 2) (start + len) l) where
    last : (a b : Bool) → b ≡ false → (a && b) ≡ false
    last true b e = e
    last false b e = refl

  -- an area before an address meets no extent from there on
  none_from : (end : ℕ) → start + len ≤ end → (rs : List Row) → BeginFrom end (rows_of rs) → met_by rs ≡ false
  none_from end l [] h = refl
  none_from end l (r ∷ rs) h =
      ap (λ (z : Bool). z || met_by rs) (ends_before r (omega (arith, l, h.0))) ∙ none_from end l rs h.1

  begins_by : (end : ℕ) (xs : List Row) (r : Row) (ys : List Row) → BeginFrom end (rows_of (xs ++ r ∷ ys)) → end ≤ word r.words 2
  begins_by end [] r ys h = h.0
  begins_by end (x ∷ xs) r ys h = begins_by end xs r ys h.1

  short : (n : ℕ) → rounded n ≤ n + 7
  short n = omega arith

  -- one after the end of an extent meets none of those before it
  none_until : (r : Row) (ys : List Row) → word r.words 2 + rounded (place_bytes r.words) ≤ start → 0 < place_bytes r.words → (xs : List Row) → AreSpread (rows_of (xs ++ r ∷ ys)) → met_by xs ≡ false
  none_until r ys l some [] h = refl
  none_until r ys l some (x ∷ xs) h =
      let k : word x.words 2 + place_bytes x.words ≤ word r.words 2 = begins_by (word x.words 2 + place_bytes x.words) xs r ys h.1 in
      let m : place_bytes r.words ≤ rounded (place_bytes r.words) = omega arith in
      ap (λ (z : Bool). (z && nat_lt (word x.words 2) (start + len)) || met_by xs) (le-ltb start (word x.words 2 + rounded (place_bytes x.words)) (end_by (place_bytes x.words) (place_bytes r.words) (word x.words 2) (word r.words 2) k l some))
      ∙ none_until r ys l some xs h.2 where
        end_by : (b c x r : ℕ) → x + b ≤ r → r + rounded c ≤ start → 0 < c → x + rounded b ≤ start
        end_by b c x r h k l = omega (arith, h, k, l)

spread_parts : (xs : List Row) (r : Row) (ys : List Row) → AreSpread (rows_of (xs ++ r ∷ ys)) → AreSpread (rows_of xs) × AreSpread (rows_of (r ∷ ys))
spread_parts [] r ys h = (tt, h)
spread_parts (x ∷ xs) r ys h = let k = spread_parts xs r ys h.2 in ((h.0, front (word x.words 2 + place_bytes x.words) xs h.1, k.0), k.1) where
  front : (end : ℕ) (zs : List Row) → BeginFrom end (rows_of (zs ++ r ∷ ys)) → BeginFrom end (rows_of zs)
  front end [] g = tt
  front end (z ∷ zs) g = (g.0, front end zs g.1)

-- a row in the middle, and what is before and after it
module _ (start len : ℕ) (all xs : List Row) (r : Row) (ys : List Row) (are : all ≡ xs ++ r ∷ ys) (h : AreSpread (rows_of all)) where
  parts : AreSpread (rows_of (xs ++ r ∷ ys))
  parts = let P : List Row → Type 0 = λ z. AreSpread (rows_of z) in subst P are h

  pub before_spread : AreSpread (rows_of xs)
  before_spread = (spread_parts xs r ys parts).0

  pub behind_spread : AreSpread (rows_of ys)
  behind_spread = (spread_parts xs r ys parts).1.2

  whole : met_by start len all ≡ (overlaps_place start len r.words || (met_by start len xs || met_by start len ys))
  whole = ap (met_by start len) are ∙ any_parts start len xs r ys

  pub met_here : overlaps_place start len r.words ≡ true → met_by start len all ≡ true
  met_here e = whole ∙ ap (λ (z : Bool). z || (met_by start len xs || met_by start len ys)) e

  -- if the area ends by this row's extent, those after it aren't met
  pub met_before : start + len ≤ word r.words 2 → met_by start len all ≡ met_by start len xs
  met_before l =
      whole ∙ ap (λ (z : Bool). z || (met_by start len xs || met_by start len ys)) (ends_before start len r l)
      ∙ ap (λ (z : Bool). met_by start len xs || z) (none_from start len (word r.words 2 + place_bytes r.words) (omega (arith, l)) ys (spread_parts xs r ys parts).1.1)
      ∙ nothing (met_by start len xs) where
        nothing : (b : Bool) → (b || false) ≡ b
        nothing true = refl
        nothing false = refl

  -- and if it doesn't, those before aren't
  pub met_behind : overlaps_place start len r.words ≡ false → word r.words 2 < start + len → met_by start len all ≡ met_by start len ys
  met_behind e l =
      whole ∙ ap (λ (z : Bool). z || (met_by start len xs || met_by start len ys)) e
      ∙ ap (λ (z : Bool). z || met_by start len ys) (none_until start len r ys past (spread_parts xs r ys parts).1.0 xs parts) where
        past : word r.words 2 + rounded (place_bytes r.words) ≤ start
        past = elim (one_not (nat_lt start (word r.words 2 + rounded (place_bytes r.words))) (nat_lt (word r.words 2) (start + len)) e) [
          | inl p ↦ ltb-false start (word r.words 2 + rounded (place_bytes r.words)) p
          | inr p ↦ absurd (omega (arith, l, ltb-false (word r.words 2) (start + len) p))
        ]

-- the rows meet an area exactly if the extents do

any_placed : (f : List ℕ → Bool) (rows : Items) (a : ℕ) (ws : List ℕ) → placed_at a rows ≡ Some ws → f ws ≡ true → list_any f rows ≡ true
any_placed f [] a ws e g = absurd (none_some None ws refl e)
any_placed f (w ∷ rest) a ws e g = elim (either (is_at a w)) [
  | inl p ↦ or_left (f w) (list_any f rest) (ap f (some_is w ws (sym (cond-true (is_at a w) (Some w) (placed_at a rest) p) ∙ e)) ∙ g)
  | inr p ↦ or_right (f w) (list_any f rest) (any_placed f rest a ws (sym (cond-false (is_at a w) (Some w) (placed_at a rest) p) ∙ e) g)
]

any_beginning : (f : Extent → Bool) (xs : List Extent) (a : ℕ) (x : Extent) → beginning_at a xs ≡ Some x → f x ≡ true → list_any f xs ≡ true
any_beginning f [] a x e g = absurd (none_some None x refl e)
any_beginning f (y ∷ ys) a x e g = elim (either (a == y.start)) [
  | inl p ↦ or_left (f y) (list_any f ys) (ap f (some_is y x (sym (cond-true (a == y.start) (Some y) (beginning_at a ys) p) ∙ e)) ∙ g)
  | inr p ↦ or_right (f y) (list_any f ys) (any_beginning f ys a x (sym (cond-false (a == y.start) (Some y) (beginning_at a ys) p) ∙ e) g)
]

one_of : (a b : Bool) → (a || b) ≡ true → a ≡ false → b ≡ true
one_of true b e f = absurd (not_both true refl f)
one_of false b e f = e

-- the extent, said by one of the rows in order, that meets the area
said_any : (size start len : ℕ) (xs : List Extent) (rs : List Row) → AreInOrder rs → AreLow rs → Say size xs rs → met_by start len rs ≡ true
    → (x : Extent) × (a : ℕ) × (beginning_at a xs ≡ Some x) × (overlaps size start len x ≡ true)
said_any size start len xs [] o lows say e = absurd (not_both false e refl)
said_any size start len xs (r ∷ rs) o lows say e = elim (either (overlaps_place start len r.words)) [
  | inl p ↦ (let x = first_says size xs r rs lows.0 say in (x.0, word r.words 1 * 256 + word r.words 0, x.1, ap (overlaps_place start len) (sym x.2) ∙ p))
  | inr p ↦ said_any size start len xs rs o.1 lows.1 (rest_say size xs r rs o.0 say) (one_of (overlaps_place start len r.words) (met_by start len rs) e p)
]

-- and one of the extents that does
begun_any : (size : ℕ) → 0 < size → (f : Extent → Bool) (xs : List Extent) → AreSeparate size xs → list_any f xs ≡ true → (x : Extent) × (beginning_at x.start xs ≡ Some x) × (f x ≡ true)
begun_any size s f [] h e = absurd (not_both false e refl)
begun_any size s f (y ∷ ys) h e = elim (either (f y)) [
  | inl p ↦ (y, cond-true (y.start == y.start) (Some y) (beginning_at y.start ys) (eqb_refl y.start), p)
  | inr p ↦ (let x = begun_any size s f ys h.2 (one_of (f y) (list_any f ys) e p) in
      (x.0, cond-false ((x.0).start == y.start) (Some y) (beginning_at (x.0).start ys) (begins_elsewhere_than size s (x.0).start (x.0).count (has_cells size ys h.2 (x.0).start x.0 x.1) y h.0 (beside_one size y ys h.1 (x.0).start x.0 x.1)) ∙ x.1, x.2))
]

same_bool : (a b : Bool) → (a ≡ true → b ≡ true) → (b ≡ true → a ≡ true) → a ≡ b
same_bool true b h k = sym (h refl)
same_bool false true h k = k refl
same_bool false false h k = refl

pub met : (s : Store) (q : RowTable) → IsTable s q → (p : Pool) → 0 < p.settings.size → AreSeparate p.settings.size p.extents → ArePlaced p (rows_of (rows s q)) → (start len : ℕ)
    → list_any (overlaps_place start len) (rows_of (rows s q)) ≡ meets start len p
met s q h p size separate placed start len = same_bool (met_by start len (rows s q)) (meets start len p) there back where
  there : met_by start len (rows s q) ≡ true → meets start len p ≡ true
  there e =
      let x = said_any p.settings.size start len p.extents (rows s q) (rows_ascend s q h).0 (rows_are_low s q) (all_say p (rows s q) placed) e in
      any_beginning (overlaps p.settings.size start len) p.extents x.1 x.0 x.2 x.3

  back : meets start len p ≡ true → met_by start len (rows s q) ≡ true
  back e =
      let x = begun_any p.settings.size size (overlaps p.settings.size start len) p.extents separate e in
      any_placed (overlaps_place start len) (rows_of (rows s q)) (x.0).start (place_words p.settings.size x.0) (placed (x.0).start ∙ ap (option_map (place_words p.settings.size)) x.1) x.2

-- an extent is added, and its row with it
module _ (p : Pool) (size : 0 < p.settings.size) (start count : ℕ) where
  abbrev x : Extent
  x = record { start = start; count = count }

  abbrev said : Option Extent → Option (List ℕ)
  said = option_map (place_words p.settings.size)

  said_if : (b : Bool) (o u : Option Extent) → said (if b then o else u) ≡ (if b then said o else said u)
  said_if true o u = refl
  said_if false o u = refl

  pub placed_more : 0 < count → AreSeparate p.settings.size p.extents → meets start (count * p.settings.size) p ≡ false → (old new : Items) → ArePlaced p old
      → ((a : ℕ) → placed_at a new ≡ (if a == start then Some (place_words p.settings.size x) else placed_at a old)) → ArePlaced (extended start count p) new
  placed_more some separate clear old new placed now a =
      now a ∙ ap (λ (z : Option (List ℕ)). if a == start then Some (place_words p.settings.size x) else z) (placed a)
      ∙ sym (ap said (beginning_more p.settings.size p.extents x (begins_elsewhere p.settings.size size start count some p.extents separate clear) a)
      ∙ said_if (a == start) (Some x) (beginning_at a p.extents))

  -- the last one goes
  pub placed_less : AreSeparate p.settings.size (p.extents ++ x ∷ []) → (old new : Items) → ArePlaced (extended start count p) old
      → ((a : ℕ) → placed_at a new ≡ (if a == start then None else placed_at a old)) → ArePlaced p new
  placed_less separate old new placed now a =
      now a ∙ ap (λ (z : Option (List ℕ)). if a == start then None else z) (placed a ∙ ap said (beginning_more p.settings.size p.extents x gone a) ∙ said_if (a == start) (Some x) (beginning_at a p.extents))
      ∙ without (a == start) refl where
        gone : beginning_at start p.extents ≡ None
        gone = (separate_less p.settings.size size start count (last_has p.settings.size p.extents x separate) p.extents separate).1

        without : (b : Bool) → (a == start) ≡ b → (if b then None else (if b then said (Some x) else said (beginning_at a p.extents))) ≡ said (beginning_at a p.extents)
        without true e = sym (ap (λ (z : ℕ). said (beginning_at z p.extents)) (eqb_same a start e) ∙ ap said gone)
        without false e = refl
