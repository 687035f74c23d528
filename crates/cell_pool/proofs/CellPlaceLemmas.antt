-- Extents by address: the rows under their addresses, and what they say.
use Rattle.std.proofs.Common.{◌≡◌, ℕ, ◌+◌, ◌*◌, ◌/◌, ◌%◌, ◌<◌, ◌≤◌, ◌==◌, Bool, true, false, List, [], ◌∷◌, Option, Some, None, inl, inr, refl, sym, ap, ◌∙◌, subst, arith}
use Rattle.std.specs.Prelude.{if◌then◌else◌, option_map, IsSome}
use Rattle.vsm_elements.specs.Store.{Store}
use Rattle.row_table.specs.declared.row.Row.{Row}
use Rattle.row_table.specs.declared.table.RowTable.{RowTable}
use Rattle.row_table.specs.Rows.{word, same_key, comes_before, RowsBehind, AreInOrder, AreLow, row_among}
use Rattle.row_table.specs.RowTable.{row, rows, IsTable}
use Rattle.row_table.proofs.RowLemmas.{either, none_some, same_parts, same_self}
use Rattle.row_table.proofs.NextLemmas.{before_says}
use Rattle.row_table.proofs.AscendLemmas.{other_behind}
use Rattle.row_table.proofs.TableLemmas.{rows_ascend}
use Rattle.row_table.proofs.HalfLemmas.{rows_are_low}
use Rattle.list_table.specs.Stocks.{rows_of}
use Rattle.cell_pool.specs.declared.settings.Extent.{Extent}
use Rattle.cell_pool.specs.Pool.{Pool}
use Rattle.cell_pool.specs.Notes.{is_at}
use Rattle.cell_pool.specs.Places.{place_words, placed_at, beginning_at, place_bytes, ArePlaced, AreSeparate, BeginFrom, AreSpread}
use Rattle.cell_pool.proofs.NoteLemmas.{same_at}
use Rattle.cell_pool.proofs.SeparateLemmas.{has_cells, separate_pair, some_bytes}

abbrev words_of : Row → List ℕ
words_of r = r.words

among_words : (a : ℕ) (rs : List Row) → placed_at a (rows_of rs) ≡ option_map words_of (row_among (a % 256) (a / 256) rs)
among_words a [] = refl
among_words a (r ∷ rs) = go (is_at a r.words) (row_among (a % 256) (a / 256) rs) (among_words a rs) where
  go : (b : Bool) (o : Option Row) → placed_at a (rows_of rs) ≡ option_map words_of o → (if b then Some r.words else placed_at a (rows_of rs)) ≡ option_map words_of (if b then Some r else o)
  go true o e = refl
  go false o e = e

-- the words under an address are those of the row there
pub placed_row : (s : Store) (q : RowTable) → IsTable s q → (a : ℕ) → placed_at a (rows_of (rows s q)) ≡ option_map words_of (row s q (a % 256) (a / 256))
placed_row s q h a = among_words a (rows s q) ∙ sym (ap (option_map words_of) ((rows_ascend s q h).1 (a % 256) (a / 256)))

words_if : (b : Bool) (x o : Option Row) → option_map words_of (if b then x else o) ≡ (if b then option_map words_of x else option_map words_of o)
words_if true x o = refl
words_if false x o = refl

-- if a row is added under an address, or goes
module _ (s t : Store) (q r : RowTable) (h : IsTable s q) (k : IsTable t r) (address : ℕ) (x : Option Row)
    (now : (a b : ℕ) → row t r a b ≡ (if same_key (address % 256) (address / 256) a b then x else row s q a b)) where
  pub placed_now : (a : ℕ) → placed_at a (rows_of (rows t r)) ≡ (if a == address then option_map words_of x else placed_at a (rows_of (rows s q)))
  placed_now a =
      placed_row t r k a ∙ ap (option_map words_of) (now (a % 256) (a / 256))
      ∙ words_if (same_key (address % 256) (address / 256) (a % 256) (a / 256)) x (row s q (a % 256) (a / 256))
      ∙ ap (λ (z : Bool). if z then option_map words_of x else option_map words_of (row s q (a % 256) (a / 256))) (same_at address a)
      ∙ ap (λ (z : Option (List ℕ)). if a == address then option_map words_of x else z) (sym (placed_row s q h a))

-- no row is under an address, or one is
pub no_place : (s : Store) (q : RowTable) → IsTable s q → (a : ℕ) → placed_at a (rows_of (rows s q)) ≡ None → row s q (a % 256) (a / 256) ≡ None
no_place s q h a e = go (row s q (a % 256) (a / 256)) (sym (placed_row s q h a) ∙ e) where
  go : (o : Option Row) → option_map words_of o ≡ None → o ≡ None
  go None f = refl
  go (Some x) f = absurd (none_some None x.words refl (sym f))

pub a_place : (s : Store) (q : RowTable) → IsTable s q → (a : ℕ) → IsSome (placed_at a (rows_of (rows s q))) → IsSome (row s q (a % 256) (a / 256))
a_place s q h a e =
    let P : Option (List ℕ) → Type 0 = λ z. IsSome z in
    go (row s q (a % 256) (a / 256)) (subst P (placed_row s q h a) e) where
      go : (o : Option Row) → IsSome (option_map words_of o) → IsSome o
      go None f = f
      go (Some x) f = refl

-- rows that ascend, each of an extent

abbrev low : Row → ℕ
low r = word r.words 0

abbrev high : Row → ℕ
high r = word r.words 1

abbrev address_of : Row → ℕ
address_of r = high r * 256 + low r

own_address : (r : Row) → low r < 256 → is_at (address_of r) r.words ≡ true
own_address r l =
    let a : address_of r % 256 ≡ low r = omega (arith, l) in
    let b : address_of r / 256 ≡ high r = omega (arith, l) in
    ap (λ (z : ℕ). same_key (low r) (high r) z (address_of r / 256)) a ∙ ap (same_key (low r) (high r) (low r)) b ∙ same_self (low r) (high r)

-- no row after one is under its address
none_behind : (a : ℕ) (r : Row) → is_at a r.words ≡ true → (rs : List Row) → RowsBehind (low r) (high r) rs → placed_at a (rows_of rs) ≡ None
none_behind a r e [] h = refl
none_behind a r e (q ∷ rs) h =
    let k = same_parts (low r) (high r) (a % 256) (a / 256) e in
    let l : comes_before (a % 256) (a / 256) (low q) (high q) ≡ true = ap (λ (z : ℕ). comes_before z (a / 256) (low q) (high q)) (sym k.0) ∙ ap (λ (z : ℕ). comes_before (low r) z (low q) (high q)) (sym k.1) ∙ h.0 in
    ap (λ (z : Bool). if z then Some q.words else placed_at a (rows_of rs)) (other_behind (a % 256) (a / 256) (record { id = q.id; words = q.words }) l) ∙ none_behind a r e rs h.1

-- each row says one of the extents
abbrev pub Say : ℕ → List Extent → List Row → Type 0
Say size xs rs = (a : ℕ) (ws : List ℕ) → placed_at a (rows_of rs) ≡ Some ws → (x : Extent) × (beginning_at a xs ≡ Some x) × (ws ≡ place_words size x)

pub all_say : (p : Pool) (rs : List Row) → ArePlaced p (rows_of rs) → Say p.settings.size p.extents rs
all_say p rs placed a ws e = go (beginning_at a p.extents) (sym (placed a) ∙ e) where
  go : (o : Option Extent) → option_map (place_words p.settings.size) o ≡ Some ws → (x : Extent) × (o ≡ Some x) × (ws ≡ place_words p.settings.size x)
  go None f = absurd (none_some None ws refl f)
  go (Some x) f = (x, refl, sym (some_is f)) where
    some_is : Some (place_words p.settings.size x) ≡ Some ws → place_words p.settings.size x ≡ ws
    some_is g = cc

module _ (size : ℕ) (xs : List Extent) where
  pub rest_say : (r : Row) (rs : List Row) → RowsBehind (low r) (high r) rs → Say size xs (r ∷ rs) → Say size xs rs
  rest_say r rs b say a ws e = elim (either (is_at a r.words)) [
    | inl p ↦ absurd (none_some (placed_at a (rows_of rs)) ws (none_behind a r p rs b) e)
    | inr p ↦ say a ws (ap (λ (z : Bool). if z then Some r.words else placed_at a (rows_of rs)) p ∙ e)
  ]

  pub first_says : (r : Row) (rs : List Row) → low r < 256 → Say size xs (r ∷ rs) → (x : Extent) × (beginning_at (address_of r) xs ≡ Some x) × (r.words ≡ place_words size x)
  first_says r rs l say = say (address_of r) r.words (ap (λ (z : Bool). if z then Some r.words else placed_at (address_of r) (rows_of rs)) (own_address r l))

  less : (r q : Row) → low r < 256 → low q < 256 → comes_before (low r) (high r) (low q) (high q) ≡ true → address_of r < address_of q
  less r q l m e = elim (before_says (low r) (high r) (low q) (high q) e) [
    | inl p ↦ omega (arith, l, m, p)
    | inr p ↦ omega (arith, l, m, p.0, p.1)
  ]

  begin_from : 0 < size → AreSeparate size xs → (r : Row) → low r < 256 → (x : Extent) → beginning_at (address_of r) xs ≡ Some x → (rs : List Row)
      → RowsBehind (low r) (high r) rs → AreInOrder rs → AreLow rs → Say size xs rs → BeginFrom (x.start + x.count * size) (rows_of rs)
  begin_from s separate r l x from [] b o lows say = tt
  begin_from s separate r l x from (q ∷ rs) b o lows say =
      let y = first_says q rs lows.0 say in
      let k : x.start + x.count * size ≤ (y.0).start = separate_pair size s xs separate (address_of r) (address_of q) x y.0 from y.1 (less r q l lows.0 b.0) in
      let P : List ℕ → Type 0 = λ z. x.start + x.count * size ≤ word z 2 in
      (subst P (sym y.2) k, begin_from s separate r l x from rs b.1 o.1 lows.1 (rest_say q rs o.0 say))

  spread : 0 < size → AreSeparate size xs → (rs : List Row) → AreInOrder rs → AreLow rs → Say size xs rs → AreSpread (rows_of rs)
  spread s separate [] o lows say = tt
  spread s separate (r ∷ rs) o lows say =
      let x = first_says r rs lows.0 say in
      let B : List ℕ → Type 0 = λ z. 0 < place_bytes z in
      let E : List ℕ → Type 0 = λ z. BeginFrom (word z 2 + place_bytes z) (rows_of rs) in (
        subst B (sym x.2) (some_bytes (x.0).count size (has_cells size xs separate (address_of r) x.0 x.1) s),
        subst E (sym x.2) (begin_from s separate r lows.0 x.0 x.1 rs o.0 o.1 lows.1 (rest_say r rs o.0 say)),
        spread s separate rs o.1 lows.1 (rest_say r rs o.0 say),
      )

pub are_spread : (s : Store) (q : RowTable) → IsTable s q → (p : Pool) → 0 < p.settings.size → AreSeparate p.settings.size p.extents → ArePlaced p (rows_of (rows s q)) → AreSpread (rows_of (rows s q))
are_spread s q h p size separate placed = spread p.settings.size p.extents size separate (rows s q) (rows_ascend s q h).0 (rows_are_low s q) (all_say p (rows s q) placed)
