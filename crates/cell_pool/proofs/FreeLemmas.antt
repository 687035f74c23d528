-- The free cells of a pool, and those in use, under the calls.
use Rattle.std.proofs.Common.{◌≡◌, ℕ, suc, ◌+◌, ◌-◌, ◌*◌, ◌/◌, ◌<◌, ◌≤◌, ◌==◌, ◌&&◌, ◌||◌, Bool, true, false, List, [], ◌∷◌, ◌++◌, drop, Some, None, refl, sym, ap, ◌∙◌, subst, arith}
use Rattle.std.specs.Prelude.{slice_get, not, nat_lt}
use Rattle.std.specs.List.{list_any}
use Rattle.std.proofs.lemmas.Bool.{and_parts, lt-ltb}
use Rattle.std.proofs.Math.Nat.{mul-le-mul_right}
use Rattle.vsm_elements.specs.Store.{among, Distinct}
use Rattle.vsm_elements.proofs.ChainLemmas.{among-append, not_both}
use Rattle.vsm_elements.proofs.LiveLemmas.{Distinct-join}
use Rattle.vsm_elements.proofs.OwnerLemmas.{Distinct-parts}
use Rattle.cell_pool.specs.declared.settings.Extent.{Extent}
use Rattle.cell_pool.specs.Pool.{Pool, HasCells, cells_from, cells_of, uses, overlaps, meets, rounded, without_first, with_first, extended}
use Rattle.cell_pool.specs.Notes.{is_noted, AreNoted}
use Rattle.cell_pool.proofs.EntryLemmas.{eqb_same, eqb_refl}
use Rattle.cell_pool.proofs.WalkLemmas.{cell_in, none_true, distinct_cells}
use Rattle.cell_pool.proofs.CellLemmas.{or_left, or_right, cells_more, apart_more, apart_front, apart_last}

abbrev Items : Type 0
Items = List (List ℕ)

one_of : (a b : Bool) → (a || b) ≡ true → a ≡ false → b ≡ true
one_of true b e f = absurd (not_both true refl f)
one_of false b e f = e

not_true : (b : Bool) → not b ≡ true → b ≡ false
not_true true e = absurd (not_both false e refl)
not_true false e = refl

first_is : (cells : List ℕ) (cell : ℕ) → slice_get cells 0 ≡ Some cell → cells ≡ cell ∷ drop 1 cells
first_is [] cell h = absurd (none_some h) where
  none_some : None ≡ Some cell → ⊥
  none_some e = cc
first_is (x ∷ cells) cell h = ap (λ (z : ℕ). z ∷ cells) (some_is h) where
  some_is : Some x ≡ Some cell → x ≡ cell
  some_is e = cc

-- one cell is handed out
module _ (p : Pool) (has : HasCells p) (cell : ℕ) (first : slice_get p.cells 0 ≡ Some cell) where
  are : p.cells ≡ cell ∷ drop 1 p.cells
  are = first_is p.cells cell first

  rest : (among cell (drop 1 p.cells) ≡ false) × Distinct (drop 1 p.cells)
  rest = let P : List ℕ → Type 0 = Distinct in subst P are has.once

  pub taken_cells : HasCells (without_first p)
  taken_cells = record {
    once = rest.1;
    inside = λ a h. has.inside a (ap (among a) are ∙ or_right (a == cell) (among a (drop 1 p.cells)) h);
    apart = has.apart;
  }

  own : among cell (cells_of p.settings.size p.extents) ≡ true
  own = has.inside cell (ap (among cell) are ∙ or_left (cell == cell) (among cell (drop 1 p.cells)) (eqb_refl cell))

  pub was_free : uses p cell ≡ false
  was_free = ap (λ (z : Bool). among cell (cells_of p.settings.size p.extents) && not z) (ap (among cell) are ∙ or_left (cell == cell) (among cell (drop 1 p.cells)) (eqb_refl cell)) ∙ none (among cell (cells_of p.settings.size p.extents)) where
    none : (b : Bool) → (b && false) ≡ false
    none true = refl
    none false = refl

  pub taken_notes : (old new : Items) → AreNoted p old → ((a : ℕ) → is_noted a new ≡ ((a == cell) || is_noted a old)) → AreNoted (without_first p) new
  taken_notes old new notes now a l = now a ∙ ap (λ (z : Bool). (a == cell) || z) (notes a l) ∙ go (a == cell) refl where
    go : (b : Bool) → (a == cell) ≡ b → ((a == cell) || uses p a) ≡ uses (without_first p) a
    go true e =
        or_left (a == cell) (uses p a) e
        ∙ sym (ap (λ (z : Bool). z && not (among a (drop 1 p.cells))) (ap (λ (z : ℕ). among z (cells_of p.settings.size p.extents)) (eqb_same a cell e) ∙ own)
        ∙ ap not (ap (λ (z : ℕ). among z (drop 1 p.cells)) (eqb_same a cell e) ∙ rest.0))
    go false e =
        ap (λ (z : Bool). z || uses p a) e
        ∙ ap (λ (z : Bool). among a (cells_of p.settings.size p.extents) && not z) (ap (among a) are ∙ ap (λ (z : Bool). z || among a (drop 1 p.cells)) e)

-- one cell is freed
module _ (p : Pool) (has : HasCells p) (cell : ℕ) (used : uses p cell ≡ true) where
  both : (among cell (cells_of p.settings.size p.extents) ≡ true) × (not (among cell p.cells) ≡ true)
  both = and_parts (among cell (cells_of p.settings.size p.extents)) (not (among cell p.cells)) used

  pub put_cells : HasCells (with_first cell p)
  put_cells = record {
    once = (not_true (among cell p.cells) both.1, has.once);
    inside = λ a h. inside a h (a == cell) refl;
    apart = has.apart;
  } where
    inside : (a : ℕ) → among a (cell ∷ p.cells) ≡ true → (b : Bool) → (a == cell) ≡ b → among a (cells_of p.settings.size p.extents) ≡ true
    inside a h true e = ap (λ (z : ℕ). among z (cells_of p.settings.size p.extents)) (eqb_same a cell e) ∙ both.0
    inside a h false e = has.inside a (one_of (a == cell) (among a p.cells) h e)

  turn : (a b c : Bool) → (not b && (a && not c)) ≡ (a && not (b || c))
  turn true true c = refl
  turn true false c = refl
  turn false true c = refl
  turn false false c = refl

  pub put_notes : (old new : Items) → AreNoted p old → ((a : ℕ) → is_noted a new ≡ (not (a == cell) && is_noted a old)) → AreNoted (with_first cell p) new
  put_notes old new notes now a l =
      now a ∙ ap (λ (z : Bool). not (a == cell) && z) (notes a l)
      ∙ turn (among a (cells_of p.settings.size p.extents)) (a == cell) (among a p.cells)

-- an area that overlaps no extent has none of their cells
past_cell : (size start count j address : ℕ) → 0 < size → j < count → address ≡ start + j * size → (start ≤ address) × (address < start + count * size)
past_cell size start count j address s l e =
    let k : suc j * size ≤ count * size = mul-le-mul_right size l in
    let more : suc j * size ≡ j * size + size = omega arith in
    (omega (arith, e), omega (arith, e, k, more, s))

up : (n : ℕ) → n ≤ rounded n
up n = omega arith

no_overlap : (size start count : ℕ) → 0 < size → (xs : List Extent) → list_any (overlaps size start (count * size)) xs ≡ false
    → (a : ℕ) → among a (cells_of size xs) ≡ true → among a (cells_from size start count) ≡ false
no_overlap size start count s [] h a e = absurd (not_both false e refl)
no_overlap size start count s (x ∷ xs) h a e = none_true (among a (cells_from size start count)) (λ f. split (λ k l. no_overlap size start count s xs k a l) f (among a (cells_from size x.start x.count)) refl) where
  neither : (c d : Bool) → (c || d) ≡ false → (c ≡ false) × (d ≡ false)
  neither true d g = absurd (not_both true refl g)
  neither false d g = (refl, g)

  apart : (overlaps size start (count * size) x ≡ false) × (list_any (overlaps size start (count * size)) xs ≡ false)
  apart = neither (overlaps size start (count * size) x) (list_any (overlaps size start (count * size)) xs) h

  both : (c d : Bool) → c ≡ true → d ≡ true → (c && d) ≡ true
  both true d g k = k
  both false d g k = absurd (not_both false g refl)

  split : (list_any (overlaps size start (count * size)) xs ≡ false → among a (cells_of size xs) ≡ true → among a (cells_from size start count) ≡ false)
      → among a (cells_from size start count) ≡ true → (b : Bool) → among a (cells_from size x.start x.count) ≡ b → ⊥
  split rest f true g =
      let m : (j : ℕ) × (j < count) × (a ≡ start + j * size) × ((a - start) / size ≡ j) = cell_in size start count a s f in
      let n : (j : ℕ) × (j < x.count) × (a ≡ x.start + j * size) × ((a - x.start) / size ≡ j) = cell_in size x.start x.count a s g in
      let u : (start ≤ a) × (a < start + count * size) = past_cell size start count m.0 a s m.1 m.2 in
      let v : (x.start ≤ a) × (a < x.start + x.count * size) = past_cell size x.start x.count n.0 a s n.1 n.2 in
      not_both (overlaps size start (count * size) x)
      (both (nat_lt start (x.start + rounded (x.count * size))) (nat_lt x.start (start + count * size))
      (lt-ltb start (x.start + rounded (x.count * size)) (omega (arith, u.0, v.1, up (x.count * size))))
      (lt-ltb x.start (start + count * size) (omega (arith, v.0, u.1))))
      apart.0
  split rest f false g =
      not_both (among a (cells_from size start count)) f
      (rest apart.1 (one_of (among a (cells_from size x.start x.count)) (among a (cells_of size xs)) (sym (among-append a (cells_from size x.start x.count) (cells_of size xs)) ∙ e) g))

-- with another extent the cells in use are those that were
same_use : (size : ℕ) (xs : List Extent) (y : Extent) (cells : List ℕ) → ((a : ℕ) → among a cells ≡ true → among a (cells_of size xs) ≡ true)
    → ((a : ℕ) → among a (cells_of size xs) ≡ true → among a (cells_from size y.start y.count) ≡ false) → (a : ℕ)
    → (among a (cells_of size (xs ++ y ∷ [])) && not (among a (cells ++ cells_from size y.start y.count))) ≡ (among a (cells_of size xs) && not (among a cells))
same_use size xs y cells inside apart a =
    ap (λ (z : List ℕ). among a z && not (among a (cells ++ cells_from size y.start y.count))) (cells_more size xs y)
    ∙ ap (λ (z : Bool). z && not (among a (cells ++ cells_from size y.start y.count))) (among-append a (cells_of size xs) (cells_from size y.start y.count))
    ∙ ap (λ (z : Bool). (among a (cells_of size xs) || among a (cells_from size y.start y.count)) && not z) (among-append a cells (cells_from size y.start y.count))
    ∙ go (among a (cells_of size xs)) (among a (cells_from size y.start y.count)) (among a cells) (λ h. apart a h) where
      go : (b f c : Bool) → (b ≡ true → f ≡ false) → ((b || f) && not (c || f)) ≡ (b && not c)
      go true true c h = absurd (not_both true refl (h refl))
      go true false true h = refl
      go true false false h = refl
      go false true true h = refl
      go false true false h = refl
      go false false c h = refl

-- an extent is added
module _ (p : Pool) (size : 0 < p.settings.size) (start count : ℕ) (has : HasCells p) (clear : meets start (count * p.settings.size) p ≡ false) where
  abbrev y : Extent
  y = record { start = start; count = count }

  abbrev fresh : List ℕ
  fresh = cells_from p.settings.size start count

  abbrev cells : List ℕ
  cells = cells_of p.settings.size p.extents

  apart : (a : ℕ) → among a cells ≡ true → among a fresh ≡ false
  apart a e = no_overlap p.settings.size start count size p.extents clear a e

  pub grown_cells : HasCells (extended start count p)
  grown_cells = record {
    once = Distinct-join p.cells fresh has.once (distinct_cells p.settings.size start count size) (λ a e. apart a (has.inside a e));
    inside = λ a e. ap (among a) (cells_more p.settings.size p.extents y) ∙ among-append a cells fresh ∙ inside a (sym (among-append a p.cells fresh) ∙ e) (among a p.cells) refl;
    apart = apart_more p.settings.size size p.extents y has.apart apart;
  } where
    inside : (a : ℕ) → (among a p.cells || among a fresh) ≡ true → (b : Bool) → among a p.cells ≡ b → (among a cells || among a fresh) ≡ true
    inside a e true f = or_left (among a cells) (among a fresh) (has.inside a f)
    inside a e false f = or_right (among a cells) (among a fresh) (one_of (among a p.cells) (among a fresh) e f)

  pub grown_notes : (used : Items) → AreNoted p used → AreNoted (extended start count p) used
  grown_notes used notes a l = notes a l ∙ sym (same_use p.settings.size p.extents y p.cells has.inside apart a)

-- the last extent goes
module _ (p : Pool) (size : 0 < p.settings.size) (start count : ℕ) (has : HasCells (extended start count p)) where
  abbrev last : Extent
  last = record { start = start; count = count }

  abbrev gone : List ℕ
  gone = cells_from p.settings.size start count

  abbrev left : List ℕ
  left = cells_of p.settings.size p.extents

  distinct_left : (xs : List ℕ) → Distinct (xs ++ gone) → Distinct xs
  distinct_left [] d = record {}
  distinct_left (x ∷ xs) d = (none_true (among x xs) (λ h. not_both (among x (xs ++ gone)) (among-append x xs gone ∙ or_left (among x xs) (among x gone) h) d.0), distinct_left xs d.1)

  inside : (a : ℕ) → among a p.cells ≡ true → (b : Bool) → among a left ≡ b → among a left ≡ true
  inside a e true f = f
  inside a e false f =
      absurd (not_both (among a gone)
      (one_of (among a left) (among a gone) (sym (among-append a left gone) ∙ sym (ap (among a) (cells_more p.settings.size p.extents last)) ∙ has.inside a (among-append a p.cells gone ∙ or_left (among a p.cells) (among a gone) e)) f)
      ((Distinct-parts p.cells gone has.once).1 a e))

  pub cut_cells : HasCells p
  cut_cells = record {
    once = distinct_left p.cells has.once;
    inside = λ a e. inside a e (among a left) refl;
    apart = apart_front p.settings.size size p.extents last has.apart;
  }

  pub cut_notes : (used : Items) → AreNoted (extended start count p) used → AreNoted p used
  cut_notes used notes a l = notes a l ∙ same_use p.settings.size p.extents last p.cells (λ b e. inside b e (among b left) refl) (apart_last p.settings.size size p.extents last has.apart) a
