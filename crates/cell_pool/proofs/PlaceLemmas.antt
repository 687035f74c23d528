-- Steps of a walk over items.
use Rattle.std.proofs.Common.{◌≡◌, ℕ, zero, suc, ◌+◌, ◌-◌, ◌<◌, List, [], ◌∷◌, None, refl, length, take, drop, get_or, Some, sym, ap, ◌∙◌, arith, length-drop}
use Rattle.std.specs.Prelude.{slice_get, map, Option, IfNone}
use Rattle.std.proofs.lemmas.List.{take_all}
use Rattle.std.proofs.lemmas.Option.{slice_get_within, get_or_from_slice_get}
use Rattle.std.proofs.Math.Seq.{drop-cons}
use Rattle.row_table.specs.declared.row.Row.{Row}
use Rattle.list_table.specs.Entries.{Entry}
use Rattle.list_table.specs.Stocks.{rows_of}
use Rattle.cell_pool.specs.Items.{extent_of, cell_of, pool_of}

abbrev Items : Type 0
Items = List (List ℕ)

-- the item at a place, and those after it
pub items_step : (items : Items) (k end : ℕ) (words : List ℕ) → k < end → slice_get items k ≡ Some words → take (end - k) (drop k items) ≡ words ∷ take (end - (k + 1)) (drop (k + 1) items)
items_step items k end words h there =
    let n : end - k ≡ suc (end - (k + 1)) = omega arith in
    let m : suc k ≡ k + 1 = omega arith in
    ap (take (end - k)) (drop-cons items k words (slice_get_within items k words there))
    ∙ ap (λ (z : ℕ). take z (get_or items k words ∷ drop (suc k) items)) n
    ∙ ap (λ (z : List ℕ). z ∷ take (end - (k + 1)) (drop (suc k) items)) (get_or_from_slice_get items k words words there)
    ∙ ap (λ (z : ℕ). words ∷ take (end - (k + 1)) (drop z items)) m

-- the free cells of the pool in an entry are all items after its texts
pub items_cells : (e : Entry) (n : ℕ) → length e.items ≡ n → map cell_of (take (n - 5) (drop 5 e.items)) ≡ (pool_of e).cells
unfolding pool_of
items_cells e n long = ap (map cell_of) (take_all (n - 5) (drop 5 e.items) (omega (arith, length-drop 5 e.items)))

-- the row at a place, and those after it
pub rows_step : (rs : List Row) (k : ℕ) (r : Row) → slice_get rs k ≡ Some r → map extent_of (drop k (rows_of rs)) ≡ extent_of r.words ∷ map extent_of (drop (k + 1) (rows_of rs))
rows_step [] zero r h = absurd (no h) where
  no : None ≡ Some r → ⊥
  no e = cc
rows_step [] (suc k) r h = absurd (no h) where
  no : None ≡ Some r → ⊥
  no e = cc
rows_step (q ∷ rs) zero r h = ap (λ (z : Row). extent_of z.words ∷ map extent_of (rows_of rs)) (some_is h) where
  some_is : Some q ≡ Some r → q ≡ r
  some_is e = cc
rows_step (q ∷ rs) (suc k) r h = let e : suc k + 1 ≡ suc (k + 1) = omega arith in rows_step rs k r h ∙ ap (λ (z : ℕ). extent_of r.words ∷ map extent_of (drop z (rows_of (q ∷ rs)))) (sym e)

pub rows_end : (rs : List Row) (k : ℕ) → slice_get rs k ≡ None → map extent_of (drop k (rows_of rs)) ≡ []
rows_end [] zero h = refl
rows_end [] (suc k) h = refl
rows_end (q ∷ rs) zero h = absurd (no h) where
  no : Some q ≡ None → ⊥
  no e = cc
rows_end (q ∷ rs) (suc k) h = rows_end rs k h

pub where_none : {A : Type 0} → (o : Option A) (P : Type 0) → P → IfNone o P
where_none None P p = p
where_none (Some x) P p = tt
