-- The cells of an extent.
use Rattle.std.proofs.Common.{◌≡◌, ℕ, zero, suc, ◌+◌, ◌-◌, ◌*◌, ◌/◌, ◌<◌, ◌≤◌, ◌==◌, ◌||◌, Bool, true, false, refl, ap, ◌∙◌, arith}
use Rattle.std.specs.Prelude.{map}
use Rattle.std.specs.List.{range_with_len}
use Rattle.std.proofs.lemmas.Nat.{div-mul-add}
use Rattle.vsm_elements.specs.Store.{among, Distinct}
use Rattle.vsm_elements.proofs.ChainLemmas.{not_both}
use Rattle.cell_pool.specs.Pool.{cells_from}
use Rattle.cell_pool.proofs.EntryLemmas.{eqb_same}

-- a cell of an extent

in_range : (size start from count address : ℕ) → among address (map (λ (k : ℕ). start + k * size) (range_with_len from count)) ≡ true → (j : ℕ) × (j < from + count) × (address ≡ start + j * size)
in_range size start from zero address h = absurd (not_both false h refl)
in_range size start from (suc count) address h = go (λ k. in_range size start (from + 1) count address k) (address == start + from * size) refl where
  behind : (a b : Bool) → a ≡ false → (a || b) ≡ true → b ≡ true
  behind true b x y = absurd (not_both true refl x)
  behind false b x y = y

  go : (among address (map (λ (k : ℕ). start + k * size) (range_with_len (from + 1) count)) ≡ true → (j : ℕ) × (j < (from + 1) + count) × (address ≡ start + j * size))
      → (b : Bool) → (address == start + from * size) ≡ b → (j : ℕ) × (j < from + suc count) × (address ≡ start + j * size)
  go rest true e = (from, omega arith, eqb_same address (start + from * size) e)
  go rest false e =
      let f : (j : ℕ) × (j < (from + 1) + count) × (address ≡ start + j * size) = rest (behind (address == start + from * size) (among address (map (λ (k : ℕ). start + k * size) (range_with_len (from + 1) count))) e h) in
      (f.0, omega (arith, f.1), f.2)

-- the cells of an extent are different
later_range : (size start from count address : ℕ) → among address (map (λ (k : ℕ). start + k * size) (range_with_len from count)) ≡ true → (j : ℕ) × (from ≤ j) × (address ≡ start + j * size)
later_range size start from zero address h = absurd (not_both false h refl)
later_range size start from (suc count) address h = go (λ k. later_range size start (from + 1) count address k) (address == start + from * size) refl where
  behind : (a b : Bool) → a ≡ false → (a || b) ≡ true → b ≡ true
  behind true b x y = absurd (not_both true refl x)
  behind false b x y = y

  go : (among address (map (λ (k : ℕ). start + k * size) (range_with_len (from + 1) count)) ≡ true → (j : ℕ) × (from + 1 ≤ j) × (address ≡ start + j * size))
      → (b : Bool) → (address == start + from * size) ≡ b → (j : ℕ) × (from ≤ j) × (address ≡ start + j * size)
  go rest true e = (from, omega arith, eqb_same address (start + from * size) e)
  go rest false e =
      let f : (j : ℕ) × (from + 1 ≤ j) × (address ≡ start + j * size) = rest (behind (address == start + from * size) (among address (map (λ (k : ℕ). start + k * size) (range_with_len (from + 1) count))) e h) in
      (f.0, omega (arith, f.1), f.2)

pub back_div : (size start address j : ℕ) → 0 < size → address ≡ start + j * size → (address - start) / size ≡ j
back_div size start address j s e = let k : address - start ≡ j * size + 0 = omega arith in ap (λ (z : ℕ). z / size) k ∙ div-mul-add j size 0 s

pub none_true : (b : Bool) → (b ≡ true → ⊥) → b ≡ false
none_true true h = absurd (h refl)
none_true false h = refl

distinct_range : (size start from count : ℕ) → 0 < size → Distinct (map (λ (k : ℕ). start + k * size) (range_with_len from count))
distinct_range size start from zero s = record {}
distinct_range size start from (suc count) s = (
  none_true (among (start + from * size) (map (λ (k : ℕ). start + k * size) (range_with_len (from + 1) count))) (λ h.
      let f : (j : ℕ) × (from + 1 ≤ j) × (start + from * size ≡ start + j * size) = later_range size start (from + 1) count (start + from * size) h in
      absurd (omega (arith, f.1, back_div size start (start + from * size) from s refl, back_div size start (start + from * size) f.0 s f.2))),
  distinct_range size start (from + 1) count s,
)

pub distinct_cells : (size start count : ℕ) → 0 < size → Distinct (cells_from size start count)
unfolding cells_from
distinct_cells size start count s = distinct_range size start 0 count s

-- what a cell of an extent is
pub cell_in : (size start count address : ℕ) → 0 < size → among address (cells_from size start count) ≡ true
    → (j : ℕ) × (j < count) × (address ≡ start + j * size) × ((address - start) / size ≡ j)
unfolding cells_from
cell_in size start count address s h =
    let f : (j : ℕ) × (j < 0 + count) × (address ≡ start + j * size) = in_range size start 0 count address h in
    (f.0, omega (arith, f.1), f.2, back_div size start address f.0 s f.2)
