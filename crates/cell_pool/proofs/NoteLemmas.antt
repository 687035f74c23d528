-- Cells that are noted, by the rows of the table in which they are.
use Rattle.std.proofs.Common.{◌≡◌, ℕ, ◌/◌, ◌%◌, ◌==◌, ◌&&◌, ◌||◌, Bool, true, false, List, [], ◌∷◌, Option, Some, None, IsSome, inl, inr, refl, sym, ap, ◌∙◌, arith}
use Rattle.std.specs.Prelude.{if◌then◌else◌, is_some, not}
use Rattle.std.proofs.lemmas.Bool.Decides.{eqb_tells}
use Rattle.vsm_elements.specs.Store.{Store}
use Rattle.row_table.specs.declared.row.Row.{Row}
use Rattle.row_table.specs.declared.table.RowTable.{RowTable}
use Rattle.row_table.specs.Rows.{same_key, row_among}
use Rattle.row_table.specs.RowTable.{row, rows, IsTable}
use Rattle.row_table.proofs.TableLemmas.{rows_ascend}
use Rattle.list_table.specs.Stocks.{rows_of}
use Rattle.cell_pool.specs.Notes.{is_at, is_noted}

among_rows : (a : ℕ) (rs : List Row) → is_noted a (rows_of rs) ≡ is_some (row_among (a % 256) (a / 256) rs)
among_rows a [] = refl
among_rows a (r ∷ rs) = go (is_at a r.words) (row_among (a % 256) (a / 256) rs) (among_rows a rs) where
  go : (b : Bool) (o : Option Row) → is_noted a (rows_of rs) ≡ is_some o → (b || is_noted a (rows_of rs)) ≡ is_some (if b then Some r else o)
  go true o e = refl
  go false o e = e

-- a cell is noted exactly if a row is under its address
pub noted_row : (s : Store) (q : RowTable) → IsTable s q → (a : ℕ) → is_noted a (rows_of (rows s q)) ≡ is_some (row s q (a % 256) (a / 256))
noted_row s q h a = among_rows a (rows s q) ∙ sym (ap is_some ((rows_ascend s q h).1 (a % 256) (a / 256)))

pub same_at : (a b : ℕ) → ((a % 256 == b % 256) && (a / 256 == b / 256)) ≡ (b == a)
same_at a b = elim (eqb_tells b a) [
  | inl p ↦ ap (λ (z : ℕ). (a % 256 == z % 256) && (a / 256 == z / 256)) p.1 ∙ both (a % 256 == a % 256) (a / 256 == a / 256) (same (a % 256)) (same (a / 256)) ∙ sym p.0
  | inr p ↦ elim (eqb_tells (a % 256) (b % 256)) [
    | inl q ↦ elim (eqb_tells (a / 256) (b / 256)) [
      | inl r ↦ absurd (p.1 (omega (arith, q.1, r.1)))
      | inr r ↦ ap (λ (z : Bool). (a % 256 == b % 256) && z) r.0 ∙ none (a % 256 == b % 256) ∙ sym p.0
    ]
    | inr q ↦ ap (λ (z : Bool). z && (a / 256 == b / 256)) q.0 ∙ sym p.0
  ]
] where
  same : (n : ℕ) → (n == n) ≡ true
  same n = elim (eqb_tells n n) [ inl p ↦ p.0 | inr p ↦ absurd (p.1 refl) ]

  both : (c d : Bool) → c ≡ true → d ≡ true → (c && d) ≡ true
  both c d e f = ap (λ (z : Bool). z && d) e ∙ f

  none : (c : Bool) → (c && false) ≡ false
  none true = refl
  none false = refl

pub some_or : (b : Bool) (x : Row) (o : Option Row) → is_some (if b then Some x else o) ≡ (b || is_some o)
some_or true x o = refl
some_or false x o = refl

pub none_or : (b : Bool) (o : Option Row) → is_some (if b then None else o) ≡ (not b && is_some o)
none_or true o = refl
none_or false o = refl

-- if a row is added under an address
pub noted_more : (s t : Store) (q r : RowTable) → IsTable s q → IsTable t r → (address : ℕ) (x : Row)
    → ((a b : ℕ) → row t r a b ≡ (if same_key (address % 256) (address / 256) a b then Some x else row s q a b))
    → (a : ℕ) → is_noted a (rows_of (rows t r)) ≡ ((a == address) || is_noted a (rows_of (rows s q)))
noted_more s t q r h k address x now a =
    noted_row t r k a ∙ ap is_some (now (a % 256) (a / 256))
    ∙ some_or (same_key (address % 256) (address / 256) (a % 256) (a / 256)) x (row s q (a % 256) (a / 256))
    ∙ ap (λ (z : Bool). z || is_some (row s q (a % 256) (a / 256))) (same_at address a)
    ∙ ap (λ (z : Bool). (a == address) || z) (sym (noted_row s q h a))

-- if the row under an address goes
pub noted_less : (s t : Store) (q r : RowTable) → IsTable s q → IsTable t r → (address : ℕ)
    → ((a b : ℕ) → row t r a b ≡ (if same_key (address % 256) (address / 256) a b then None else row s q a b))
    → (a : ℕ) → is_noted a (rows_of (rows t r)) ≡ (not (a == address) && is_noted a (rows_of (rows s q)))
noted_less s t q r h k address now a =
    noted_row t r k a ∙ ap is_some (now (a % 256) (a / 256))
    ∙ none_or (same_key (address % 256) (address / 256) (a % 256) (a / 256)) (row s q (a % 256) (a / 256))
    ∙ ap (λ (z : Bool). not z && is_some (row s q (a % 256) (a / 256))) (same_at address a)
    ∙ ap (λ (z : Bool). not (a == address) && z) (sym (noted_row s q h a))

-- an address without a note has no row, and one with a note has one
pub no_row : (s : Store) (q : RowTable) → IsTable s q → (a : ℕ) → is_noted a (rows_of (rows s q)) ≡ false → row s q (a % 256) (a / 256) ≡ None
no_row s q h a e = go (row s q (a % 256) (a / 256)) (sym (noted_row s q h a) ∙ e) where
  go : (o : Option Row) → is_some o ≡ false → o ≡ None
  go None f = refl
  go (Some x) f = absurd (no f) where
    no : true ≡ false → ⊥
    no f = cc

pub a_row : (s : Store) (q : RowTable) → IsTable s q → (a : ℕ) → is_noted a (rows_of (rows s q)) ≡ true → IsSome (row s q (a % 256) (a / 256))
a_row s q h a e = sym (noted_row s q h a) ∙ e
