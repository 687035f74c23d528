-- The sums of cell pools, and what remains of them after each.
use Rattle.std.proofs.Common.{◌≡◌, ℕ, ◌+◌, ◌≤◌, true, false, List, [], ◌∷◌, Option, Some, None, IsSome, sym, ap, ◌∙◌, subst, arith}
use Rattle.std.specs.Prelude.{IfSome}
use Rattle.cell_pool.specs.Pools.{Pool}
use Rattle.storage_changes.specs.TableOrder.{rows_behind}
use Rattle.storage_changes.specs.PoolTable.{cell_pool_of}
use Rattle.vsm_model.specs.CellPools.{CellPool, CellPools}
use Rattle.explain_report.specs.PoolFigures.{added, figures_of, shown, sums_of, total_of}
use Rattle.explain_report.specs.declared.pool_figures.PoolFigures.{PoolFigures}

abbrev pub IsSmall : PoolFigures → Type 0
IsSmall f =
    (f.extents ≤ 18446744073709551615) × (f.bytes ≤ 18446744073709551615) × (f.cells ≤ 18446744073709551615) × (f.free ≤ 18446744073709551615)

pub small_added : (f g : PoolFigures) → IsSmall (added f g)
small_added f g = (omega arith, omega arith, omega arith, omega arith)

-- one of the sums so far, and that of the cell pools that remain, is that of all
abbrev Remains : (PoolFigures → ℕ) → PoolFigures → CellPools → CellPools → Type 0
Remains part f rest all = shown (part f + total_of part rest) ≡ shown (total_of part all)

pub record SumsRemain (f : PoolFigures) (rest all : CellPools) : Type 0 where
  pub extents : Remains (λ f. f.extents) f rest all
  pub bytes : Remains (λ f. f.bytes) f rest all
  pub cells : Remains (λ f. f.cells) f rest all
  pub free : Remains (λ f. f.free) f rest all

pub at_first : (table rest : CellPools) → table ≡ rest → SumsRemain (record { extents = 0; bytes = 0; cells = 0; free = 0 }) rest table
at_first table rest is = record {
  extents = none (λ f. f.extents);
  bytes = none (λ f. f.bytes);
  cells = none (λ f. f.cells);
  free = none (λ f. f.free);
} where
  none : (part : PoolFigures → ℕ) → shown (0 + total_of part rest) ≡ shown (total_of part table)
  none part = let zero : 0 + total_of part rest ≡ total_of part rest = omega arith in ap shown zero ∙ ap (λ xs. shown (total_of part xs)) (sym is)

step : (sum more rest : ℕ) → shown (shown (sum + more) + rest) ≡ shown (sum + (more + rest))
step sum more rest = omega arith

one_added : (f : PoolFigures) (pool : CellPool) (name : List ℕ) (left rest all : CellPools) → left ≡ (name, pool) ∷ rest → SumsRemain f left all → SumsRemain (added f (figures_of pool)) rest all
one_added f pool name left rest all is h =
    let k : SumsRemain f ((name, pool) ∷ rest) all = subst (λ xs. SumsRemain f xs all) is h in
    let g = figures_of pool in
    record {
      extents = step f.extents g.extents (total_of (λ f. f.extents) rest) ∙ k.extents;
      bytes = step f.bytes g.bytes (total_of (λ f. f.bytes) rest) ∙ k.bytes;
      cells = step f.cells g.cells (total_of (λ f. f.cells) rest) ∙ k.cells;
      free = step f.free g.free (total_of (λ f. f.free) rest) ∙ k.free;
    }

pub sums_remain : (table : CellPools) (low : Option (List ℕ)) (name : List ℕ) (f g h : PoolFigures) (o : Option Pool) → IsSome o → SumsRemain f (rows_behind table low) table
    → IfSome o (λ p. rows_behind table low ≡ (p.name, cell_pool_of p) ∷ rows_behind table (Some p.name)) → IfSome o (λ p. name ≡ p.name)
    → IfSome o (λ p. g ≡ figures_of (cell_pool_of p)) → h ≡ added f g → SumsRemain h (rows_behind table (Some name)) table
sums_remain table low name f g h None there left next named is sum = absurd (let no : false ≡ true = there in cc)
sums_remain table low name f g h (Some p) there left next named is sum =
    subst (λ k. SumsRemain k (rows_behind table (Some name)) table) (sym (sum ∙ ap (added f) is))
    (subst (λ n. SumsRemain (added f (figures_of (cell_pool_of p))) (rows_behind table (Some n)) table) (sym named)
    (one_added f (cell_pool_of p) p.name (rows_behind table low) (rows_behind table (Some p.name)) table next left))

pub all_added : (f : PoolFigures) (left all : CellPools) → left ≡ [] → SumsRemain f left all → IsSmall f → f ≡ sums_of all
all_added f left all is h small =
    let k : SumsRemain f [] all = subst (λ xs. SumsRemain f xs all) is h in
    let one : f.extents ≡ shown (f.extents + 0) = omega (arith, small.0) in
    let two : f.bytes ≡ shown (f.bytes + 0) = omega (arith, small.1) in
    let three : f.cells ≡ shown (f.cells + 0) = omega (arith, small.2) in
    let four : f.free ≡ shown (f.free + 0) = omega (arith, small.3) in
    λ i. record { extents = (one ∙ k.extents) i; bytes = (two ∙ k.bytes) i; cells = (three ∙ k.cells) i; free = (four ∙ k.free) i }
