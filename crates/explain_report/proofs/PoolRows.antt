-- The lines of cell pools that are put one after the other, and what remains of them after each.
use Rattle.std.proofs.Common.{◌≡◌, ℕ, ◌<◌, true, false, List, [], ◌∷◌, ◌++◌, Option, Some, None, IsSome, Bor, length, flat_map, refl, sym, ap, ◌∙◌, subst, append_assoc}
use Rattle.std.specs.Prelude.{IfSome, codes, option_map, option_copied}
use Rattle.std.proofs.lemmas.List.{append-nil}
use Rattle.arrayvec.specs.ArrayString.{ArrayString}
use Rattle.cell_pool.specs.declared.settings.CellSettings.{CellSettings}
use Rattle.cell_pool.specs.Pools.{Pool}
use Rattle.explain_text.specs.Rows.{row_of}
use Rattle.explain_text.specs.declared.json.Form.{Form}
use Rattle.storage_changes.specs.TableOrder.{rows_behind}
use Rattle.storage_changes.specs.PoolTable.{cell_pool_of}
use Rattle.text_output.specs.Writing.{Puts}
use Rattle.text_output.specs.declared.writing.Gathered.{Gathered}
use Rattle.text_output.proofs.Gathering.{puts_both, puts_none}
use Rattle.vsm_model.specs.CellPools.{CellPool, CellPools}
use Rattle.explain_report.specs.PoolFigures.{figures_of}
use Rattle.explain_report.specs.PoolRows.{pool_fields, pool_in}
use Rattle.explain_report.specs.declared.pool_figures.PoolFigures.{PoolFigures}
use Rattle.explain_report.proofs.ExtentSums.{shorter}

-- a row of the table, as it's written
abbrev pub row_in : Form → List ℕ × CellPool → List ℕ
row_in form row = pool_in form row.0 row.1

-- a prefix of the whole text was put, and the rest remains
abbrev pub Remains : (old now : Option (List ℕ)) (before after : Gathered) (whole rest : List ℕ) → Type 0
Remains old now before after whole rest = (front : List ℕ) × (whole ≡ front ++ rest) × Puts old now before after front

-- at first all of it remains
pub remains_all : (now : Option (List ℕ)) (g : Gathered) (whole rest : List ℕ) → whole ≡ rest → Remains now now g g whole rest
remains_all now g whole rest e = ([], e, puts_none now g)

-- what is put no longer remains
pub remains_less : (old now new : Option (List ℕ)) (a b c : Gathered) (whole rest more behind : List ℕ) → Remains old now a b whole rest → rest ≡ more ++ behind →
    Puts now new b c more → Remains old new a c whole behind
remains_less old now new a b c whole rest more behind (front, e, h) is k = (
  front ++ more,
  e ∙ ap (λ (x : List ℕ). front ++ x) is ∙ sym (append_assoc front more behind),
  puts_both old now new a b c front more h k,
)

-- and if nothing remains all of it was put
pub all_put : (old now : Option (List ℕ)) (a b : Gathered) (whole rest : List ℕ) → Remains old now a b whole rest → rest ≡ [] → Puts old now a b whole
all_put old now a b whole rest (front, e, h) none = subst (Puts old now a b) (sym (e ∙ ap (λ (x : List ℕ). front ++ x) none ∙ append-nil front)) h

-- if no name is given, all rows follow
pub all_rows : (table : CellPools) → table ≡ rows_behind table None
all_rows [] = refl
all_rows (row ∷ table) = ap (λ (z : CellPools). row ∷ z) (all_rows table)

-- the name after which the walk is
pub low_is : (o : Option (Bor ArrayString)) (p : Option ArrayString) → option_copied o ≡ p
    → option_map (λ (n : Bor ArrayString). n.now.bytes) o ≡ option_map (λ (n : ArrayString). n.bytes) p
low_is None p e = ap (option_map (λ (n : ArrayString). n.bytes)) e
low_is (Some r) p e = ap (option_map (λ (n : ArrayString). n.bytes)) e

-- The first of the rows after a name is that of the next cell pool, and those after it are those after its name.
module _ (table : CellPools) (low : Option (List ℕ)) (name : List ℕ) where
  abbrev IsNextRow : Pool → Type 0
  IsNextRow p = rows_behind table low ≡ (p.name, cell_pool_of p) ∷ rows_behind table (Some p.name)

  pub fewer_rows : (o : Option Pool) → IsSome o → IfSome o IsNextRow → IfSome o (λ p. name ≡ p.name)
      → length (rows_behind table (Some name)) < length (rows_behind table low)
  fewer_rows None there next named = absurd (let no : false ≡ true = there in cc)
  fewer_rows (Some p) there next named =
      shorter (rows_behind table low) (rows_behind table (Some name)) (p.name, cell_pool_of p)
      (next ∙ ap (λ (n : List ℕ). (p.name, cell_pool_of p) ∷ rows_behind table (Some n)) (sym named))

  pub rows_remain : (form : Form) (old now new : Option (List ℕ)) (a b c : Gathered) (whole : List ℕ) (o : Option Pool) → IsSome o
      → Remains old now a b whole (flat_map (row_in form) (rows_behind table low)) → IfSome o IsNextRow → IfSome o (λ p. name ≡ p.name)
      → IfSome o (λ p. Puts now new b c (pool_in form p.name (cell_pool_of p)))
      → Remains old new a c whole (flat_map (row_in form) (rows_behind table (Some name)))
  rows_remain form old now new a b c whole None there remains next named put = absurd (let no : false ≡ true = there in cc)
  rows_remain form old now new a b c whole (Some p) there remains next named put =
      remains_less old now new a b c whole (flat_map (row_in form) (rows_behind table low)) (pool_in form p.name (cell_pool_of p)) (flat_map (row_in form) (rows_behind table (Some name)))
      remains (ap (flat_map (row_in form)) (next ∙ ap (λ (n : List ℕ). (p.name, cell_pool_of p) ∷ rows_behind table (Some n)) (sym named))) put

-- a row of a name, of what the cell pool was built with, and of its figures
pub pool_put : (form : Form) (v w : Option (List ℕ)) (a b : Gathered) (o : Option Pool) (text name : List ℕ) (settings : CellSettings) (f : PoolFigures)
    → text ≡ name → IfSome o (λ p. name ≡ p.name) → IfSome o (λ p. settings ≡ p.settings) → IfSome o (λ p. f ≡ figures_of (cell_pool_of p))
    → Puts v w a b (row_of form (codes "pool") (pool_fields text settings.subpool settings.size f)) → IfSome o (λ p. Puts v w a b (pool_in form p.name (cell_pool_of p)))
pool_put form v w a b None text name settings f same named built is put = named
pool_put form v w a b (Some p) text name settings f same named built is put =
    subst (Puts v w a b) (λ i. row_of form (codes "pool") (pool_fields ((same ∙ named) i) (built i).subpool (built i).size (is i))) put
