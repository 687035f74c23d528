use Rattle.std.proofs.Common.{◌≡◌, ◌++◌, ◌∷◌, [], Option, sym, ap, ◌∙◌, subst}
use Rattle.std.specs.Prelude.{IfSome, unwrap_or}
use Rattle.vsm_elements.specs.Store.{Store}
use Rattle.cell_pool.specs.CellPools.{by_id}
use Rattle.cell_pool.specs.Pools.{Pool, uses}
use Rattle.storage_changes.specs.PoolTable.{cell_pool_of}
use Rattle.storage_map.specs.Cells.{cell_pool}
use Rattle.explain_who.proofs.CellPools.{each, fact_of}
use Rattle.explain_areas.specs.Cells.{cells_among}
use Rattle.explain_areas.proofs.CellWalks.{free_cell, lines_in, used_cell}
use Rattle.explain_areas.proofs.cells.add_cell.Goals as goal

pub returns-then-not-in_use : goal.returns-then-not-in_use
returns-then-not-in_use c =
    let s = c.args.storage.now in
    let p = c.args.pool.now in
    let cell = c.args.cell in
    let old = c.args.cells.now.items in
    let o = cell_pool s p.id in
    let is = ap (λ (t : Store). by_id t c.cell_pools.result p.id) c.elements.ensures ∙ c.cell_pools.ensures.pools p.id in
    let P : Option Pool → Type 0 = λ z. IfSome z (λ its. c.in_use.result ≡ uses its cell) in
    each o (λ its. old ≡ old ++ cells_among (lines_in s p) its.name (cell_pool_of its) (cell ∷ []))
    (λ its there. free_cell (lines_in s p) its cell old (sym c.if-not-in_use.true ∙ fact_of (λ its. c.in_use.result ≡ uses its cell) o its there (subst P is c.in_use.ensures)))

pub returns : goal.returns
returns c =
    let s = c.args.storage.now in
    let p = c.args.pool.now in
    let cell = c.args.cell in
    let old = c.args.cells.now.items in
    let new = c.push.new.self.items in
    let o = cell_pool s p.id in
    let is = ap (λ (t : Store). by_id t c.cell_pools.result p.id) c.elements.ensures ∙ c.cell_pools.ensures.pools p.id in
    let P : Option Pool → Type 0 = λ z. IfSome z (λ its. c.in_use.result ≡ uses its cell) in
    each o (λ its. new ≡ old ++ cells_among (lines_in s p) its.name (cell_pool_of its) (cell ∷ []))
    (λ its there.
    let known = fact_of (λ its. (p.name.now.bytes ≡ its.name) × (p.settings ≡ its.settings)) o its there c.requires.1 in
    used_cell (lines_in s p) its cell old c.pool_name.result p.settings c.unwrap_or.result new
    (sym c.if-not-in_use.false ∙ fact_of (λ its. c.in_use.result ≡ uses its cell) o its there (subst P is c.in_use.ensures))
    (c.pool_name.ensures ∙ known.0) known.1 (c.unwrap_or.ensures ∙ ap (λ n. unwrap_or n 0) c.number.ensures) c.in_ok-push.ensures.items)
