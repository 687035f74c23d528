use Rattle.std.proofs.Common.{◌≡◌, Option, sym, ap, ◌∙◌, subst}
use Rattle.std.specs.Prelude.{IfSome}
use Rattle.vsm_elements.specs.Store.{Store}
use Rattle.cell_pool.specs.CellPools.{by_id}
use Rattle.cell_pool.specs.Pools.{Pool, uses}
use Rattle.storage_changes.specs.PoolTable.{cell_pool_of}
use Rattle.storage_map.specs.Cells.{cell_pool}
use Rattle.explain_who.specs.Taken.{taken_cell}
use Rattle.explain_who.specs.declared.takers.Taken.TheVariants as taken
use Rattle.explain_who.proofs.CellPools.{cell_free, cell_used, each, fact_of, past_cells}
use Rattle.explain_who.proofs.cells.taken_cell.Goals as goal

pub returns-in-None : goal.returns-in-None
returns-in-None c =
    let o = cell_pool c.args.storage.now c.args.id in
    let name = c.name_of-name.result in
    each o (λ p. taken.PastCells name ≡ taken_cell p.name (cell_pool_of p) c.args.cell)
    (λ p there. past_cells p 0 name (fact_of (λ p. name.items ≡ p.name) o p there c.name_of-name.ensures) ∙ ap (taken_cell p.name (cell_pool_of p)) (sym c.in-None.is))

pub returns-then-in_use : goal.returns-then-in_use
returns-then-in_use c =
    let o = cell_pool c.args.storage.now c.args.id in
    let name = c.name_of-name.result in
    let cell = c.in-Some.cell in
    let is = ap (λ (t : Store). by_id t c.cell_pools.result c.args.id) c.elements.ensures ∙ c.cell_pools.ensures.pools c.args.id in
    let P : Option Pool → Type 0 = λ z. IfSome z (λ p. c.in_use.result ≡ uses p cell) in
    each o (λ p. taken.UsedCell name ≡ taken_cell p.name (cell_pool_of p) c.args.cell)
    (λ p there. cell_used p cell name (fact_of (λ p. name.items ≡ p.name) o p there c.name_of-name.ensures)
    (sym c.if-in_use.true ∙ fact_of (λ p. c.in_use.result ≡ uses p cell) o p there (subst P is c.in_use.ensures))
    ∙ ap (taken_cell p.name (cell_pool_of p)) (sym c.in-Some.is))

pub returns-else-in_use : goal.returns-else-in_use
returns-else-in_use c =
    let o = cell_pool c.args.storage.now c.args.id in
    let name = c.name_of-name.result in
    let cell = c.in-Some.cell in
    let is = ap (λ (t : Store). by_id t c.cell_pools.result c.args.id) c.elements.ensures ∙ c.cell_pools.ensures.pools c.args.id in
    let P : Option Pool → Type 0 = λ z. IfSome z (λ p. c.in_use.result ≡ uses p cell) in
    each o (λ p. taken.FreeCell name ≡ taken_cell p.name (cell_pool_of p) c.args.cell)
    (λ p there. cell_free p cell name (fact_of (λ p. name.items ≡ p.name) o p there c.name_of-name.ensures)
    (sym c.if-in_use.false ∙ fact_of (λ p. c.in_use.result ≡ uses p cell) o p there (subst P is c.in_use.ensures))
    ∙ ap (taken_cell p.name (cell_pool_of p)) (sym c.in-Some.is))
