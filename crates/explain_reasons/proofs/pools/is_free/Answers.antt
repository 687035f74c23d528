use Rattle.std.proofs.Common.{◌≡◌, Option, sym, ap, ◌∙◌}
use Rattle.std.specs.Option.{option_map}
use Rattle.cell_pool.specs.Pools.{Pool}
use Rattle.storage_changes.specs.PoolTable.{cell_pool_of}
use Rattle.storage_map.specs.Cells.{cell_pool}
use Rattle.vsm_model.specs.CellPools.{CellPool}
use Rattle.vsm_model.specs.Search.{holds, is_in}
use Rattle.explain_reasons.proofs.Rows.{fact_of, some_pool}
use Rattle.explain_reasons.proofs.pools.is_free.Goals as goal

pub returns-in-Some : goal.returns-in-Some
returns-in-Some c =
    let o = cell_pool c.args.storage.now c.in-Some.id in
    let (p, there) = some_pool o c.in-Some.ensures.there in
    let F = λ (z : Option CellPool). holds (λ pool. is_in pool.free c.args.cell) z in
    fact_of (λ p. c.is_free_cell.result ≡ is_in p.cells c.args.cell) o p there c.is_free_cell.ensures
    ∙ ap (λ (z : Option Pool). F (option_map cell_pool_of z)) (sym there) ∙ ap F (sym c.in-Some.ensures.found)

pub returns-in-None : goal.returns-in-None
returns-in-None c = ap (λ (z : Option CellPool). holds (λ pool. is_in pool.free c.args.cell) z) (sym c.in-None.ensures.found)
