use Rattle.std.proofs.Common.{◌≡◌, ◌∙◌, Option, sym, subst, arith}
use Rattle.std.specs.Prelude.{IfSome}
use Rattle.cell_pool.specs.Pools.{Pool, uses}
use Rattle.cell_pool.proofs.pools.CellPools.in_use.Goals as goal

pub returns : goal.returns
returns c =
    let P : Option Pool → Type 0 = λ z. IfSome z (λ (p : Pool). c.is_noted.result ≡ uses p c.args.address) in
    subst P (sym c.row-row.ensures.pool) (c.is_noted.ensures ∙ c.row-row.ensures.sound.noted c.args.address (omega arith))
