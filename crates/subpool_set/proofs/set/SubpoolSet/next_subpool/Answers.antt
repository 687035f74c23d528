use Rattle.std.proofs.Common.{◌∷◌, ◌<◌, ℕ, drop, length, sym, ap, ◌∙◌, arith}
use Rattle.std.proofs.lemmas.Option.{slice_get_within}
use Rattle.row_table.specs.Rows.{word}
use Rattle.row_table.specs.RowTable.{rows, place_index}
use Rattle.subpool_set.specs.Walks.{pool_ids}
use Rattle.subpool_set.specs.SubpoolSet.{pool, number_of, owner_of, pools_left, IsSubpoolSet}
use Rattle.subpool_set.proofs.PoolLemmas.{seen_pool}
use Rattle.subpool_set.proofs.WalkLemmas.{there_at, pool_here, pool_passed, no_pools}
use Rattle.subpool_set.proofs.set.SubpoolSet.next_subpool.Goals as goal

pub returns-then-row-clause-next : goal.returns-then-row-clause-next
unfolding pools_left
returns-then-row-clause-next c =
    c.loop-row.invariant.left ∙ pool_here (rows c.args.elements.now c.args.self.now.rows) (place_index c.loop-row.at) c.in-Some.row (sym c.in-Some.ensures.row) c.if-row.true
    ∙ ap (λ (z : ℕ). c.in-Some.row.id ∷ pool_ids (drop z (rows c.args.elements.now c.args.self.now.rows))) (sym c.in-Some.ensures.next.1)

pub returns-then-row-clause-pool : goal.returns-then-row-clause-pool
unfolding pool number_of owner_of IsSubpoolSet
returns-then-row-clause-pool c = (seen_pool c.args.elements.now c.args.self.now.rows (word c.in-Some.row.words 1) (word c.in-Some.row.words 0) c.in-Some.row c.requires.set (there_at c.args.elements.now c.args.self.now.rows c.requires.set (place_index c.loop-row.at) c.in-Some.row (sym c.in-Some.ensures.row)) c.if-row.true).pool

pub loop-row-smaller : goal.loop-row-smaller
loop-row-smaller c =
    let within : place_index c.loop-row.at < length (rows c.args.elements.now c.args.self.now.rows) = slice_get_within (rows c.args.elements.now c.args.self.now.rows) (place_index c.loop-row.at) c.in-Some.row (sym c.in-Some.ensures.row) in
    omega (arith, within, c.in-Some.ensures.next.1)

pub loop-row-preserved : goal.loop-row-preserved
loop-row-preserved c = record {
  place = c.in-Some.ensures.next.0;
  left = c.loop-row.invariant.left ∙ pool_passed (rows c.args.elements.now c.args.self.now.rows) (place_index c.loop-row.at) c.in-Some.row (sym c.in-Some.ensures.row) c.if-row.false ∙ ap (λ (z : ℕ). pool_ids (drop z (rows c.args.elements.now c.args.self.now.rows))) (sym c.in-Some.ensures.next.1);
}

pub returns-clause-none : goal.returns-clause-none
unfolding pools_left
returns-clause-none c = c.loop-row.invariant.left ∙ no_pools (rows c.args.elements.now c.args.self.now.rows) (place_index c.loop-row.at) (sym c.in_default.ensures.row)
