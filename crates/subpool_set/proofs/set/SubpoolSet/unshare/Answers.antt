use Rattle.std.proofs.Common.{ℕ, Some, None, refl, sym, ap, ◌∙◌}
use Rattle.subpool_set.specs.SubpoolSet.{sight, pool, owned, number_of, owner_of, IsSubpoolSet}
use Rattle.row_table.specs.RowTable
use Rattle.row_table.specs.RowTable.{row}
use Rattle.subpool_set.specs.Kept.{sight_in, pools_in}
use Rattle.subpool_set.proofs.KeptLemmas.{pools_same, pool_none}
use Rattle.subpool_set.proofs.ApartLemmas.{stay_apart}
use Rattle.subpool_set.proofs.set.SubpoolSet.unshare.Goals as goal

pub returns-clause-queues : goal.returns-clause-queues
unfolding sight pool owned number_of owner_of IsSubpoolSet
returns-clause-queues c was = stay_apart c.args.elements.now c.remove.new.elements (RowTable.owned c.args.elements.now c.args.self.now.rows) (RowTable.owned c.remove.new.elements c.remove.new.self) c.remove.ensures.owned (pools_in (row c.args.elements.now c.args.self.now.rows)) (pools_in (row c.remove.new.elements c.remove.new.self))
    (pools_same (row c.args.elements.now c.args.self.now.rows) (row c.remove.new.elements c.remove.new.self) c.from.result c.from-2.result None c.remove.ensures.rows refl
    (pool_none c.from.result (row c.args.elements.now c.args.self.now.rows c.from.result c.from-2.result) (λ e. c.requires.other (ap (λ (z : ℕ). sight_in (row c.args.elements.now c.args.self.now.rows) z c.args.number) (sym c.from.ensures) ∙ ap (sight_in (row c.args.elements.now c.args.self.now.rows) c.from.result) (sym c.from-2.ensures) ∙ e ∙ ap Some c.from.ensures)))) was
