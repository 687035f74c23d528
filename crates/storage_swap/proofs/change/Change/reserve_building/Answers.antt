use Rattle.std.proofs.Common.{ap, sym, ◌∙◌}
use Rattle.subpool_storage.specs.Subpools.{Subpools}
use Rattle.storage_changes.specs.Changes.{change_of, change_building}
use Rattle.storage_swap.specs.Building.{pool_as}
use Rattle.storage_swap.proofs.GrowthLemmas.{pages-still}
use Rattle.storage_swap.proofs.ReserveLemmas.{grown-stands, grown-once, grown-frameless, grown-unassigned, grown-subpools, grown-reserves}
use Rattle.storage_swap.proofs.change.Change.reserve_building.Goals as goal

pub make_building-requires-clause-stands : goal.make_building-requires-clause-stands
make_building-requires-clause-stands c = grown-stands c.args.storage.now c.grow.new.storage c.requires.stands c.requires.once c.grow.ensures.grown

pub make_building-requires-clause-once : goal.make_building-requires-clause-once
make_building-requires-clause-once c = grown-once c.args.storage.now c.grow.new.storage c.requires.stands c.requires.once c.grow.ensures.grown

pub make_building-requires-clause-frameless : goal.make_building-requires-clause-frameless
make_building-requires-clause-frameless c = grown-frameless c.args.storage.now c.grow.new.storage c.requires.stands c.requires.once c.grow.ensures.grown c.requires.frameless

pub make_building-requires-clause-unassigned : goal.make_building-requires-clause-unassigned
make_building-requires-clause-unassigned c = grown-unassigned c.args.storage.now c.grow.new.storage c.requires.stands c.requires.once c.grow.ensures.grown c.args.fresh c.requires.unassigned

pub returns-clause-ok : goal.returns-clause-ok
returns-clause-ok c = grown-reserves c.args.storage.now c.grow.new.storage c.requires.stands c.requires.once c.grow.ensures.grown
    (change_building (pool_as c.args.pool.now c.make_building.result.1) (change_of c.args.records.now c.args.blanks c.args.fresh)) c.make_building.result.0 c.make_building.new.storage c.make_building.ensures.reserves

pub returns-clause-absent : goal.returns-clause-absent
returns-clause-absent c =
    ap (λ (m : Subpools). m.cells c.make_building.result.1) (sym (grown-subpools c.args.storage.now c.grow.new.storage c.requires.stands c.requires.once c.grow.ensures.grown)) ∙ c.make_building.ensures.absent

pub returns-clause-made_for_pages : goal.returns-clause-made_for_pages
returns-clause-made_for_pages c =
    pages-still c.args.storage.now.region c.grow.new.storage.region c.make_building.new.storage.region c.args.fresh c.grow.ensures.made_for_pages c.make_building.ensures.as_many_frames c.make_building.ensures.tables.tables
