use Rattle.std.proofs.Common.{◌≡◌, ◌≤◌, ◌∙◌, List, true, false, sym, arith, length, refl}
use Rattle.vsm_elements.proofs.ChainLemmas.{not_both}
use Rattle.list_table.specs.ListTable.{entries, entry_of}
use Rattle.cell_pool.specs.Pools.{Pool, is_named, meets}
use Rattle.cell_pool.specs.Kept.{pools_of}
use Rattle.cell_pool.specs.CellPools.{pool, IsCellPools}
use Rattle.cell_pool.specs.Items.{pool_of}
use Rattle.cell_pool.proofs.PoolLemmas.{none_more, none_all, before_is, found_other, one_named, name_refl, none_found}
use Rattle.cell_pool.proofs.RowLemmas.{stands, is_sound}
use Rattle.cell_pool.proofs.pools.CellPools.holds.Goals as goal

pub count-count-requires : goal.count-count-requires
count-count-requires c = stands c.args.elements.now c.args.self.now c.requires

pub row-row-requires-clause-table : goal.row-row-requires-clause-table
row-row-requires-clause-table c = stands c.args.elements.now c.args.self.now c.requires

pub row_meets-requires-clause-sound : goal.row_meets-requires-clause-sound
row_meets-requires-clause-sound c = is_sound c.args.elements.now c.args.self.now c.requires c.row-row.result _ _ c.row-row.ensures.parts c.row-row.ensures.open

pub returns-then-row_meets : goal.returns-then-row_meets
unfolding pool IsCellPools
returns-then-row_meets c =
    let p : Pool = pool_of (entry_of c.args.elements.now c.row-row.result) in
    let ps : List Pool = pools_of (entries c.args.elements.now c.args.self.now.table) in
    let hit : meets c.args.start c.args.len p ≡ true = sym c.row_meets.ensures ∙ c.if-row_meets.true in
    let found = before_is (meets c.args.start c.args.len) (entries c.args.elements.now c.args.self.now.table) c.loop-place.place.index (entry_of c.args.elements.now c.row-row.result) c.row-row.ensures.entry c.loop-place.invariant.earlier hit in
    ((λ t. (p.name, p, found_other (meets c.args.start c.args.len) (is_named p.name) ps p found (one_named p.name ps c.requires.single) (name_refl p.name), hit)), (λ m. refl))

pub loop-place-preserved : goal.loop-place-preserved
loop-place-preserved c =
    record {
      place = c.row-row.ensures.next;
      earlier = none_more (meets c.args.start c.args.len) (entries c.args.elements.now c.args.self.now.table) c.loop-place.place.index (entry_of c.args.elements.now c.row-row.result) c.row-row.ensures.entry c.loop-place.invariant.earlier (sym c.row_meets.ensures ∙ c.if-row_meets.false);
    }

pub returns : goal.returns
unfolding pool
returns c =
    let past : length (entries c.args.elements.now c.args.self.now.table) ≤ c.loop-place.place.index = omega (arith, c.count-count.ensures.count) in
    let none = none_all (meets c.args.start c.args.len) (entries c.args.elements.now c.args.self.now.table) c.loop-place.place.index past c.loop-place.invariant.earlier in
    ((λ t. absurd (not_both false t refl)), (λ m. absurd (not_both (meets c.args.start c.args.len m.1) m.3 (none_found (meets c.args.start c.args.len) (is_named m.0) (pools_of (entries c.args.elements.now c.args.self.now.table)) m.1 none m.2))))
