use Rattle.std.proofs.Common.{◌≡◌, ◌∷◌, ◌++◌, ◌∙◌, ℕ, List, Option, sym, subst, arith, length, refl, Some, ◌<◌}
use Rattle.std.specs.Prelude.{IfSome, slice_get}
use Rattle.vsm_elements.specs.Ownership.{Leaves}
use Rattle.vsm_elements.proofs.ChainFrame.{Leaves-trans}
use Rattle.list_table.specs.Entries.{Entry}
use Rattle.list_table.specs.ListTable.{entries}
use Rattle.list_table.specs.ListTable
use Rattle.cell_pool.specs.CellPools.{owned, IsCellPools}
use Rattle.cell_pool.proofs.ParkLemmas.{entry_at, first_fewer, first_went, none_left, leaves_same, back_kept, back_names, back_ids}
use Rattle.cell_pool.proofs.pools.CellPools.restore_pools.Goals as goal

pub loop-rest-init : goal.loop-rest-init
unfolding IsCellPools owned
loop-rest-init c = record {
  rest = c.requires.parked.table;
  table = c.requires.pools.table;
  went = refl;
  apart = c.requires.apart;
  owned = leaves_same c.args.elements.now (ListTable.owned c.args.elements.now c.args.parked.pools.table ++ ListTable.owned c.args.elements.now c.args.self.now.table);
  spares = refl;
}

pub loop-rest-smaller : goal.loop-rest-smaller
loop-rest-smaller c =
    let l : 0 < length (entries c.loop-rest.elements c.loop-rest.rest) = omega (arith, c.count.ensures.count) in
    let f : (e : Entry) × (slice_get (entries c.loop-rest.elements c.loop-rest.rest) 0 ≡ Some e) = entry_at (entries c.loop-rest.elements c.loop-rest.rest) 0 l in
    omega (arith, first_fewer c.loop-rest.elements c.move_row.new.elements c.loop-rest.rest c.move_row.new.self f.0 f.1 c.move_row.ensures.left)

pub loop-rest-preserved : goal.loop-rest-preserved
loop-rest-preserved c =
    let l : 0 < length (entries c.loop-rest.elements c.loop-rest.rest) = omega (arith, c.count.ensures.count) in
    let f : (e : Entry) × (slice_get (entries c.loop-rest.elements c.loop-rest.rest) 0 ≡ Some e) = entry_at (entries c.loop-rest.elements c.loop-rest.rest) 0 l in
    let Q : Option Entry → Type 0 = λ z. IfSome z (λ (e : Entry). entries c.move_row.new.elements c.move_row.new.to ≡ e ∷ entries c.loop-rest.elements c.loop-rest.table) in
    record {
      rest = c.move_row.ensures.table;
      table = c.move_row.ensures.to;
      went = c.loop-rest.invariant.went ∙ first_went c.loop-rest.elements c.move_row.new.elements c.loop-rest.rest c.move_row.new.self f.0 f.1 c.move_row.ensures.left (entries c.loop-rest.elements c.loop-rest.table) (entries c.move_row.new.elements c.move_row.new.to) (subst Q f.1 c.move_row.ensures.moved);
      apart = c.move_row.ensures.apart;
      owned = Leaves-trans _ _ _ _ _ _ c.loop-rest.invariant.owned c.move_row.ensures.owned;
      spares = c.move_row.ensures.spares ∙ c.loop-rest.invariant.spares;
    }

pub returns-clause-pools : goal.returns-clause-pools
unfolding IsCellPools
returns-clause-pools c =
    let z : length (entries c.loop-rest.elements c.loop-rest.rest) ≡ 0 = omega (arith, c.count.ensures.count) in
    back_kept c.args.elements.now c.loop-rest.elements c.args.self.now c.args.parked.pools (record { table = c.loop-rest.table }) c.requires.pools c.requires.parked c.requires.names c.loop-rest.invariant.table (sym (c.loop-rest.invariant.went ∙ none_left (entries c.loop-rest.elements c.loop-rest.rest) (entries c.loop-rest.elements c.loop-rest.table) z))

pub returns-clause-names : goal.returns-clause-names
unfolding IsCellPools
returns-clause-names c =
    let z : length (entries c.loop-rest.elements c.loop-rest.rest) ≡ 0 = omega (arith, c.count.ensures.count) in
    back_names c.args.elements.now c.loop-rest.elements c.args.self.now c.args.parked.pools (record { table = c.loop-rest.table }) c.requires.pools c.requires.parked c.requires.names c.loop-rest.invariant.table (sym (c.loop-rest.invariant.went ∙ none_left (entries c.loop-rest.elements c.loop-rest.rest) (entries c.loop-rest.elements c.loop-rest.table) z))

pub returns-clause-ids : goal.returns-clause-ids
unfolding IsCellPools
returns-clause-ids c =
    let z : length (entries c.loop-rest.elements c.loop-rest.rest) ≡ 0 = omega (arith, c.count.ensures.count) in
    back_ids c.args.elements.now c.loop-rest.elements c.args.self.now c.args.parked.pools (record { table = c.loop-rest.table }) c.requires.pools c.requires.parked c.requires.names c.loop-rest.invariant.table (sym (c.loop-rest.invariant.went ∙ none_left (entries c.loop-rest.elements c.loop-rest.rest) (entries c.loop-rest.elements c.loop-rest.table) z))

pub returns-clause-owned : goal.returns-clause-owned
unfolding owned
returns-clause-owned c =
    let z : c.count.result ≡ 0 = omega arith in
    let P : List ℕ → Type 0 = λ y. Leaves c.args.elements.now c.loop-rest.elements (ListTable.owned c.args.elements.now c.args.parked.pools.table ++ ListTable.owned c.args.elements.now c.args.self.now.table) (y ++ ListTable.owned c.loop-rest.elements c.loop-rest.table) in
    subst P (c.count.ensures.bare z) c.loop-rest.invariant.owned
