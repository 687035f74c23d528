use Rattle.std.proofs.Common.{◌≡◌, ◌≤◌, ◌∷◌, ◌++◌, ◌∙◌, ℕ, List, Option, true, false, ap, sym, subst, arith, length, refl}
use Rattle.std.specs.Prelude.{IfSome}
use Rattle.vsm_elements.specs.Store.{among}
use Rattle.vsm_elements.specs.Ownership.{Leaves}
use Rattle.vsm_elements.proofs.ChainFrame.{Leaves-trans}
use Rattle.list_table.specs.Entries.{Entry}
use Rattle.list_table.specs.ListTable.{entries, entry_of}
use Rattle.list_table.specs.ListTable
use Rattle.cell_pool.specs.Pools.{lies_in}
use Rattle.cell_pool.specs.Items.{pool_of}
use Rattle.cell_pool.specs.CellPools.{owned, IsCellPools}
use Rattle.cell_pool.proofs.EntryLemmas.{pool_subpool}
use Rattle.vsm_model.specs.declared.Subpool.{Subpool}
use Rattle.vsm_model.specs.Subpools.{same_subpool}
use Rattle.cell_pool.proofs.ParkLemmas.{moved, append_none, left_is, fewer, gone_rest, gone_went, kept_rest, kept_went, all_rest, all_went, leaves_same, takes_out}
use Rattle.cell_pool.proofs.pools.CellPools.park_pools.Goals as goal

pub count-count-requires : goal.count-count-requires
unfolding IsCellPools
count-count-requires c = c.requires.table

pub loop-left-init : goal.loop-left-init
unfolding IsCellPools owned
loop-left-init c = record {
  table = c.requires.table;
  out = c.new-out.ensures.table c.args.elements.now;
  left = omega (arith, c.count-count.ensures.count);
  within = omega arith;
  place = c.count-count.ensures.front;
  rest = refl;
  went = sym (ap (moved (lies_in c.args.subpool) (entries c.args.elements.now c.args.self.now.table)) (c.new-out.ensures.empty c.args.elements.now));
  apart = λ i h. ap (among i) (c.new-out.ensures.owned c.args.elements.now);
  owned = (let P : List ℕ → Type 0 = λ z. Leaves c.args.elements.now c.args.elements.now (ListTable.owned c.args.elements.now c.args.self.now.table) z in
      subst P (sym (ap (λ (z : List ℕ). ListTable.owned c.args.elements.now c.args.self.now.table ++ z) (c.new-out.ensures.owned c.args.elements.now) ∙ append_none (ListTable.owned c.args.elements.now c.args.self.now.table))) (leaves_same c.args.elements.now (ListTable.owned c.args.elements.now c.args.self.now.table)));
  spares = refl;
}

pub loop-left-preserved-then-says_subpool : goal.loop-left-preserved-then-says_subpool
loop-left-preserved-then-says_subpool c =
    let Q : Option Entry → Type 0 = λ z. IfSome z (λ (e : Entry). entries c.move_row.new.elements c.move_row.new.to ≡ e ∷ (entries c.loop-left.elements c.loop-left.out)) in
    let goes : lies_in c.args.subpool (pool_of (entry_of c.loop-left.elements c.row-row.result)) ≡ true = ap (λ (z : Subpool). same_subpool z c.args.subpool) (pool_subpool (entry_of c.loop-left.elements c.row-row.result)) ∙ sym c.says_subpool.ensures ∙ c.if-says_subpool.true in
    let left = left_is c.loop-left.elements c.move_row.new.elements c.loop-left.self.table c.move_row.new.self c.loop-left.place.index c.move_row.ensures.left in
    record {
      table = c.move_row.ensures.table;
      out = c.move_row.ensures.to;
      left = omega (arith, fewer (entries c.loop-left.elements c.loop-left.self.table) c.loop-left.place.index (entry_of c.loop-left.elements c.row-row.result) c.row-row.ensures.entry (entries c.move_row.new.elements c.move_row.new.self) left);
      within = omega arith;
      place = c.move_row.ensures.place;
      rest = gone_rest (entries c.loop-left.elements c.loop-left.self.table) c.loop-left.place.index (entry_of c.loop-left.elements c.row-row.result) c.row-row.ensures.entry (lies_in c.args.subpool) (entries c.args.elements.now c.args.self.now.table) (entries c.loop-left.elements c.loop-left.out) c.loop-left.invariant.rest c.loop-left.invariant.went goes (entries c.move_row.new.elements c.move_row.new.self) left;
      went = gone_went (entries c.loop-left.elements c.loop-left.self.table) c.loop-left.place.index (entry_of c.loop-left.elements c.row-row.result) c.row-row.ensures.entry (lies_in c.args.subpool) (entries c.args.elements.now c.args.self.now.table) (entries c.loop-left.elements c.loop-left.out) c.loop-left.invariant.rest c.loop-left.invariant.went goes (entries c.move_row.new.elements c.move_row.new.self) (entries c.move_row.new.elements c.move_row.new.to) left (subst Q c.row-row.ensures.entry c.move_row.ensures.moved);
      apart = c.move_row.ensures.apart;
      owned = Leaves-trans _ _ _ _ _ _ c.loop-left.invariant.owned c.move_row.ensures.owned;
      spares = c.move_row.ensures.spares ∙ c.loop-left.invariant.spares;
    }

pub loop-left-preserved : goal.loop-left-preserved
loop-left-preserved c =
    let stays : lies_in c.args.subpool (pool_of (entry_of c.loop-left.elements c.row-row.result)) ≡ false = ap (λ (z : Subpool). same_subpool z c.args.subpool) (pool_subpool (entry_of c.loop-left.elements c.row-row.result)) ∙ sym c.says_subpool.ensures ∙ c.if-says_subpool.false in
    record {
      table = c.loop-left.invariant.table;
      out = c.loop-left.invariant.out;
      left = omega arith;
      within = omega arith;
      place = c.row-row.ensures.next;
      rest = kept_rest (entries c.loop-left.elements c.loop-left.self.table) c.loop-left.place.index (entry_of c.loop-left.elements c.row-row.result) c.row-row.ensures.entry (lies_in c.args.subpool) (entries c.args.elements.now c.args.self.now.table) (entries c.loop-left.elements c.loop-left.out) c.loop-left.invariant.rest c.loop-left.invariant.went stays;
      went = kept_went (entries c.loop-left.elements c.loop-left.self.table) c.loop-left.place.index (entry_of c.loop-left.elements c.row-row.result) c.row-row.ensures.entry (lies_in c.args.subpool) (entries c.args.elements.now c.args.self.now.table) (entries c.loop-left.elements c.loop-left.out) c.loop-left.invariant.rest c.loop-left.invariant.went stays;
      apart = c.loop-left.invariant.apart;
      owned = c.loop-left.invariant.owned;
      spares = c.loop-left.invariant.spares;
    }

pub returns-clause-takes : goal.returns-clause-takes
unfolding IsCellPools owned
returns-clause-takes c =
    let past : length (entries c.loop-left.elements c.loop-left.self.table) ≤ c.loop-left.place.index = omega arith in
    takes_out (lies_in c.args.subpool) c.args.elements.now c.loop-left.elements c.args.self.now c.loop-left.self (record { table = c.loop-left.out }) c.requires c.loop-left.invariant.table c.loop-left.invariant.out (all_rest (lies_in c.args.subpool) (entries c.args.elements.now c.args.self.now.table) (entries c.loop-left.elements c.loop-left.self.table) (entries c.loop-left.elements c.loop-left.out) c.loop-left.place.index past c.loop-left.invariant.rest) (all_went (lies_in c.args.subpool) (entries c.args.elements.now c.args.self.now.table) (entries c.loop-left.elements c.loop-left.self.table) (entries c.loop-left.elements c.loop-left.out) c.loop-left.place.index past c.loop-left.invariant.went)
    c.loop-left.invariant.apart c.loop-left.invariant.owned
