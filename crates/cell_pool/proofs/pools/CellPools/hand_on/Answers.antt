use Rattle.std.proofs.Common.{rules, ◌≡◌, ◌+◌, ◌≤◌, take, drop, ◌++◌, ◌∷◌, ◌∙◌, ℕ, List, ap, sym, arith, length, refl}
use Rattle.vsm_elements.proofs.ChainFrame.{Leaves-trans}
use Rattle.list_table.specs.Entries.{Entry}
use Rattle.list_table.specs.ListTable.{entries, entry_of, index_of}
use Rattle.list_table.specs.ListTable
use Rattle.cell_pool.specs.CellPools.{owned, IsCellPools}
use Rattle.cell_pool.proofs.ParkLemmas.{leaves_same}
use Rattle.cell_pool.proofs.HandLemmas.{hand, hand_id, is_given, not_given, written_is, same_place, next_rest, next_long, next_ids, stays_rest, rest_done, handed_kept, handed_names, handed_ids}
use Rattle.cell_pool.proofs.pools.CellPools.hand_on.Goals as goal

pub count-count-requires : goal.count-count-requires
unfolding IsCellPools
count-count-requires c = c.requires.table

pub loop-place-init : goal.loop-place-init
unfolding IsCellPools
loop-place-init c = record {
  table = c.requires.table;
  place = c.count-count.ensures.front;
  long = refl;
  rest = refl;
  owned = leaves_same c.args.elements.now (ListTable.owned c.args.elements.now c.args.self.now.table);
  spares = refl;
}

pub write-requires : goal.write-requires
write-requires c = record { table = c.row-row.ensures.open.table; stock = c.row-row.ensures.open.stock; apart = c.row-row.ensures.open.apart }

pub loop-place-preserved-then-says_subpool : goal.loop-place-preserved-then-says_subpool
loop-place-preserved-then-says_subpool c =
    let e : Entry = entry_of c.loop-place.elements c.row-row.result in
    let f : Entry → Entry = hand c.args.subpool c.args.to in
    let was : List Entry = entries c.args.elements.now c.args.self.now.table in
    let now : List Entry = entries c.loop-place.elements c.args.self.now.table in
    let next : List Entry = entries c.write.new.elements c.args.self.now.table in
    let given_words : List ℕ → Entry = λ words. record { id = e.id; words = words; items = e.items; used = e.used; extents = e.extents; places = e.places } in
    let one : given_words c.with_owner-given.result ≡ f e = ap given_words c.with_owner-given.ensures ∙ sym (is_given c.args.subpool c.args.to e (sym c.says_subpool.ensures ∙ c.if-says_subpool.true)) in
    let is : next ≡ take c.loop-place.place.index now ++ f e ∷ drop (c.loop-place.place.index + 1) now = written_is c.loop-place.elements c.write.new.elements c.args.self.now.table c.loop-place.place.index (index_of c.loop-place.elements c.args.self.now.table c.row-row.result.id) (given_words c.with_owner-given.result) (f e) c.row-row.ensures.index c.write.ensures.entries one in
    record {
      table = c.write.ensures.table;
      place = same_place c.loop-place.elements c.write.new.elements c.args.self.now.table (c.loop-place.place.index + 1) c.row-row.result.id (next_ids f was now c.loop-place.place.index c.loop-place.invariant.rest e c.row-row.ensures.entry next is (hand_id c.args.subpool c.args.to e)) c.row-row.ensures.next;
      long = next_long f was now c.loop-place.place.index c.loop-place.invariant.rest e c.row-row.ensures.entry next is ∙ c.loop-place.invariant.long;
      rest = next_rest f was now c.loop-place.place.index c.loop-place.invariant.rest e c.row-row.ensures.entry next is;
      owned = Leaves-trans _ _ _ _ _ _ c.loop-place.invariant.owned (c.row-row.ensures.owned c.write.new.elements (ListTable.owned c.write.new.elements c.args.self.now.table) c.write.ensures.owned);
      spares = c.write.ensures.spares ∙ c.loop-place.invariant.spares;
    }

pub loop-place-preserved : goal.loop-place-preserved
loop-place-preserved c =
    let e : Entry = entry_of c.loop-place.elements c.row-row.result in
    let f : Entry → Entry = hand c.args.subpool c.args.to in
    let was : List Entry = entries c.args.elements.now c.args.self.now.table in
    let now : List Entry = entries c.loop-place.elements c.args.self.now.table in
    record {
      table = c.loop-place.invariant.table;
      place = c.row-row.ensures.next;
      long = c.loop-place.invariant.long;
      rest = stays_rest f was now c.loop-place.place.index c.loop-place.invariant.rest e c.row-row.ensures.entry (not_given c.args.subpool c.args.to e (sym c.says_subpool.ensures ∙ c.if-says_subpool.false));
      owned = c.loop-place.invariant.owned;
      spares = c.loop-place.invariant.spares;
    }

pub returns-clause-pools : goal.returns-clause-pools
unfolding IsCellPools
returns-clause-pools c =
    let past : length (entries c.loop-place.elements c.args.self.now.table) ≤ c.loop-place.place.index = omega arith in
    handed_kept c.args.subpool c.args.to (search rules) c.args.elements.now c.loop-place.elements c.args.self.now c.requires c.loop-place.invariant.table (rest_done (hand c.args.subpool c.args.to) (entries c.args.elements.now c.args.self.now.table) (entries c.loop-place.elements c.args.self.now.table) c.loop-place.place.index c.loop-place.invariant.rest past)

pub returns-clause-names : goal.returns-clause-names
unfolding IsCellPools
returns-clause-names c =
    let past : length (entries c.loop-place.elements c.args.self.now.table) ≤ c.loop-place.place.index = omega arith in
    handed_names c.args.subpool c.args.to (search rules) c.args.elements.now c.loop-place.elements c.args.self.now c.requires c.loop-place.invariant.table (rest_done (hand c.args.subpool c.args.to) (entries c.args.elements.now c.args.self.now.table) (entries c.loop-place.elements c.args.self.now.table) c.loop-place.place.index c.loop-place.invariant.rest past)

pub returns-clause-ids : goal.returns-clause-ids
unfolding IsCellPools
returns-clause-ids c =
    let past : length (entries c.loop-place.elements c.args.self.now.table) ≤ c.loop-place.place.index = omega arith in
    handed_ids c.args.subpool c.args.to (search rules) c.args.elements.now c.loop-place.elements c.args.self.now c.requires c.loop-place.invariant.table (rest_done (hand c.args.subpool c.args.to) (entries c.args.elements.now c.args.self.now.table) (entries c.loop-place.elements c.args.self.now.table) c.loop-place.place.index c.loop-place.invariant.rest past)

pub returns-clause-owned : goal.returns-clause-owned
unfolding owned
returns-clause-owned c = c.loop-place.invariant.owned
