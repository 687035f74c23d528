use Rattle.std.proofs.Common.{◌≡◌, ◌-◌, ◌∙◌, sym, arith, subst, Option, List, length, Some, refl}
use Rattle.std.specs.Prelude.{slice_get, map, IfSome, IsSome}
use Rattle.vsm_elements.specs.Chain.{links}
use Rattle.row_table.specs.declared.row.Row.{Row}
use Rattle.row_table.specs.RowTable.{rows}
use Rattle.list_table.specs.Stocks.{items_of, rows_of}
use Rattle.list_table.proofs.ItemLemmas.{length-items}
use Rattle.cell_pool.proofs.ShapeLemmas.{count_extents, own_extents}
use Rattle.cell_pool.specs.Places.{placed_at}
use Rattle.cell_pool.specs.Items.{extent_of}
use Rattle.cell_pool.specs.Pools.{Pool, IsExtended, retracted}
use Rattle.cell_pool.proofs.LawLemmas.{some_extent, end_is}
use Rattle.cell_pool.proofs.PartLemmas.{length-rows, shrinks, shrunk, grown_leaves, grown_stands, has_place, places_still, items_still}
use Rattle.list_table.specs.ListTable.{entry_of}
use Rattle.cell_pool.specs.Items.{pool_of}
use Rattle.cell_pool.specs.CellPools.{IsCellPools}
use Rattle.cell_pool.proofs.CallLemmas.{ready, done_kept, done_names, done_ids, done_owned}
use Rattle.cell_pool.proofs.pools.CellPools.retract.Goals as goal

pub pop-extent-requires-clause-table : goal.pop-extent-requires-clause-table
pop-extent-requires-clause-table c = c.row-row.ensures.open.stock.extents

pub pop-extent-requires-clause-numbered : goal.pop-extent-requires-clause-numbered
pop-extent-requires-clause-numbered c = c.row-row.ensures.sound.numbered

pub pop-extent-requires-clause-some : goal.pop-extent-requires-clause-some
pop-extent-requires-clause-some c =
    let x : IsExtended (pool_of (entry_of c.args.elements.now c.row-row.result)) = (let P : Option Pool → Type 0 = λ z. IfSome z (λ (p : Pool). IsExtended p) in subst P c.row-row.ensures.pool c.requires.last) in
    omega (arith, some_extent (pool_of (entry_of c.args.elements.now c.row-row.result)) x, count_extents (entry_of c.args.elements.now c.row-row.result), length-rows (rows c.args.elements.now c.row-row.result.stock.extents))

pub overflow_sub-end : goal.overflow_sub-end
overflow_sub-end c =
    let x : IsExtended (pool_of (entry_of c.args.elements.now c.row-row.result)) = (let P : Option Pool → Type 0 = λ z. IfSome z (λ (p : Pool). IsExtended p) in subst P c.row-row.ensures.pool c.requires.last) in
    let long : length (items_of (links c.args.elements.now c.row-row.result.stock.items)) ≡ c.row-row.result.stock.items.count = omega (arith, length-items (links c.args.elements.now c.row-row.result.stock.items), c.row-row.ensures.open.stock.items.count) in
    let f = shrinks (entry_of c.args.elements.now c.row-row.result) x (rows c.pop-extent.new.elements c.pop-extent.new.extents) c.pop-extent.result c.pop-extent.ensures.extents c.row-row.result.stock.items.count long c.row-row.ensures.sound.room in
    omega (arith, f.fits)

pub displace-requires-clause-table : goal.displace-requires-clause-table
displace-requires-clause-table c = (places_still c.args.elements.now c.pop-extent.new.elements c.row-row.result.stock c.row-row.ensures.open.stock c.pop-extent.new.extents c.pop-extent.ensures.owned c.pop-extent.ensures.table).0

pub displace-requires-clause-there : goal.displace-requires-clause-there
displace-requires-clause-there c =
    let x : IsExtended (pool_of (entry_of c.args.elements.now c.row-row.result)) = (let P : Option Pool → Type 0 = λ z. IfSome z (λ (p : Pool). IsExtended p) in subst P c.row-row.ensures.pool c.requires.last) in
    let long : length (items_of (links c.args.elements.now c.row-row.result.stock.items)) ≡ c.row-row.result.stock.items.count = omega (arith, length-items (links c.args.elements.now c.row-row.result.stock.items), c.row-row.ensures.open.stock.items.count) in
    let f = shrinks (entry_of c.args.elements.now c.row-row.result) x (rows c.pop-extent.new.elements c.pop-extent.new.extents) c.pop-extent.result c.pop-extent.ensures.extents c.row-row.result.stock.items.count long c.row-row.ensures.sound.room in
    let P : List Row → Type 0 = λ z. IsSome (placed_at c.pop-extent.result.start (rows_of z)) in
    subst P (sym (places_still c.args.elements.now c.pop-extent.new.elements c.row-row.result.stock c.row-row.ensures.open.stock c.pop-extent.new.extents c.pop-extent.ensures.owned c.pop-extent.ensures.table).1)
    (has_place (entry_of c.args.elements.now c.row-row.result) c.row-row.ensures.sound x c.pop-extent.result f.last)

pub remove-requires-clause-chain : goal.remove-requires-clause-chain
remove-requires-clause-chain c = (items_still c.args.elements.now c.pop-extent.new.elements c.row-row.result.stock c.row-row.ensures.open.stock c.pop-extent.new.extents c.pop-extent.ensures.owned c.pop-extent.ensures.table c.displace.new.elements c.displace.new.places c.displace.ensures.owned c.displace.ensures.table).0

pub remove-requires-clause-within : goal.remove-requires-clause-within
remove-requires-clause-within c =
    let x : IsExtended (pool_of (entry_of c.args.elements.now c.row-row.result)) = (let P : Option Pool → Type 0 = λ z. IfSome z (λ (p : Pool). IsExtended p) in subst P c.row-row.ensures.pool c.requires.last) in
    let long : length (items_of (links c.args.elements.now c.row-row.result.stock.items)) ≡ c.row-row.result.stock.items.count = omega (arith, length-items (links c.args.elements.now c.row-row.result.stock.items), c.row-row.ensures.open.stock.items.count) in
    let f = shrinks (entry_of c.args.elements.now c.row-row.result) x (rows c.pop-extent.new.elements c.pop-extent.new.extents) c.pop-extent.result c.pop-extent.ensures.extents c.row-row.result.stock.items.count long c.row-row.ensures.sound.room in
    omega (arith, f.fits)

pub returns-clause-extent : goal.returns-clause-extent
returns-clause-extent c =
    let x : IsExtended (pool_of (entry_of c.args.elements.now c.row-row.result)) = (let P : Option Pool → Type 0 = λ z. IfSome z (λ (p : Pool). IsExtended p) in subst P c.row-row.ensures.pool c.requires.last) in
    let P : Option Pool → Type 0 = λ z. IfSome z (λ (p : Pool). slice_get p.extents (length p.extents - 1) ≡ Some c.pop-extent.result) in
    subst P (sym c.row-row.ensures.pool) (end_is (pool_of (entry_of c.args.elements.now c.row-row.result)) x (map extent_of (rows_of (rows c.pop-extent.new.elements c.pop-extent.new.extents))) c.pop-extent.result (own_extents (entry_of c.args.elements.now c.row-row.result) ∙ c.pop-extent.ensures.extents))

pub write-requires : goal.write-requires
write-requires c =
    ready c.args.elements.now c.remove.new.elements c.args.self.now c.row-row.result (record { items = c.remove.new.list; used = c.row-row.result.stock.used; extents = c.pop-extent.new.extents; places = c.displace.new.places }) c.row-row.result.words c.row-row.ensures.open
    (grown_leaves c.args.elements.now c.pop-extent.new.elements c.displace.new.elements c.remove.new.elements c.row-row.result.stock c.row-row.ensures.open.stock c.pop-extent.new.extents c.pop-extent.ensures.owned c.pop-extent.ensures.table c.displace.new.places c.displace.ensures.owned c.displace.ensures.table c.remove.new.list c.remove.ensures.owned c.remove.ensures.chain)
    (grown_stands c.args.elements.now c.pop-extent.new.elements c.displace.new.elements c.remove.new.elements c.row-row.result.stock c.row-row.ensures.open.stock c.pop-extent.new.extents c.pop-extent.ensures.owned c.pop-extent.ensures.table c.displace.new.places c.displace.ensures.owned c.displace.ensures.table c.remove.new.list c.remove.ensures.owned c.remove.ensures.chain)

pub returns-clause-pools : goal.returns-clause-pools
unfolding IsCellPools
returns-clause-pools c =
    let x : IsExtended (pool_of (entry_of c.args.elements.now c.row-row.result)) = (let P : Option Pool → Type 0 = λ z. IfSome z (λ (p : Pool). IsExtended p) in subst P c.row-row.ensures.pool c.requires.last) in
    let long : length (items_of (links c.args.elements.now c.row-row.result.stock.items)) ≡ c.row-row.result.stock.items.count = omega (arith, length-items (links c.args.elements.now c.row-row.result.stock.items), c.row-row.ensures.open.stock.items.count) in
    let f = shrinks (entry_of c.args.elements.now c.row-row.result) x (rows c.pop-extent.new.elements c.pop-extent.new.extents) c.pop-extent.result c.pop-extent.ensures.extents c.row-row.result.stock.items.count long c.row-row.ensures.sound.room in
    let b = shrunk c.args.elements.now c.pop-extent.new.elements c.displace.new.elements c.remove.new.elements c.row-row.result c.row-row.ensures.open.stock c.row-row.ensures.sound c.pop-extent.new.extents c.pop-extent.ensures.owned c.pop-extent.ensures.table c.displace.new.places c.displace.ensures.owned c.displace.ensures.table c.remove.new.list c.remove.ensures.owned c.remove.ensures.chain c.pop-extent.result (c.row-row.result.stock.items.count - c.pop-extent.result.count) c.remove.ensures.items f.whole f.some c.pop-extent.ensures.numbered c.pop-extent.ensures.extents c.displace.ensures.placed x f.last in
    done_kept c.args.elements.now c.remove.new.elements c.args.self.now c.row-row.result (record { items = c.remove.new.list; used = c.row-row.result.stock.used; extents = c.pop-extent.new.extents; places = c.displace.new.places }) c.row-row.result.words c.row-row.ensures.open b.leaves b.stands c.write.new.elements c.requires.pools c.args.id (retracted c.pop-extent.result.count) c.row-row.ensures.named c.row-row.ensures.parts c.write.ensures.table c.write.ensures.entries b.made (λ p. refl) (λ p. refl) b.sound

pub returns-clause-names : goal.returns-clause-names
unfolding IsCellPools
returns-clause-names c =
    let x : IsExtended (pool_of (entry_of c.args.elements.now c.row-row.result)) = (let P : Option Pool → Type 0 = λ z. IfSome z (λ (p : Pool). IsExtended p) in subst P c.row-row.ensures.pool c.requires.last) in
    let long : length (items_of (links c.args.elements.now c.row-row.result.stock.items)) ≡ c.row-row.result.stock.items.count = omega (arith, length-items (links c.args.elements.now c.row-row.result.stock.items), c.row-row.ensures.open.stock.items.count) in
    let f = shrinks (entry_of c.args.elements.now c.row-row.result) x (rows c.pop-extent.new.elements c.pop-extent.new.extents) c.pop-extent.result c.pop-extent.ensures.extents c.row-row.result.stock.items.count long c.row-row.ensures.sound.room in
    let b = shrunk c.args.elements.now c.pop-extent.new.elements c.displace.new.elements c.remove.new.elements c.row-row.result c.row-row.ensures.open.stock c.row-row.ensures.sound c.pop-extent.new.extents c.pop-extent.ensures.owned c.pop-extent.ensures.table c.displace.new.places c.displace.ensures.owned c.displace.ensures.table c.remove.new.list c.remove.ensures.owned c.remove.ensures.chain c.pop-extent.result (c.row-row.result.stock.items.count - c.pop-extent.result.count) c.remove.ensures.items f.whole f.some c.pop-extent.ensures.numbered c.pop-extent.ensures.extents c.displace.ensures.placed x f.last in
    done_names c.args.elements.now c.remove.new.elements c.args.self.now c.row-row.result (record { items = c.remove.new.list; used = c.row-row.result.stock.used; extents = c.pop-extent.new.extents; places = c.displace.new.places }) c.row-row.result.words c.row-row.ensures.open b.leaves b.stands c.write.new.elements c.requires.pools c.args.id (retracted c.pop-extent.result.count) c.row-row.ensures.named c.row-row.ensures.parts c.write.ensures.table c.write.ensures.entries b.made (λ p. refl) (λ p. refl) b.sound

pub returns-clause-ids : goal.returns-clause-ids
unfolding IsCellPools
returns-clause-ids c =
    let x : IsExtended (pool_of (entry_of c.args.elements.now c.row-row.result)) = (let P : Option Pool → Type 0 = λ z. IfSome z (λ (p : Pool). IsExtended p) in subst P c.row-row.ensures.pool c.requires.last) in
    let long : length (items_of (links c.args.elements.now c.row-row.result.stock.items)) ≡ c.row-row.result.stock.items.count = omega (arith, length-items (links c.args.elements.now c.row-row.result.stock.items), c.row-row.ensures.open.stock.items.count) in
    let f = shrinks (entry_of c.args.elements.now c.row-row.result) x (rows c.pop-extent.new.elements c.pop-extent.new.extents) c.pop-extent.result c.pop-extent.ensures.extents c.row-row.result.stock.items.count long c.row-row.ensures.sound.room in
    let b = shrunk c.args.elements.now c.pop-extent.new.elements c.displace.new.elements c.remove.new.elements c.row-row.result c.row-row.ensures.open.stock c.row-row.ensures.sound c.pop-extent.new.extents c.pop-extent.ensures.owned c.pop-extent.ensures.table c.displace.new.places c.displace.ensures.owned c.displace.ensures.table c.remove.new.list c.remove.ensures.owned c.remove.ensures.chain c.pop-extent.result (c.row-row.result.stock.items.count - c.pop-extent.result.count) c.remove.ensures.items f.whole f.some c.pop-extent.ensures.numbered c.pop-extent.ensures.extents c.displace.ensures.placed x f.last in
    done_ids c.args.elements.now c.remove.new.elements c.args.self.now c.row-row.result (record { items = c.remove.new.list; used = c.row-row.result.stock.used; extents = c.pop-extent.new.extents; places = c.displace.new.places }) c.row-row.result.words c.row-row.ensures.open b.leaves b.stands c.write.new.elements c.requires.pools c.args.id (retracted c.pop-extent.result.count) c.row-row.ensures.named c.row-row.ensures.parts c.write.ensures.table c.write.ensures.entries b.made (λ p. refl) (λ p. refl) b.sound

pub returns-clause-owned : goal.returns-clause-owned
returns-clause-owned c =
    let x : IsExtended (pool_of (entry_of c.args.elements.now c.row-row.result)) = (let P : Option Pool → Type 0 = λ z. IfSome z (λ (p : Pool). IsExtended p) in subst P c.row-row.ensures.pool c.requires.last) in
    let long : length (items_of (links c.args.elements.now c.row-row.result.stock.items)) ≡ c.row-row.result.stock.items.count = omega (arith, length-items (links c.args.elements.now c.row-row.result.stock.items), c.row-row.ensures.open.stock.items.count) in
    let f = shrinks (entry_of c.args.elements.now c.row-row.result) x (rows c.pop-extent.new.elements c.pop-extent.new.extents) c.pop-extent.result c.pop-extent.ensures.extents c.row-row.result.stock.items.count long c.row-row.ensures.sound.room in
    let b = shrunk c.args.elements.now c.pop-extent.new.elements c.displace.new.elements c.remove.new.elements c.row-row.result c.row-row.ensures.open.stock c.row-row.ensures.sound c.pop-extent.new.extents c.pop-extent.ensures.owned c.pop-extent.ensures.table c.displace.new.places c.displace.ensures.owned c.displace.ensures.table c.remove.new.list c.remove.ensures.owned c.remove.ensures.chain c.pop-extent.result (c.row-row.result.stock.items.count - c.pop-extent.result.count) c.remove.ensures.items f.whole f.some c.pop-extent.ensures.numbered c.pop-extent.ensures.extents c.displace.ensures.placed x f.last in
    done_owned c.args.elements.now c.remove.new.elements c.args.self.now c.row-row.result (record { items = c.remove.new.list; used = c.row-row.result.stock.used; extents = c.pop-extent.new.extents; places = c.displace.new.places }) c.row-row.result.words c.row-row.ensures.open b.leaves b.stands c.write.new.elements c.row-row.ensures.owned c.write.ensures.owned
