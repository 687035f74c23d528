use Rattle.std.proofs.Common.{◌≡◌, ◌∙◌, [], Option, List, ℕ, ap, sym, subst}
use Rattle.std.specs.Prelude.{IfSome, option_map}
use Rattle.std.proofs.lemmas.Option.{get_or_from_slice_get}
use Rattle.list_table.specs.Entries.{Entry}
use Rattle.list_table.specs.ListTable.{entry_of}
use Rattle.cell_pool.specs.Names.{header_in, AreBytes}
use Rattle.cell_pool.specs.Pools.{Pool}
use Rattle.cell_pool.specs.Items.{item, pool_of}
use Rattle.cell_pool.proofs.TextLemmas.{pool_header}
use Rattle.cell_pool.proofs.pools.CellPools.header.Goals as goal

both_are : (e : Entry) (front form : List ℕ) → item e.items 3 ≡ front → item e.items 4 ≡ form → (pool_of e).header ≡ header_in front form
both_are e front form f h = pool_header e ∙ ap (header_in (item e.items 3)) h ∙ ap (λ (z : List ℕ). header_in z form) f

pub header_of-requires : goal.header_of-requires
header_of-requires c =
    let e : Entry = entry_of c.args.elements.now c.row-row.result in
    let P : Option (List ℕ) → Type 0 = λ o. IfSome o AreBytes in
    subst P (both_are e c.item.result c.item-form.result (get_or_from_slice_get e.items 3 c.item.result [] c.item.ensures) (get_or_from_slice_get e.items 4 c.item-form.result [] c.item-form.ensures)) c.row-row.ensures.sound.texts.header_bytes

pub returns : goal.returns
returns c =
    let e : Entry = entry_of c.args.elements.now c.row-row.result in
    let is = both_are e c.item.result c.item-form.result (get_or_from_slice_get e.items 3 c.item.result [] c.item.ensures) (get_or_from_slice_get e.items 4 c.item-form.result [] c.item-form.ensures) in
    let P : Option Pool → Type 0 = λ z. IfSome z (λ (p : Pool). option_map (λ h. h.items) c.header_of.result ≡ p.header) in
    subst P (sym c.row-row.ensures.pool) (c.header_of.ensures ∙ sym is)
