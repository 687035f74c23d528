use Rattle.std.proofs.Common.{◌≡◌, ◌∙◌, [], Option, ap, sym, subst, arith}
use Rattle.std.specs.Prelude.{IfSome}
use Rattle.std.proofs.lemmas.Option.{get_or_from_slice_get}
use Rattle.list_table.specs.Entries.{word}
use Rattle.list_table.specs.ListTable.{entry_of}
use Rattle.cell_pool.specs.declared.settings.CellSettings.{CellSettings}
use Rattle.vsm_model.specs.declared.limits.Residence.{Residence}
use Rattle.vsm_model.specs.declared.Subpool.{Subpool}
use Rattle.cell_pool.specs.Pools.{Pool}
use Rattle.cell_pool.specs.Items.{settings_in, subpool_in}
use Rattle.cell_pool.proofs.EntryLemmas.{pool_settings}
use Rattle.cell_pool.proofs.pools.CellPools.settings.Goals as goal

pub item-form-requires-clause-within : goal.item-form-requires-clause-within
item-form-requires-clause-within c = omega (arith, c.row-row.ensures.room)

pub returns : goal.returns
returns c =
    let P : Option Pool → Type 0 = λ z. IfSome z (λ (p : Pool). ◌≡◌ {A = CellSettings} (record { subpool = c.subpool_of-subpool.result; size = word c.item-form.result 5; primary = word c.item-form.result 4; secondary = word c.item-form.result 3; location = c.location_of-location.result }) p.settings) in
    subst P (sym c.row-row.ensures.pool) (ap (λ (z : Subpool). record { subpool = z; size = word c.item-form.result 5; primary = word c.item-form.result 4; secondary = word c.item-form.result 3; location = c.location_of-location.result }) c.subpool_of-subpool.ensures
    ∙ ap (λ (z : Residence). record { subpool = subpool_in c.row-row.result.words; size = word c.item-form.result 5; primary = word c.item-form.result 4; secondary = word c.item-form.result 3; location = z }) c.location_of-location.ensures
    ∙ ap (settings_in c.row-row.result.words) (sym (get_or_from_slice_get (entry_of c.args.elements.now c.row-row.result).items 4 c.item-form.result [] c.item-form.ensures)) ∙ sym (pool_settings (entry_of c.args.elements.now c.row-row.result)))
