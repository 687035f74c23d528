use Rattle.std.proofs.Common.{◌≡◌, ◌∙◌, Option, List, ℕ, ap, sym, subst}
use Rattle.std.specs.Prelude.{IfSome, IsUtf8}
use Rattle.list_table.specs.ListTable.{entry_of}
use Rattle.cell_pool.specs.Names.{spelled, AreBytes}
use Rattle.cell_pool.specs.Pools.{Pool}
use Rattle.cell_pool.proofs.EntryLemmas.{pool_name}
use Rattle.cell_pool.proofs.pools.CellPools.name.Goals as goal

pub name_of-requires-clause-text : goal.name_of-requires-clause-text
name_of-requires-clause-text c =
    let P : List ℕ → Type 0 = IsUtf8 in
    subst P (pool_name (entry_of c.args.elements.now c.row-row.result) ∙ sym (ap spelled c.label.ensures)) c.row-row.ensures.sound.texts.text

pub name_of-requires-clause-bytes : goal.name_of-requires-clause-bytes
name_of-requires-clause-bytes c =
    let P : List ℕ → Type 0 = AreBytes in
    subst P (pool_name (entry_of c.args.elements.now c.row-row.result) ∙ sym (ap spelled c.label.ensures)) c.row-row.ensures.sound.texts.bytes

pub returns : goal.returns
returns c =
    let P : Option Pool → Type 0 = λ z. IfSome z (λ (p : Pool). c.name_of.result.bytes ≡ p.name) in
    subst P (sym c.row-row.ensures.pool) (c.name_of.ensures ∙ ap spelled c.label.ensures ∙ sym (pool_name (entry_of c.args.elements.now c.row-row.result)))
