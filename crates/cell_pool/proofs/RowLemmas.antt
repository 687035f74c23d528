-- A row that a walk over the pools has in hand.
use Rattle.std.proofs.Common.{◌≡◌, ◌∙◌, ◌≤◌, ℕ, Bool, List, ◌++◌, ◌∷◌, take, Some, None, true, ap, sym, subst, arith}
use Rattle.std.specs.Prelude.{slice_get, IsUtf8}
use Rattle.std.specs.Str.{bytes_eq}
use Rattle.vsm_elements.specs.Store.{Store}
use Rattle.vsm_elements.specs.Chain.{links}
use Rattle.list_table.specs.Entries.{Entry}
use Rattle.list_table.specs.Stocks.{items_of}
use Rattle.list_table.specs.ListTable.{entries, entry_of, IsTable, IsOpen}
use Rattle.list_table.specs.declared.row.ListRow.{ListRow}
use Rattle.cell_pool.specs.declared.label.Label.{Label}
use Rattle.cell_pool.specs.Names.{packed, spelled, same_label, AreBytes}
use Rattle.cell_pool.specs.Items.{label_of, pool_of, IsSound}
use Rattle.cell_pool.proofs.NameLemmas.{names_tell}
use Rattle.list_table.proofs.ItemLemmas.{length-items}
use Rattle.cell_pool.proofs.EntryLemmas.{pool_id, pool_name, eqb_refl}
use Rattle.cell_pool.specs.declared.pools.CellPools.{CellPools}
use Rattle.cell_pool.specs.Pools.{Pool, first_with, is_of, id_in}
use Rattle.cell_pool.specs.Kept.{pools_of, AllSound}
use Rattle.cell_pool.specs.CellPools.{IsCellPools}
use Rattle.cell_pool.proofs.PoolLemmas.{sound_at, before_is, found_other, one_of}
use Rattle.cell_pool.proofs.ParkLemmas.{pools_distinct}

pub stands : (s : Store) (q : CellPools) → IsCellPools s q → IsTable s q.table
unfolding IsCellPools
stands s q kept = kept.table

module _ (s : Store) (q : CellPools) (kept : IsCellPools s q) (r : ListRow) (xs ys : List Entry) (parts : entries s q.table ≡ xs ++ entry_of s r ∷ ys) (hand : IsOpen s q.table r) where
  pub is_sound : IsSound (entry_of s r)
  unfolding IsCellPools
  is_sound = let P : List Entry → Type 0 = AllSound in sound_at xs ys (entry_of s r) (subst P parts kept.sound)

  pub has_texts : 5 ≤ r.stock.items.count
  has_texts = omega (arith, is_sound.room, length-items (links s r.stock.items), hand.stock.items.count)

  -- the name that was read from its list is a text
  module _ (label : Label) (read : label ≡ label_of (items_of (links s r.stock.items))) where
    pub spells : spelled label ≡ (pool_of (entry_of s r)).name
    spells = ap spelled read ∙ sym (pool_name (entry_of s r))

    pub is_text : IsUtf8 (spelled label)
    is_text = let P : List ℕ → Type 0 = IsUtf8 in subst P (sym spells) is_sound.texts.text

    pub has_bytes : AreBytes (spelled label)
    has_bytes = let P : List ℕ → Type 0 = AreBytes in subst P (sym spells) is_sound.texts.bytes

    -- whether it's the name that is looked for
    pub tells : (name : List ℕ) (wanted : Label) (b : Bool) → wanted ≡ packed name → spelled wanted ≡ name → b ≡ same_label wanted label → bytes_eq name (pool_of (entry_of s r)).name ≡ b
    tells name wanted b packs reads is =
        sym (is ∙ ap (same_label wanted) (read ∙ is_sound.named) ∙ ap (λ (z : Label). same_label z (packed (pool_of (entry_of s r)).name)) packs
        ∙ names_tell name (pool_of (entry_of s r)).name (ap spelled (sym packs) ∙ reads) (ap spelled (sym (read ∙ is_sound.named)) ∙ spells))

-- The pool that a test finds first is that of its id.
pub own_id : (s : Store) (q : CellPools) → IsCellPools s q → (e : Entry) (test : Pool → Bool) (k : ℕ) → slice_get (entries s q.table) k ≡ Some e → first_with test (pools_of (take k (entries s q.table))) ≡ None → test (pool_of e) ≡ true
    → id_in e.id (pools_of (entries s q.table)) ≡ Some (pool_of e)
unfolding IsCellPools
own_id s q kept e test k there none hit =
    ap (λ (i : ℕ). id_in i (pools_of (entries s q.table))) (sym (pool_id e))
    ∙ found_other test (is_of (pool_of e).id) (pools_of (entries s q.table)) (pool_of e) (before_is test (entries s q.table) k e there none hit) (one_of (pool_of e).id (pools_of (entries s q.table)) (pools_distinct s q kept)) (eqb_refl (pool_of e).id)
