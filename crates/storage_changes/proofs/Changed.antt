-- A cell pool that changes: its records, and its row on the plain machine.
use Rattle.std.proofs.Common.{◌≡◌, ℕ, ◌+◌, ◌-◌, ◌≤◌, ◌<◌, Bool, true, false, ◌==◌, if◌then◌else◌, List, ◌∷◌, Option, Some, None, is_some, refl, sym, ◌∙◌, ap, arith, subst, true≢false}
use Rattle.std.specs.Prelude.{◌*◌, ◌^◌, option_map, drop}
use Rattle.std.proofs.lemmas.Bool.{cond-true, eq-eqb}
use Rattle.vsm_model.specs.declared.limits.Settings.{Settings}
use Rattle.vsm_model.specs.CellPools.{CellPool}
use Rattle.vsm_model.specs.Cells.{with_pool}
use Rattle.vsm_model.specs.State.{State}
use Rattle.cell_pool.specs.Pools.{Pool, at_id, uses, meets, without_first, with_first, extended}
use Rattle.storage_changes.specs.TableLaws.{ChangedPoolsHaveTheirRow}
use Rattle.storage_changes.specs.NamedPools.{AreNamed}
use Rattle.storage_changes.specs.PoolTable.{cell_pool_of}
use Rattle.subpool_storage.specs.Subpools.{with_changed}
use Rattle.storage_changes.specs.declared.record.CellExtentRecord.{CellExtentRecord}
use Rattle.storage_changes.specs.declared.record.CellRecord.{CellRecord}
use Rattle.storage_changes.specs.declared.record.Record.TheVariants.{CellExtent, Cell}
use Rattle.storage_changes.specs.Fits.{AreUnderTheirIds, IsExtent, IsCell}
use Rattle.storage_changes.specs.Meaning.{model_of}
use Rattle.storage_changes.specs.State.{StorageState}
use Rattle.storage_changes.proofs.Goes.{at, Goes, goes_step}
use Rattle.storage_changes.proofs.Rows.{Stands}
use Rattle.storage_changes.specs.CellActions.{handed_out_records, given_back_records, extent_records, extent_blanks}

pub some_is : {A : Type 0} (x y : A) → Some x ≡ Some y → x ≡ y
some_is x y e = cc

-- a row on the plain machine with what else becomes of it
pub listed_too : (end now s : State) (name : List ℕ) (pool : CellPool) → end ≡ with_pool now name pool → now ≡ s → end ≡ with_pool s name pool
listed_too end now s name pool listed leads = listed ∙ ap (λ t. with_pool t name pool) leads

-- the state once a cell pool is changed
abbrev pub changed : StorageState → ℕ → (Pool → Pool) → StorageState
changed m id change = record m { subpools = with_changed m.subpools id change }

pub changed_stands :
    (settings : Settings) (m : StorageState) (id : ℕ) (change : Pool → Pool) → Stands settings m.subpools m.unassigned
    → Stands settings (changed m id change).subpools (changed m id change).unassigned
changed_stands settings m id change h = record { apart = h.apart; named = h.named; rest = h.rest; free = h.free }

-- its row is the changed one's
pub changed_leads :
    ChangedPoolsHaveTheirRow → (m : StorageState) (p : Pool) (change : Pool → Pool) → AreNamed m.subpools.cells → m.subpools.cells p.id ≡ Some p
    → (change p).name ≡ p.name → model_of (changed m p.id change) ≡ with_pool (model_of m) p.name (cell_pool_of (change p))
changed_leads rows m p change named there same =
    λ i. record (model_of m) { cell_pools = rows m.subpools.cells p.id p change named there same i }

module _ (m : StorageState) (b g : ℕ → Option ℕ) (s left : ℕ) (p : Pool) (cell : ℕ) (ids : AreUnderTheirIds m.subpools.cells)
    (there : m.subpools.cells p.id ≡ Some p) where
  -- a fact of the cell pool is one of what is found
  pub found : (P : Pool → Type 0) → P p → (q : Pool) → m.subpools.cells p.id ≡ Some q → P q
  found P h q e = subst P (some_is p q (sym there ∙ e)) h

  -- the first free cell is handed out
  pub hands_out : (rest : List ℕ) → p.cells ≡ cell ∷ rest → uses (without_first p) cell ≡ true → left ≤ s
      → Goes (at m b g s) (handed_out_records p.id cell) (changed m p.id without_first) b g left
  hands_out rest first used less =
      let r : CellRecord = record { pool = p.id; cell = cell; free = false } in
      let cells : p.cells ≡ cell ∷ drop 1 p.cells = first ∙ sym (ap (λ (z : List ℕ). cell ∷ drop 1 z) first) in
      let own : IsCell r p (without_first p) = record { used = used; first = λ e i. record p { cells = cells i } } in
      goes_step m (changed m p.id without_first) b g b g s s left (Cell r)
      (record { ids = ids; there = ap is_some there; cell = found (λ q. IsCell r q (without_first q)) own })
      refl less

  -- and one that is in use is given back
  pub gives_back : uses p cell ≡ true → left ≤ s
      → Goes (at m b g s) (given_back_records p.id cell) (changed m p.id (with_first cell)) b g left
  gives_back used less =
      let r : CellRecord = record { pool = p.id; cell = cell; free = true } in
      let own : IsCell r p p = record { used = used; first = λ e. absurd (true≢false e) } in
      goes_step m (changed m p.id (with_first cell)) b g b g s s left (Cell r)
      (record { ids = ids; there = ap is_some there; cell = found (λ q. IsCell r q q) own })
      refl less

  -- this number of further cells from an address on
  pub extends : (start count : ℕ) → 0 < count → start + count * p.settings.size ≤ 2 ^ 32 → meets start (count * p.settings.size) p ≡ false → left + extent_blanks count ≤ s
      → Goes (at m b g s) (extent_records p.id start count) (changed m p.id (extended start count)) b g left
  extends start count some range apart less =
      let r : CellExtentRecord = record { pool = p.id; start = start; count = count; present = true } in
      let own : IsExtent r p p = record { some = some; range = range; apart = apart; last = λ e. absurd (true≢false e) } in
      goes_step m (changed m p.id (extended start count)) b g b g s (s - extent_blanks count) left (CellExtent r)
      (record { ids = ids; there = ap is_some there; extent = found (λ q. IsExtent r q q) own; room = omega (arith, less) })
      refl (omega (arith, less))

-- A cell pool that is changed has its id as before, and is found under it.
module _ (pools : ℕ → Option Pool) (id : ℕ) (change : Pool → Pool) (keeps : (q : Pool) → (change q).id ≡ q.id) where
  pub at_keeps : (q : Pool) → (at_id id change q).id ≡ q.id
  at_keeps q = go (id == q.id) where
    go : (b : Bool) → (if b then change q else q).id ≡ q.id
    go true = keeps q
    go false = refl

  pub ids_changed : AreUnderTheirIds pools → AreUnderTheirIds (λ i. option_map (at_id id change) (pools i))
  ids_changed ids i q e = go (pools i) refl e where
    go : (o : Option Pool) → pools i ≡ o → option_map (at_id id change) o ≡ Some q → q.id ≡ i
    go None own f = cc
    go (Some x) own f = ap (λ (z : Pool). z.id) (sym (some_is (at_id id change x) q f)) ∙ at_keeps x ∙ ids i x own

  -- two changes of it are one
  pub at_twice : (other : Pool → Pool) (o : Option Pool)
      → option_map (at_id id other) (option_map (at_id id change) o) ≡ option_map (at_id id (λ q. other (change q))) o
  at_twice other None = refl
  at_twice other (Some q) = ap Some (go (id == q.id) refl) where
    go : (b : Bool) → (id == q.id) ≡ b → at_id id other (if b then change q else q) ≡ (if b then other (change q) else q)
    go true e = cond-true (id == (change q).id) (other (change q)) (change q) (ap (λ k. id == k) (keeps q) ∙ e)
    go false e = ap (λ c. if c then other q else q) e

pub found_changed : (pools : ℕ → Option Pool) (p : Pool) (change : Pool → Pool) → pools p.id ≡ Some p
    → option_map (at_id p.id change) (pools p.id) ≡ Some (change p)
found_changed pools p change there =
    ap (option_map (at_id p.id change)) there ∙ ap Some (cond-true (p.id == p.id) (change p) p (eq-eqb p.id p.id refl))
