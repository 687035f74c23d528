-- Pages for which a change has frames become assigned by its records.
use Rattle.std.specs.Prelude.{⊤}
use Rattle.std.proofs.Common.{◌≡◌, ℕ, zero, suc, ◌+◌, ◌-◌, ◌*◌, Bool, true, false, ◌==◌, if◌then◌else◌, List, [], ◌∷◌, ◌++◌, map, refl, sym, ap, ◌∙◌, arith}
use Rattle.std.proofs.lemmas.Bool.{cond-true}
use Rattle.std.proofs.lemmas.List.{append_assoc}
use Rattle.run_set.specs.Runs.{inside}
use Rattle.storage_changes.proofs.ActionCases.{inside_in}
use Rattle.vsm_model.specs.declared.Subpool.{Subpool}
use Rattle.vsm_model.specs.Regions.{pages_for}
use Rattle.storage_changes.specs.declared.record.Record.{Record}
use Rattle.storage_changes.specs.declared.record.Record.TheVariants.{Area, Extent, Pages, Own, Queues, Register, Registers, Bytes, Task, Turn, Sharer, Pass, CellPool, CellExtent, Cell, Obtain}
use Rattle.storage_changes.specs.State.{StorageState}
use Rattle.storage_changes.specs.Steps.{step, walk}
use Rattle.storage_changes.specs.Walk.{Walk}
use Rattle.storage_changes.specs.StorageActions.{area_records, own_records, register_record, register_records, run_of, take_fresh_records}
use Rattle.storage_plans.specs.declared.places.AreaPlace.{AreaPlace}
use Rattle.storage_plans.specs.declared.places.AreaPlace.TheVariants.{Inside, Fresh}
use Rattle.storage_plans.specs.ObtainPlans.{granted_records, place_address, place_pages, place_records}

-- no page is assigned or unassigned by the record
abbrev pub KeepsPages : Record → Type 0
KeepsPages (Area r) = ⊤
KeepsPages (Extent r) = ⊤
KeepsPages (Pages r) = ⊥
KeepsPages (Own r) = ⊤
KeepsPages (Queues r) = ⊤
KeepsPages (Register r) = ⊤
KeepsPages (Registers r) = ⊤
KeepsPages (Task r) = ⊤
KeepsPages (Turn r) = ⊤
KeepsPages (Sharer r) = ⊤
KeepsPages (Pass r) = ⊤
KeepsPages (CellPool r) = ⊤
KeepsPages (CellExtent r) = ⊤
KeepsPages (Cell r) = ⊤
KeepsPages (Bytes r) = ⊤
KeepsPages (Obtain r) = ⊤

abbrev pub KeepPages : List Record → Type 0
KeepPages [] = ⊤
KeepPages (r ∷ rs) = KeepsPages r × KeepPages rs

pub both_keep : (rs ss : List Record) → KeepPages rs → KeepPages ss → KeepPages (rs ++ ss)
both_keep [] ss one other = other
both_keep (r ∷ rs) ss one other = (one.0, both_keep rs ss one.1 other)

each_keeps : (task : ℕ) (rows : List (ℕ × ℕ)) → KeepPages (map (register_record task) rows)
each_keeps task [] = tt
each_keeps task (row ∷ rows) = (tt, each_keeps task rows)

pub registers_keep : (m : StorageState) (rows : List (ℕ × ℕ)) → KeepPages (register_records m rows)
registers_keep m [] = tt
registers_keep m (row ∷ rows) = go (m.tasks.words m.tasks.current row.0 == row.1) where
  go : (b : Bool) → KeepPages ((if b then [] else register_record m.tasks.current row ∷ []) ++ map (register_record m.tasks.current) rows)
  go true = each_keeps m.tasks.current rows
  go false = (tt, each_keeps m.tasks.current rows)

area_keeps : (p : Subpool) (start count : ℕ) (free : Bool) → KeepPages (area_records p start count free)
area_keeps p start zero free = tt
area_keeps p start (suc n) free = (tt, tt)

kept : (w : Walk) (rs : List Record) → KeepPages rs → (k : ℕ) → (walk w rs).state.unassigned k ≡ w.state.unassigned k
kept w [] keep k = refl
kept w (Area r ∷ rs) keep k = kept (step w (Area r)) rs keep.1 k
kept w (Extent r ∷ rs) keep k = kept (step w (Extent r)) rs keep.1 k
kept w (Pages r ∷ rs) keep k = absurd keep.0
kept w (Own r ∷ rs) keep k = kept (step w (Own r)) rs keep.1 k
kept w (Queues r ∷ rs) keep k = kept (step w (Queues r)) rs keep.1 k
kept w (Register r ∷ rs) keep k = kept (step w (Register r)) rs keep.1 k
kept w (Registers r ∷ rs) keep k = kept (step w (Registers r)) rs keep.1 k
kept w (Task r ∷ rs) keep k = kept (step w (Task r)) rs keep.1 k
kept w (Turn r ∷ rs) keep k = kept (step w (Turn r)) rs keep.1 k
kept w (Sharer r ∷ rs) keep k = kept (step w (Sharer r)) rs keep.1 k
kept w (Pass r ∷ rs) keep k = kept (step w (Pass r)) rs keep.1 k
kept w (CellPool r ∷ rs) keep k = kept (step w (CellPool r)) rs keep.1 k
kept w (CellExtent r ∷ rs) keep k = kept (step w (CellExtent r)) rs keep.1 k
kept w (Cell r ∷ rs) keep k = kept (step w (Cell r)) rs keep.1 k
kept w (Bytes r ∷ rs) keep k = kept (step w (Bytes r)) rs keep.1 k
kept w (Obtain r ∷ rs) keep k = kept (step w (Obtain r)) rs keep.1 k

-- if there are no such pages
pub none_assigned : (unassigned : ℕ → Bool) (k : ℕ) → inside k (run_of 0 0) ≡ true → unassigned k ≡ false
none_assigned unassigned k e = let at = inside_in 0 0 k e in absurd (omega (arith, at.1))

-- if an area is taken, followed by other records
pub place_assigns : (w : Walk) (p : Subpool) (count : ℕ) (to : AreaPlace) (rest : List Record) → KeepPages rest →
    (k : ℕ) → inside k (place_pages count to) ≡ true → (walk w (place_records p count to ++ rest)).state.unassigned k ≡ false
place_assigns w p count (Inside d) rest keep k e = none_assigned (λ k. (walk w (place_records p count (Inside d) ++ rest)).state.unassigned k) k e
place_assigns w p count (Fresh page) rest keep k e =
    let run = run_of page (pages_for count) in
    let pages = Pages (record { run = run; assigned = true }) in
    let extent = Extent (record { subpool = p; run = run; present = true }) in
    let area = area_records p (512 * page + count) (512 * pages_for count - count) true in
    kept (step (step w pages) extent) (area ++ rest) (both_keep area rest (area_keeps p (512 * page + count) (512 * pages_for count - count) true) keep) k
    ∙ cond-true (inside k run) false (w.state.unassigned k) e

-- and in a subpool that may be new
pub own_assigns : (w : Walk) (p : Subpool) (is_new : Bool) (count : ℕ) (to : AreaPlace) (rest : List Record) → KeepPages rest →
    (k : ℕ) → inside k (place_pages count to) ≡ true → (walk w (own_records p is_new ++ place_records p count to ++ rest)).state.unassigned k ≡ false
own_assigns w p true count to rest keep k e = place_assigns (step w (Own (record { subpool = p; present = true }))) p count to rest keep k e
own_assigns w p false count to rest keep k e = place_assigns w p count to rest keep k e

-- with the registers that are set, of which one may be set together with the area
pub granted_assigns : (w : Walk) (m : StorageState) (p : Subpool) (is_new : Bool) (count : ℕ) (to : AreaPlace) (rows : List (ℕ × ℕ)) →
    (k : ℕ) → inside k (place_pages count to) ≡ true → (walk w (own_records p is_new ++ granted_records m p count to rows)).state.unassigned k ≡ false
granted_assigns w m p is_new count (Inside d) rows k e = none_assigned (λ k. (walk w (own_records p is_new ++ granted_records m p count (Inside d) rows)).state.unassigned k) k e
granted_assigns w m p is_new count (Fresh page) rows k e =
    let set = (15, 0) ∷ (1, place_address (Fresh page)) ∷ rows in
    ap (λ (rs : List Record). (walk w rs).state.unassigned k) (sym (append_assoc (own_records p is_new) (take_fresh_records p page count) (register_records m set)))
    ∙ own_assigns w p is_new count (Fresh page) (register_records m set) (registers_keep m set) k e
