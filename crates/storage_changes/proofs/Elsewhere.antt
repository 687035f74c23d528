-- Records that leave the cell pools unchanged do the same whichever exist.
use Rattle.std.proofs.Common.{◌≡◌, ℕ, zero, suc, ◌≤◌, Bool, true, false, List, [], ◌∷◌, ◌++◌, Option, refl, sym, ◌∙◌, ap, subst}
use Rattle.vsm_model.specs.declared.Subpool.{Subpool}
use Rattle.vsm_model.specs.Areas.{Place, Inside, Fresh, Nowhere}
use Rattle.vsm_model.specs.Regions.{pages_for}
use Rattle.cell_pool.specs.Pools.{Pool}
use Rattle.storage_changes.specs.declared.record.Record.{Record}
use Rattle.storage_changes.specs.declared.record.Record.TheVariants.{Area, Extent, Pages, Own, Queues, Register, Bytes}
use Rattle.storage_changes.specs.declared.record.Record.TheVariants.{Registers, Task, Turn, Sharer, Pass, CellPool, CellExtent, Cell, Obtain}
use Rattle.storage_changes.specs.Fits.{Fits, FitInTurn}
use Rattle.storage_changes.specs.State.{StorageState}
use Rattle.storage_changes.specs.Steps.{step, walk}
use Rattle.storage_changes.specs.Walk.{Walk}
use Rattle.storage_changes.specs.StorageActions.{own_records, area_records as free_records, assigned_records}
use Rattle.storage_changes.proofs.Goes.{at, Goes}
use Rattle.storage_changes.specs.CellActions.{area_records}

-- a state with other cell pools
abbrev pub with_cells : StorageState → (ℕ → Option Pool) → StorageState
with_cells m cells = record m { subpools = record m.subpools { cells = cells } }

abbrev pub walk_with : Walk → (ℕ → Option Pool) → Walk
walk_with w cells = record w { state = with_cells w.state cells }

-- a record of these kinds leaves the cell pools unchanged
abbrev pub IsElsewhere : Record → Type 0
IsElsewhere (Area r) = Unit {0}
IsElsewhere (Extent r) = Unit {0}
IsElsewhere (Pages r) = Unit {0}
IsElsewhere (Own r) = Unit {0}
IsElsewhere (Register r) = Unit {0}
IsElsewhere (Registers r) = ⊥
IsElsewhere (Queues r) = ⊥
IsElsewhere (Task r) = ⊥
IsElsewhere (Turn r) = ⊥
IsElsewhere (Sharer r) = ⊥
IsElsewhere (Pass r) = ⊥
IsElsewhere (CellPool r) = ⊥
IsElsewhere (CellExtent r) = ⊥
IsElsewhere (Cell r) = ⊥
IsElsewhere (Bytes r) = ⊥
IsElsewhere (Obtain r) = ⊥

abbrev pub AreElsewhere : List Record → Type 0
AreElsewhere [] = Unit {0}
AreElsewhere (r ∷ rs) = IsElsewhere r × AreElsewhere rs

pub elsewhere_on : (rs ss : List Record) → AreElsewhere rs → AreElsewhere ss → AreElsewhere (rs ++ ss)
elsewhere_on [] ss h k = k
elsewhere_on (r ∷ rs) ss h k = (h.0, elsewhere_on rs ss h.1 k)

fits_with : (w : Walk) (cells : ℕ → Option Pool) (r : Record) → IsElsewhere r → Fits w r → Fits (walk_with w cells) r
fits_with w cells (Area r) h f =
    record { there = f.there; some = f.some; high = f.high; other = f.other; room = f.room; room_after = f.room_after }
fits_with w cells (Extent r) h f =
    record { there = f.there; some = f.some; high = f.high; other = f.other; room = f.room; room_after = f.room_after }
fits_with w cells (Pages r) h f =
    record { some = f.some; high = f.high; other = f.other; frame = f.frame; room = f.room; room_after = f.room_after }
fits_with w cells (Own r) h f = record {
  owner = f.owner;
  number = f.number;
  other = f.other;
  alone = f.alone;
  no_pages = f.no_pages;
  none_free = f.none_free;
  room = f.room;
  room_after = f.room_after;
}
fits_with w cells (Register r) h f = record { task = f.task; register = f.register }
fits_with w cells (Registers r) h f = absurd h
fits_with w cells (Queues r) h f = absurd h
fits_with w cells (Task r) h f = absurd h
fits_with w cells (Turn r) h f = absurd h
fits_with w cells (Sharer r) h f = absurd h
fits_with w cells (Pass r) h f = absurd h
fits_with w cells (CellPool r) h f = absurd h
fits_with w cells (CellExtent r) h f = absurd h
fits_with w cells (Cell r) h f = absurd h
fits_with w cells (Bytes r) h f = absurd h
fits_with w cells (Obtain r) h f = absurd h

step_with : (w : Walk) (cells : ℕ → Option Pool) (r : Record) → IsElsewhere r → step (walk_with w cells) r ≡ walk_with (step w r) cells
step_with w cells (Area r) h = refl
step_with w cells (Extent r) h = refl
step_with w cells (Pages r) h = refl
step_with w cells (Own r) h = refl
step_with w cells (Register r) h = refl
step_with w cells (Registers r) h = absurd h
step_with w cells (Queues r) h = absurd h
step_with w cells (Task r) h = absurd h
step_with w cells (Turn r) h = absurd h
step_with w cells (Sharer r) h = absurd h
step_with w cells (Pass r) h = absurd h
step_with w cells (CellPool r) h = absurd h
step_with w cells (CellExtent r) h = absurd h
step_with w cells (Cell r) h = absurd h
step_with w cells (Bytes r) h = absurd h
step_with w cells (Obtain r) h = absurd h

fit_with : (w : Walk) (cells : ℕ → Option Pool) (rs : List Record) → AreElsewhere rs → FitInTurn w rs → FitInTurn (walk_with w cells) rs
fit_with w cells [] h f = tt
fit_with w cells (r ∷ rs) h f =
    let P : Walk → Type 0 = λ v. FitInTurn v rs in
    (fits_with w cells r h.0 f.0, subst P (sym (step_with w cells r h.0)) (fit_with (step w r) cells rs h.1 f.1))

walks_with : (w : Walk) (cells : ℕ → Option Pool) (rs : List Record) → AreElsewhere rs → walk (walk_with w cells) rs ≡ walk_with (walk w rs) cells
walks_with w cells [] h = refl
walks_with w cells (r ∷ rs) h = ap (λ v. walk v rs) (step_with w cells r h.0) ∙ walks_with (step w r) cells rs h.1

pub goes_with :
    (m n : StorageState) (b g c h : ℕ → Option ℕ) (s left : ℕ) (rs : List Record) (cells : ℕ → Option Pool) → AreElsewhere rs → Goes (at m b g s) rs n c h left
    → Goes (at (with_cells m cells) b g s) rs (with_cells n cells) c h left
goes_with m n b g c h s left rs cells are go =
    let walks = walks_with (at m b g s) cells rs are in
    record {
      fits = fit_with (at m b g s) cells rs are go.fits;
      there = walks ∙ ap (λ (v : Walk). walk_with v cells) go.there ∙ ap (λ (v : Walk). at (with_cells n cells) c h v.spare) (sym walks);
      spare = let P : Walk → Type 0 = λ v. left ≤ v.spare in subst P (sym walks) go.spare;
    }

-- those of a new subpool and of an area are of these kinds

pub own_elsewhere : (p : Subpool) (is_new : Bool) → AreElsewhere (own_records p is_new)
own_elsewhere p true = (tt, tt)
own_elsewhere p false = tt

free_elsewhere : (p : Subpool) (start count : ℕ) (free : Bool) → AreElsewhere (free_records p start count free)
free_elsewhere p start zero free = tt
free_elsewhere p start (suc n) free = (tt, tt)

pub area_elsewhere : (p : Subpool) (count : ℕ) (goes : Place) → AreElsewhere (area_records p count goes)
area_elsewhere p count (Inside d) = free_elsewhere p d count false
area_elsewhere p count (Fresh page) =
    elsewhere_on (assigned_records p page (pages_for count)) _ (tt, (tt, tt)) (free_elsewhere p _ _ true)
area_elsewhere p count Nowhere = tt
