-- Records that fit in turn lead back.
use Rattle.std.proofs.Common.{◌≡◌, ℕ, ◌/◌, Bool, true, false, not, if◌then◌else◌, List, [], ◌∷◌, ◌++◌, None, IsSome, refl, sym, ap, ◌∙◌, subst}
use Rattle.std.proofs.lemmas.List.{append-nil}
use Rattle.run_set.specs.Runs.{inside}
use Rattle.storage_changes.specs.declared.record.PagesRecord.{PagesRecord}
use Rattle.storage_changes.specs.declared.record.Record.{Record}
use Rattle.storage_changes.specs.declared.record.Record.TheVariants.{Area, Extent, Pages, Own, Queues, Register, Bytes}
use Rattle.storage_changes.specs.declared.record.Record.TheVariants.{Registers, Task, Turn, Sharer, Pass}
use Rattle.storage_changes.specs.declared.record.Record.TheVariants.{CellPool, CellExtent, Cell, Obtain}
use Rattle.storage_changes.specs.State.{StorageState}
use Rattle.storage_changes.specs.Walk.{Walk, flip}
use Rattle.storage_changes.specs.Steps.{pages_step, step, walk}
use Rattle.storage_changes.specs.Turned.{turned, back_onto}
use Rattle.storage_changes.specs.Fits.{Fits, FitInTurn}
use Rattle.storage_changes.specs.Changes.{Change, outset, arrival, Fit, overlay, inverse}
use Rattle.storage_changes.specs.Laws.{ChangesLeadBack}
use Rattle.storage_changes.proofs.Cases.{not-not, walk-same}
use Rattle.storage_changes.proofs.SetSteps.{area-back, area-fits, extent-back, extent-fits}
use Rattle.storage_changes.proofs.PagesSteps.{pages-back, pages-fits}
use Rattle.storage_changes.proofs.OwnSteps.{own-back, own-fits}
use Rattle.storage_changes.proofs.TaskSteps.{task-back, task-fits, turn-back, turn-fits}
use Rattle.storage_changes.proofs.SharingSteps.{sharer-back, sharer-fits, pass-back, pass-fits}
use Rattle.storage_changes.proofs.CellSteps.{queues-back, queues-fits, cell_pool-back, cell_pool-fits}
use Rattle.storage_changes.proofs.CellSteps.{cell_extent-back, cell_extent-fits, cell-back, cell-fits}
use Rattle.storage_changes.proofs.ByteSteps.{bytes-back, bytes-fits, bytes-again, register-back, register-again}
use Rattle.storage_changes.proofs.RegistersSteps.{registers-back, registers-fits, registers-again}
use Rattle.storage_changes.proofs.ObtainSteps.{obtain-back, obtain-fits, obtain-again}

-- one record of each kind

step-back : (w : Walk) (r : Record) → Fits w r → step (flip (step w r)) (turned w.state r) ≡ flip w
step-back w (Area r) h = area-back w r h
step-back w (Extent r) h = extent-back w r h
step-back w (Pages r) h = pages-back w r h
step-back w (Own r) h = own-back w r h
step-back w (Queues r) h = queues-back w r h
step-back w (Register r) h = register-back w r
step-back w (Registers r) h = registers-back w r
step-back w (Task r) h = task-back w r h
step-back w (Turn r) h = turn-back w r
step-back w (Sharer r) h = sharer-back w r h
step-back w (Pass r) h = pass-back w r h
step-back w (CellPool r) h = cell_pool-back w r
step-back w (CellExtent r) h = cell_extent-back w r h
step-back w (Cell r) h = cell-back w r h
step-back w (Bytes r) h = bytes-back w r h
step-back w (Obtain r) h = obtain-back w r h

step-fits : (w : Walk) (r : Record) → Fits w r → Fits (flip (step w r)) (turned w.state r)
step-fits w (Area r) h = area-fits w r h
step-fits w (Extent r) h = extent-fits w r h
step-fits w (Pages r) h = pages-fits w r h
step-fits w (Own r) h = own-fits w r h
step-fits w (Queues r) h = queues-fits w r h
step-fits w (Register r) h = record { task = h.task; register = h.register }
step-fits w (Registers r) h = registers-fits w r h
step-fits w (Task r) h = task-fits w r h
step-fits w (Turn r) h = turn-fits w r h
step-fits w (Sharer r) h = sharer-fits w r h
step-fits w (Pass r) h = pass-fits w r h
step-fits w (CellPool r) h = cell_pool-fits w r h
step-fits w (CellExtent r) h = cell_extent-fits w r h
step-fits w (Cell r) h = cell-fits w r h
step-fits w (Bytes r) h = bytes-fits w r h
step-fits w (Obtain r) h = obtain-fits w r h

step-turned : (w : Walk) (r : Record) → Fits w r → turned (step w r).state (turned w.state r) ≡ r
step-turned w (Area r) h = λ i. Area (record r { free = not-not r.free i })
step-turned w (Extent r) h = λ i. Extent (record r { present = not-not r.present i })
step-turned w (Pages r) h = λ i. Pages (record r { assigned = not-not r.assigned i })
step-turned w (Own r) h = λ i. Own (record r { present = not-not r.present i })
step-turned w (Queues r) h = refl
step-turned w (Register r) h = λ i. Register (record r { word = register-again w r i })
step-turned w (Registers r) h = λ i. Registers (record r { words = registers-again w r h i })
step-turned w (Task r) h = λ i. Task (record r { present = not-not r.present i })
step-turned w (Turn r) h = refl
step-turned w (Sharer r) h = λ i. Sharer (record r { present = not-not r.present i })
step-turned w (Pass r) h = refl
step-turned w (CellPool r) h = λ i. CellPool (record r { present = not-not r.present i })
step-turned w (CellExtent r) h = λ i. CellExtent (record r { present = not-not r.present i })
step-turned w (Cell r) h = λ i. Cell (record r { free = not-not r.free i })
step-turned w (Bytes r) h = λ i. Bytes (record r { bytes = bytes-again w r h i })
step-turned w (Obtain r) h = λ i. Obtain (obtain-again w r i)

-- and in turn, before those that already led here

fits-onto : (w : Walk) (done rs : List Record) → FitInTurn w rs → FitInTurn (flip w) done → FitInTurn (flip (walk w rs)) (back_onto w done rs)
fits-onto w done [] h k = k
fits-onto w done (r ∷ rs) h k =
    let P : Walk → Type 0 = λ v. FitInTurn v done in
    fits-onto (step w r) (turned w.state r ∷ done) rs h.1 (step-fits w r h.0, subst P (sym (step-back w r h.0)) k)

walk-onto : (w : Walk) (done rs : List Record) → FitInTurn w rs → walk (flip (walk w rs)) (back_onto w done rs) ≡ walk (flip w) done
walk-onto w done [] h = refl
walk-onto w done (r ∷ rs) h =
    walk-onto (step w r) (turned w.state r ∷ done) rs h.1 ∙ ap (λ (v : Walk). walk v done) (step-back w r h.0)

back-onto : (w : Walk) (over done rs : List Record) → FitInTurn w rs → back_onto (flip (walk w rs)) over (back_onto w done rs) ≡ back_onto (flip w) (rs ++ over) done
back-onto w over done [] h = refl
back-onto w over done (r ∷ rs) h =
    back-onto (step w r) over (turned w.state r ∷ done) rs h.1
    ∙ ap (λ (v : Walk). back_onto v (turned (step w r).state (turned w.state r) ∷ (rs ++ over)) done) (step-back w r h.0)
    ∙ ap (λ (x : Record). back_onto (flip w) (x ∷ (rs ++ over)) done) (step-turned w r h.0)

-- what was given is unassigned

abbrev GivenOut : Walk → Type 0
GivenOut w = (a : ℕ) → IsSome (w.given a) → w.state.unassigned (a / 4096) ≡ true

pages-out : (w : Walk) (r : PagesRecord) → GivenOut w → GivenOut (pages_step w r)
pages-out w r h a = go (inside (a / 4096) r.run) r.assigned (h a) where
  go : (b assigned : Bool) → (IsSome (w.given a) → w.state.unassigned (a / 4096) ≡ true)
      → IsSome (if b then (if assigned then None else w.state.bytes a) else w.given a) → (if b then not assigned else w.state.unassigned (a / 4096)) ≡ true
  go true true k s = cc
  go true false k s = refl
  go false assigned k s = k s

step-out : (w : Walk) (r : Record) → GivenOut w → GivenOut (step w r)
step-out w (Area r) h = h
step-out w (Extent r) h = h
step-out w (Pages r) h = pages-out w r h
step-out w (Own r) h = h
step-out w (Queues r) h = h
step-out w (Register r) h = h
step-out w (Registers r) h = h
step-out w (Task r) h = h
step-out w (Turn r) h = h
step-out w (Sharer r) h = h
step-out w (Pass r) h = h
step-out w (CellPool r) h = h
step-out w (CellExtent r) h = h
step-out w (Cell r) h = h
step-out w (Bytes r) h = h
step-out w (Obtain r) h = h

walk-out : (w : Walk) (rs : List Record) → GivenOut w → GivenOut (walk w rs)
walk-out w [] h = h
walk-out w (r ∷ rs) h = walk-out (step w r) rs (step-out w r h)

-- a change

module _ (m : StorageState) (d : Change) (h : Fit m d) where
  -- after the change, seen from the other side, is before the exchanged one
  turned-round : flip (arrival m d) ≡ outset (overlay m d) (inverse m d)
  turned-round = walk-same (flip (arrival m d)) (outset (overlay m d) (inverse m d)) refl (λ a. refl) h.brought refl refl

  leads : arrival (overlay m d) (inverse m d) ≡ flip (outset m d)
  leads = ap (λ (v : Walk). walk v (back_onto (outset m d) [] d.records)) (sym turned-round) ∙ walk-onto (outset m d) [] d.records h.in_turn

  fits-back : Fit (overlay m d) (inverse m d)
  fits-back = record {
    in_turn = (let P : Walk → Type 0 = λ v. FitInTurn v (back_onto (outset m d) [] d.records) in subst P turned-round (fits-onto (outset m d) [] d.records h.in_turn tt));
    fresh = walk-out (outset m d) d.records (λ a s. cc);
    brought = λ a. ap (λ (v : Walk). v.brought a) leads;
  }

  leads-back : overlay (overlay m d) (inverse m d) ≡ m
  leads-back = ap (λ (v : Walk). v.state) leads

  same-records : back_onto (outset (overlay m d) (inverse m d)) [] (inverse m d).records ≡ d.records
  same-records = ap (λ (v : Walk). back_onto v [] (back_onto (outset m d) [] d.records)) (sym turned-round) ∙ back-onto (outset m d) [] [] d.records h.in_turn ∙ append-nil d.records

  turns-back : inverse (overlay m d) (inverse m d) ≡ d
  turns-back = λ i. record { records = same-records i; blanks = (leads i).spare; frames = (leads i).given; parked = (leads i).parked }

pub changes_lead_back : ChangesLeadBack
changes_lead_back m d h = (fits-back m d h, leads-back m d h, turns-back m d h)
