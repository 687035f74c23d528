-- A page that becomes assigned takes a frame that the change brings.
use Rattle.std.proofs.Common.{◌≡◌, ℕ, ◌*◌, ◌/◌, Bool, true, false, not, List, [], ◌∷◌, Option, None, IsSome, refl, sym, ap, ◌∙◌, subst, arith}
use Rattle.run_set.specs.Runs.{inside}
use Rattle.storage_changes.specs.declared.record.PagesRecord.{PagesRecord}
use Rattle.storage_changes.specs.declared.record.Record.{Record}
use Rattle.storage_changes.specs.declared.record.Record.TheVariants.{Area, Extent, Pages, Own, Queues, Register, Bytes}
use Rattle.storage_changes.specs.declared.record.Record.TheVariants.{Registers, Task, Turn, Sharer, Pass}
use Rattle.storage_changes.specs.declared.record.Record.TheVariants.{CellPool, CellExtent, Cell, Obtain}
use Rattle.storage_changes.specs.Walk.{Walk}
use Rattle.storage_changes.specs.Steps.{pages_step, step, walk}
use Rattle.storage_changes.specs.Fits.{PagesFits, FitInTurn}
use Rattle.storage_changes.specs.Changes.{outset}
use Rattle.storage_changes.specs.Laws.{AssignedPagesAreBrought}
use Rattle.storage_changes.proofs.Cases.{cond-in, cond-out}

-- by the page's first address
first-address : (page : ℕ) → (4096 * page) / 4096 ≡ page
first-address page = omega arith

-- a run of pages that has the page is assigned
taken : (w : Walk) (r : PagesRecord) (page : ℕ) → PagesFits w r → inside page r.run ≡ true → w.state.unassigned page ≡ true → IsSome (w.brought (4096 * page))
taken w r page h its free =
    let at : inside ((4096 * page) / 4096) r.run ≡ true = ap (λ (x : ℕ). inside x r.run) (first-address page) ∙ its in
    let assigned : r.assigned ≡ true = sym (h.other page its) ∙ free in
    let P : Option ℕ → Type 0 = λ o. IsSome o in
    subst P (cond-in r.assigned (w.brought (4096 * page)) (w.state.bytes (4096 * page)) assigned) (h.frame (4096 * page) at).there

-- or the page is still unassigned after the record, which leaves its frame
came : (w : Walk) (r : PagesRecord) (page : ℕ) → PagesFits w r → w.state.unassigned page ≡ true
    → ((pages_step w r).state.unassigned page ≡ true → IsSome ((pages_step w r).brought (4096 * page))) → IsSome (w.brought (4096 * page))
came w r page h free later = go (inside page r.run) refl where
  go : (b : Bool) → inside page r.run ≡ b → IsSome (w.brought (4096 * page))
  go true its = taken w r page h its free
  go false out =
      let beside : inside ((4096 * page) / 4096) r.run ≡ false = ap (λ (x : ℕ). inside x r.run) (first-address page) ∙ out in
      let P : Option ℕ → Type 0 = λ o. IsSome o in
      subst P (cond-out (inside ((4096 * page) / 4096) r.run) None (w.brought (4096 * page)) beside)
      (later (cond-out (inside page r.run) (not r.assigned) (w.state.unassigned page) out ∙ free))

comes : (w : Walk) (rs : List Record) (page : ℕ) → FitInTurn w rs → w.state.unassigned page ≡ true → (walk w rs).state.unassigned page ≡ false → IsSome (w.brought (4096 * page))
comes w [] page h free none = cc
comes w (Area r ∷ rs) page h free none = comes (step w (Area r)) rs page h.1 free none
comes w (Extent r ∷ rs) page h free none = comes (step w (Extent r)) rs page h.1 free none
comes w (Pages r ∷ rs) page h free none = came w r page h.0 free (λ still. comes (step w (Pages r)) rs page h.1 still none)
comes w (Own r ∷ rs) page h free none = comes (step w (Own r)) rs page h.1 free none
comes w (Queues r ∷ rs) page h free none = comes (step w (Queues r)) rs page h.1 free none
comes w (Register r ∷ rs) page h free none = comes (step w (Register r)) rs page h.1 free none
comes w (Registers r ∷ rs) page h free none = comes (step w (Registers r)) rs page h.1 free none
comes w (Task r ∷ rs) page h free none = comes (step w (Task r)) rs page h.1 free none
comes w (Turn r ∷ rs) page h free none = comes (step w (Turn r)) rs page h.1 free none
comes w (Sharer r ∷ rs) page h free none = comes (step w (Sharer r)) rs page h.1 free none
comes w (Pass r ∷ rs) page h free none = comes (step w (Pass r)) rs page h.1 free none
comes w (CellPool r ∷ rs) page h free none = comes (step w (CellPool r)) rs page h.1 free none
comes w (CellExtent r ∷ rs) page h free none = comes (step w (CellExtent r)) rs page h.1 free none
comes w (Cell r ∷ rs) page h free none = comes (step w (Cell r)) rs page h.1 free none
comes w (Bytes r ∷ rs) page h free none = comes (step w (Bytes r)) rs page h.1 free none
comes w (Obtain r ∷ rs) page h free none = comes (step w (Obtain r)) rs page h.1 free none

pub assigned-brought : AssignedPagesAreBrought
assigned-brought m d page fit free none = comes (outset m d) d.records page fit.in_turn free none
