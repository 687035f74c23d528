-- Where the frames of a change come from once it was exchanged.
use Rattle.std.proofs.Common.{◌≡◌, ℕ, ◌/◌, ◌⊎◌, inl, inr, Bool, true, false, not, if◌then◌else◌, List, [], ◌∷◌, Option, Some, None, IsSome, refl, sym, ap, ◌∙◌, subst}
use Rattle.run_set.specs.Runs.{inside}
use Rattle.storage_changes.specs.declared.record.PagesRecord.{PagesRecord}
use Rattle.storage_changes.specs.declared.record.Record.{Record}
use Rattle.storage_changes.specs.declared.record.Record.TheVariants.{Area, Extent, Pages, Own, Queues, Register, Bytes}
use Rattle.storage_changes.specs.declared.record.Record.TheVariants.{Registers, Task, Turn, Sharer, Pass}
use Rattle.storage_changes.specs.declared.record.Record.TheVariants.{CellPool, CellExtent, Cell, Obtain}
use Rattle.storage_changes.specs.State.{StorageState}
use Rattle.storage_changes.specs.Walk.{Walk}
use Rattle.storage_changes.specs.Steps.{pages_step, step, walk}
use Rattle.storage_changes.specs.Fits.{PagesFits, FitInTurn}
use Rattle.storage_changes.specs.Changes.{Change, outset, overlay, inverse, Fit}
use Rattle.storage_changes.proofs.Cases.{cond-in, cond-out}
use Rattle.storage_changes.proofs.WalkLemmas.{changes_lead_back}
use Rattle.storage_core.specs.Frames.{AssignsItsFrames}

no-byte : (o : Option ℕ) → o ≡ None → IsSome o → ⊥
no-byte None e some = cc
no-byte (Some x) e some = cc

true-false : (b : Bool) → b ≡ true → b ≡ false → ⊥
true-false true t f = cc
true-false false t f = cc

-- No further frame of the page is brought, and if one was given, the page is unassigned.
pub record IsPast (w : Walk) (a : ℕ) : Type 0 where
  pub none : w.brought a ≡ None
  pub gone : IsSome (w.given a) → w.state.unassigned (a / 4096) ≡ true

past-on : (w : Walk) (r : PagesRecord) (a : ℕ) → PagesFits w r → IsPast w a → IsPast (pages_step w r) a
past-on w r a h past = go (inside (a / 4096) r.run) refl where
  leaves : inside (a / 4096) r.run ≡ true → (b : Bool) → r.assigned ≡ b → b ≡ false
  leaves its true e =
      let P : Option ℕ → Type 0 = λ o. IsSome o in
      absurd (no-byte (w.brought a) past.none (subst P (cond-in r.assigned (w.brought a) (w.state.bytes a) e) (h.frame a its).there))
  leaves its false e = refl

  go : (b : Bool) → inside (a / 4096) r.run ≡ b → IsPast (pages_step w r) a
  go true its = record {
    none = cond-in (inside (a / 4096) r.run) None (w.brought a) its;
    gone = λ _. cond-in (inside (a / 4096) r.run) (not r.assigned) (w.state.unassigned (a / 4096)) its ∙ ap not (leaves its r.assigned refl);
  }
  go false out = record {
    none = cond-out (inside (a / 4096) r.run) None (w.brought a) out ∙ past.none;
    gone = λ some.
        let P : Option ℕ → Type 0 = λ o. IsSome o in
        cond-out (inside (a / 4096) r.run) (not r.assigned) (w.state.unassigned (a / 4096)) out
        ∙ past.gone (subst P (cond-out (inside (a / 4096) r.run) (if r.assigned then None else w.state.bytes a) (w.given a) out) some);
  }

stays-past : (w : Walk) (rs : List Record) (a : ℕ) → FitInTurn w rs → IsPast w a → IsSome ((walk w rs).given a) → (walk w rs).state.unassigned (a / 4096) ≡ true
stays-past w [] a h past some = past.gone some
stays-past w (Area r ∷ rs) a h past some = stays-past (step w (Area r)) rs a h.1 (record { none = past.none; gone = past.gone }) some
stays-past w (Extent r ∷ rs) a h past some = stays-past (step w (Extent r)) rs a h.1 (record { none = past.none; gone = past.gone }) some
stays-past w (Pages r ∷ rs) a h past some = stays-past (step w (Pages r)) rs a h.1 (past-on w r a h.0 past) some
stays-past w (Own r ∷ rs) a h past some = stays-past (step w (Own r)) rs a h.1 (record { none = past.none; gone = past.gone }) some
stays-past w (Queues r ∷ rs) a h past some = stays-past (step w (Queues r)) rs a h.1 (record { none = past.none; gone = past.gone }) some
stays-past w (Register r ∷ rs) a h past some = stays-past (step w (Register r)) rs a h.1 (record { none = past.none; gone = past.gone }) some
stays-past w (Registers r ∷ rs) a h past some = stays-past (step w (Registers r)) rs a h.1 (record { none = past.none; gone = past.gone }) some
stays-past w (Task r ∷ rs) a h past some = stays-past (step w (Task r)) rs a h.1 (record { none = past.none; gone = past.gone }) some
stays-past w (Turn r ∷ rs) a h past some = stays-past (step w (Turn r)) rs a h.1 (record { none = past.none; gone = past.gone }) some
stays-past w (Sharer r ∷ rs) a h past some = stays-past (step w (Sharer r)) rs a h.1 (record { none = past.none; gone = past.gone }) some
stays-past w (Pass r ∷ rs) a h past some = stays-past (step w (Pass r)) rs a h.1 (record { none = past.none; gone = past.gone }) some
stays-past w (CellPool r ∷ rs) a h past some = stays-past (step w (CellPool r)) rs a h.1 (record { none = past.none; gone = past.gone }) some
stays-past w (CellExtent r ∷ rs) a h past some = stays-past (step w (CellExtent r)) rs a h.1 (record { none = past.none; gone = past.gone }) some
stays-past w (Cell r ∷ rs) a h past some = stays-past (step w (Cell r)) rs a h.1 (record { none = past.none; gone = past.gone }) some
stays-past w (Bytes r ∷ rs) a h past some = stays-past (step w (Bytes r)) rs a h.1 (record { none = past.none; gone = past.gone }) some
stays-past w (Obtain r ∷ rs) a h past some = stays-past (step w (Obtain r)) rs a h.1 (record { none = past.none; gone = past.gone }) some

-- A frame that is given in the end was in the tables, was given before, or was brought, and its page is then
-- unassigned.
abbrev CameFrom : Walk → ℕ → Bool → Type 0
CameFrom w a last = (w.state.unassigned (a / 4096) ≡ false) ⊎ (IsSome (w.given a) ⊎ (IsSome (w.brought a) × (last ≡ true)))

came-before : (w : Walk) (r : PagesRecord) (a : ℕ) (last : Bool) → PagesFits w r → (IsPast (pages_step w r) a → last ≡ true) → CameFrom (pages_step w r) a last → CameFrom w a last
came-before w r a last h past later = go (inside (a / 4096) r.run) refl where
  P : Option ℕ → Type 0
  P o = IsSome o

  turned : inside (a / 4096) r.run ≡ true → (b : Bool) → r.assigned ≡ b → CameFrom w a last
  turned its false e = inl (h.other (a / 4096) its ∙ e)
  turned its true e = inr (inr (
    subst P (cond-in r.assigned (w.brought a) (w.state.bytes a) e) (h.frame a its).there,
    past (record {
      none = cond-in (inside (a / 4096) r.run) None (w.brought a) its;
      gone = λ some. absurd (no-byte _ (cond-in (inside (a / 4096) r.run) (if r.assigned then None else w.state.bytes a) (w.given a) its ∙ cond-in r.assigned None (w.state.bytes a) e) some);
    }),
  ))

  go : (b : Bool) → inside (a / 4096) r.run ≡ b → CameFrom w a last
  go true its = turned its r.assigned refl
  go false out = elim later [
    | inl was ↦ inl (sym (cond-out (inside (a / 4096) r.run) (not r.assigned) (w.state.unassigned (a / 4096)) out) ∙ was)
    | inr other ↦ elim other [
      | inl had ↦ inr (inl (subst P (cond-out (inside (a / 4096) r.run) (if r.assigned then None else w.state.bytes a) (w.given a) out) had))
      | inr both ↦ inr (inr (subst P (cond-out (inside (a / 4096) r.run) None (w.brought a) out) both.0, both.1))
    ]
  ]

came-from : (w : Walk) (rs : List Record) (a : ℕ) → FitInTurn w rs → IsSome ((walk w rs).given a) → CameFrom w a ((walk w rs).state.unassigned (a / 4096))
came-from w [] a h some = inr (inl some)
came-from w (Area r ∷ rs) a h some = came-from (step w (Area r)) rs a h.1 some
came-from w (Extent r ∷ rs) a h some = came-from (step w (Extent r)) rs a h.1 some
came-from w (Pages r ∷ rs) a h some =
    came-before w r a _ h.0 (λ past. stays-past (step w (Pages r)) rs a h.1 past some) (came-from (step w (Pages r)) rs a h.1 some)
came-from w (Own r ∷ rs) a h some = came-from (step w (Own r)) rs a h.1 some
came-from w (Queues r ∷ rs) a h some = came-from (step w (Queues r)) rs a h.1 some
came-from w (Register r ∷ rs) a h some = came-from (step w (Register r)) rs a h.1 some
came-from w (Registers r ∷ rs) a h some = came-from (step w (Registers r)) rs a h.1 some
came-from w (Task r ∷ rs) a h some = came-from (step w (Task r)) rs a h.1 some
came-from w (Turn r ∷ rs) a h some = came-from (step w (Turn r)) rs a h.1 some
came-from w (Sharer r ∷ rs) a h some = came-from (step w (Sharer r)) rs a h.1 some
came-from w (Pass r ∷ rs) a h some = came-from (step w (Pass r)) rs a h.1 some
came-from w (CellPool r ∷ rs) a h some = came-from (step w (CellPool r)) rs a h.1 some
came-from w (CellExtent r ∷ rs) a h some = came-from (step w (CellExtent r)) rs a h.1 some
came-from w (Cell r ∷ rs) a h some = came-from (step w (Cell r)) rs a h.1 some
came-from w (Bytes r ∷ rs) a h some = came-from (step w (Bytes r)) rs a h.1 some
came-from w (Obtain r ∷ rs) a h some = came-from (step w (Obtain r)) rs a h.1 some

-- once it was exchanged, a change assigns its frames when it's exchanged again
pub frames_back : (m : StorageState) (d : Change) → Fit m d → AssignsItsFrames m d → AssignsItsFrames (overlay m d) (inverse m d)
frames_back m d fit its a some = elim (came-from (outset m d) d.records a fit.in_turn some) [
  | inl was ↦ ap (λ (s : StorageState). s.unassigned (a / 4096)) (changes_lead_back m d fit).1 ∙ was
  | inr other ↦ elim other [
    | inl had ↦ cc
    | inr both ↦ absurd (true-false ((overlay m d).unassigned (a / 4096)) both.1 (its a both.0))
  ]
]
