-- After a GET no other one hands out the same cell.
use Rattle.std.proofs.Common.{◌≡◌, ◌≢◌, ℕ, Bool, Option, Some, None, List, [], ◌∷◌, sym, ◌∙◌, subst, inl, inr}
use Rattle.std.specs.Prelude.{All}
use Rattle.std.proofs.lemmas.List.Elements.{All-head, All-tail}
use Rattle.vsm_model.specs.declared.limits.Settings.{Settings}
use Rattle.vsm_model.specs.CellPools.{CellPool}
use Rattle.vsm_model.specs.State.{State}
use Rattle.vsm_model.specs.Services.{Service, free}
use Rattle.vsm_model.specs.WellFormed.{IsWellFormed}
use Rattle.service_laws.specs.InUse.{IsInUse, Follow, HasPool, NoCellIsHandedOutTwice}
use Rattle.service_laws.proofs.Apart.{handed_out_was_not_in_use}
use Rattle.service_laws.proofs.CellStays.{stays_in_use}

none_is_not : (p : CellPool) → ◌≡◌ {A = Option CellPool} None (Some p) → ⊥
none_is_not p e = cc

-- a cell in use is in use after services that neither free it nor end its cell pool
still_in_use : (settings : Settings) (name : List ℕ) (cell : ℕ) (xs : List (Bool × Service)) (s t : State) → IsWellFormed settings s →
    IsInUse s.cell_pools name cell → Follow settings (HasPool settings name) s xs t → All (λ x. x.1 ≢ free name cell) xs →
    IsWellFormed settings t × IsInUse t.cell_pools name cell
still_in_use settings name cell [] s t w busy same others =
    subst (λ t. IsWellFormed settings t × IsInUse t.cell_pools name cell) (sym same) (w, busy)
still_in_use settings name cell (x ∷ xs) s t w busy (next, reply, e, has, rest) others =
    let after : IsInUse next.cell_pools name cell =
    elim (stays_in_use settings x.0 s next x.1 reply name cell w e busy) [
      | inl still ↦ still
      | inr ends ↦ elim ends [
        | inl freed ↦ absurd (All-head (λ x. x.1 ≢ free name cell) x xs others freed)
        | inr gone ↦ absurd (none_is_not has.1.0 (sym gone.1 ∙ has.1.1))
      ]
    ] in
    still_in_use settings name cell xs next t has.0 after rest (All-tail (λ x. x.1 ≢ free name cell) x xs others)

pub no_cell_is_handed_out_twice : NoCellIsHandedOutTwice
no_cell_is_handed_out_twice settings names_full names_full_2 s t u v name other g h cell between w x e follow others f =
    let first = handed_out_was_not_in_use settings names_full s t name g cell w e in
    let kept = still_in_use settings name cell between t u x first.1 follow others in
    (handed_out_was_not_in_use settings names_full_2 u v other h cell kept.0 f).0 name kept.1
