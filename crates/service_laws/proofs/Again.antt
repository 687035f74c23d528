-- The cell that was freed last is handed out first.
use Rattle.std.proofs.Common.{◌≡◌, ℕ, suc, false, List, [], ◌∷◌, length, sym, ◌∙◌, ap, arith, inl, inr}
use Rattle.std.specs.Prelude.{unwrap_or}
use Rattle.std.proofs.lemmas.Bool.{ne_eqb, cond-false}
use Rattle.vsm_model.specs.declared.replies.Reply.TheVariants.{Cell}
use Rattle.vsm_model.specs.CellPools.{CellPool, cell_pool_in, with_extent}
use Rattle.vsm_model.specs.State.{State}
use Rattle.vsm_model.specs.Services.{get}
use Rattle.vsm_model.specs.Standing.{Accepted}
use Rattle.vsm_model.specs.Causes.{first_cause}
use Rattle.vsm_model.specs.Registers.{registers_set}
use Rattle.vsm_model.specs.Cells.{no_pool, pool_of, has_no_cell, extent_place, extent_at, with_extent_area, handed_out, got, get_causes}
use Rattle.vsm_model.specs.Step.{replied, answered}
use Rattle.vsm_model.proofs.Registered.{words_alone}
use Rattle.service_laws.specs.InUse.{LastFreedIsFirst}
use Rattle.service_laws.proofs.CellTables.{put_found, same_pool}
use Rattle.service_laws.proofs.Answered.{state_is, reply_is}
use Rattle.service_laws.proofs.Promised.{answered_four, has_no_free_cell, free_makes_a_cell_free}

not_empty : (cell : ℕ) (rest : List ℕ) → ◌≡◌ {A = List ℕ} (cell ∷ rest) [] → ⊥
not_empty cell rest e = cc

pub last_freed_is_first : LastFreedIsFirst
last_freed_is_first settings names_full names_full_2 s t u name cell g reply reply_2 e f =
    let h = (free_makes_a_cell_free settings names_full s t name cell reply e).0 in
    let pool : CellPool = record h.pool { free = cell ∷ h.pool.free } in
    let its : pool_of t name ≡ pool = ap (λ o. unwrap_or o no_pool) h.after in
    elim (answered_four settings t (get name g) (first_cause (get_causes settings names_full_2 t name g)) u reply_2 f) [
      | inr one ↦
          let (q, seen, none) = has_no_free_cell settings names_full_2 t name g one.0 one.1 one.2 in
          let same : q ≡ pool = same_pool q pool (sym seen.found ∙ h.after) in
          absurd (not_empty cell h.pool.free (sym (ap (λ (p : CellPool). p.free) same) ∙ none))
      | inl none ↦
          let done : replied (get name g) (got settings t name) ≡ Accepted u reply_2 = sym (ap (answered settings t (get name g)) none) ∙ f in
          let some : has_no_cell (pool_of t name) ≡ false =
          ap has_no_cell its ∙ ne_eqb (suc (length h.pool.free)) 0 (λ zero. omega (arith, zero)) in
          let first : got settings t name ≡ handed_out t name (pool_of t name) =
          cond-false (has_no_cell (pool_of t name))
          (handed_out (with_extent_area t (pool_of t name) (pool_of t name).secondary (extent_place settings t (pool_of t name) (pool_of t name).secondary)) name
          (with_extent (pool_of t name) (extent_at (extent_place settings t (pool_of t name) (pool_of t name).secondary) (pool_of t name).secondary)))
          (handed_out t name (pool_of t name)) some in
          let is : got settings t name ≡ handed_out t name pool = first ∙ ap (handed_out t name) its in
          let out : replied (get name g) (handed_out t name pool) ≡ Accepted u reply_2 = sym (ap (replied (get name g)) is) ∙ done in
          let after : State = (handed_out t name pool).0 in (
            sym (reply_is (get name g) (handed_out t name pool) u reply_2 out),
            ap (λ (v : State). cell_pool_in v.cell_pools name) (sym (state_is (get name g) (handed_out t name pool) u reply_2 out))
                ∙ ap (λ (v : State). cell_pool_in v.cell_pools name) (words_alone (registers_set (get name g) (Cell cell)) after)
                ∙ put_found t.cell_pools name h.pool ∙ sym h.before.found,
          )
    ]
