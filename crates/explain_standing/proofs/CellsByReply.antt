-- A service puts only the cell in use that its reply gives.
use Rattle.std.proofs.Common.{◌≡◌, ◌≢◌, ◌⊎◌, ℕ, Bool, true, false, not, ◌&&◌, ◌==◌, if◌then◌else◌, Option, List, [], ◌∷◌, refl, sym, ap, ◌∙◌, inl, inr, true≢false}
use Rattle.std.specs.Prelude.{unwrap_or}
use Rattle.std.specs.Ordering.{eq_by_cmp}
use Rattle.std.proofs.lemmas.Bool.{cases_Bool, false_from_ne_true}
use Rattle.std.proofs.lemmas.List.{append-nil}
use Rattle.vsm_model.specs.declared.limits.Settings.{Settings}
use Rattle.vsm_model.specs.declared.replies.Reply.{Reply}
use Rattle.vsm_model.specs.declared.replies.Reply.TheVariants.{Obtained, Returned, Cell, Attached, Turn, Stored}
use Rattle.vsm_model.specs.declared.services.Attach.{Attach}
use Rattle.vsm_model.specs.declared.services.Build.{Build}
use Rattle.vsm_model.specs.declared.services.Get.{Get}
use Rattle.vsm_model.specs.declared.services.Obtain.{Obtain}
use Rattle.vsm_model.specs.Areas.{Place}
use Rattle.vsm_model.specs.CellPools.{CellPool, CellPools, extent_cells, extent_doublewords, with_cell_pool, with_extent}
use Rattle.vsm_model.specs.Cells.{built, extent_at, extent_place, handed_out, has_no_cell, is_in_use, new_pool, pool_of, with_extent_area}
use Rattle.vsm_model.specs.Ending.{is_in_subtree}
use Rattle.vsm_model.specs.Obtaining.{longest, place_for}
use Rattle.vsm_model.specs.Passing.{handed_on, numbers_in, with_gift, with_gifts}
use Rattle.vsm_model.specs.Search.{is_in}
use Rattle.vsm_model.specs.Services.{Service, obtain, release, whole, attach, detach, end_task, run, store, build, get, free, delete}
use Rattle.vsm_model.specs.Standing.{Accepted, reply_in}
use Rattle.vsm_model.specs.State.{State}
use Rattle.vsm_model.specs.Step.{effect, step}
use Rattle.vsm_model.specs.Subpools.{same_subpool, seen_or_own, with_own}
use Rattle.vsm_model.specs.Tasks.{attached, free_number, with_task, with_zero}
use Rattle.vsm_model.specs.WellFormed.{IsWellFormed}
use Rattle.vsm_model.proofs.Chosen.{accepted_has_its_effect}
use Rattle.service_laws.proofs.Apart.{handed_out_was_not_in_use}
use Rattle.service_laws.proofs.CellStays.{own_table, shares_table, zero_table}
use Rattle.service_laws.proofs.CellTables.{order}
use Rattle.service_laws.proofs.Placed.{area_table}
use Rattle.explain_standing.specs.Newly.{CellIsInTheReply}
use Rattle.explain_standing.specs.Since.{is_cell_in_use}
use Rattle.explain_standing.proofs.Effects.{held_by_effect, same_reply}
use Rattle.explain_standing.proofs.UsedCells.{first_free, named_used, used, used_after, used_freed, used_grown, used_in, used_less, used_named, used_put, used_same, without_first}

-- the cell is in use only if it was before, or the reply gives it
abbrev IsGiven : State → State → Reply → ℕ → Type 0
IsGiven s t reply cell =
    is_cell_in_use t cell ≡ true →
    ((reply ≡ Cell cell) × (is_cell_in_use s cell ≡ false))
    ⊎ (is_cell_in_use s cell ≡ true) × ((address : ℕ) → reply ≡ Cell address → address ≢ cell)

abbrev pub is_cell : Reply → Bool
is_cell (Cell address) = true
is_cell (Obtained address length) = false
is_cell (Returned code) = false
is_cell (Attached task) = false
is_cell (Turn task) = false
is_cell Stored = false

module _ (settings : Settings) (names_full : Bool) (s t : State) (reply : Reply) (cell : ℕ) where
  -- A service whose effect puts no cell in use, and whose reply gives none.
  none_given : (x : Service) → step settings names_full s x ≡ Accepted t reply → is_cell (effect settings s x).1 ≡ false →
      (used (effect settings s x).0.cell_pools cell ≡ true → used s.cell_pools cell ≡ true) → IsGiven s t reply cell
  none_given x e quiet less now =
      elim (held_by_effect (λ u. is_cell_in_use u cell) (λ u register word. refl) settings names_full s t x reply e now) [
        | inl (after, is) ↦ inr (less after, λ address gives same. true≢false (ap is_cell (sym gives ∙ is) ∙ quiet))
        | inr (before, is) ↦ inr (before, λ address gives same. true≢false (ap is_cell (sym gives ∙ is)))
      ]

  same_table : (x : Service) → step settings names_full s x ≡ Accepted t reply → is_cell (effect settings s x).1 ≡ false →
      (effect settings s x).0.cell_pools ≡ s.cell_pools → IsGiven s t reply cell
  same_table x e quiet same = none_given x e quiet (λ now. ap (λ (p : CellPools). used p cell) (sym same) ∙ now)

  -- ---- the services

  of_obtain : (o : Obtain) → step settings names_full s (obtain o) ≡ Accepted t reply → IsGiven s t reply cell
  of_obtain o e =
      let count : ℕ = unwrap_or (longest settings s o) 0 in
      same_table (obtain o) e refl
      (area_table (with_own s o.number) (seen_or_own s o.number) count (place_for settings s o count) ∙ own_table [] cell s o.number)

  used_gifts : (numbers : List ℕ) (u : State) (task : ℕ) → used (with_gifts u task numbers).cell_pools cell ≡ used u.cell_pools cell
  used_gifts [] u task = refl
  used_gifts (number ∷ numbers) u task =
      used_gifts numbers (with_gift u u.current task number) task
      ∙ used_same (λ p. record p { subpool = handed_on number u.current task p.subpool }) cell (λ p. refl) u.cell_pools

  of_attach : (a : Attach) → step settings names_full s (attach a) ≡ Accepted t reply → IsGiven s t reply cell
  of_attach a e =
      let task : ℕ = unwrap_or (free_number s) 0 in
      let began : State = with_zero (with_task s task) task a.shares_zero in
      let given : List ℕ = unwrap_or (numbers_in s a.given) [] in
      let all : used (attached s a).0.cell_pools cell ≡ used s.cell_pools cell =
      ap (λ (p : CellPools). used p cell) (shares_table [] cell (unwrap_or (numbers_in s a.shared) []) (with_gifts began task given) task)
      ∙ used_gifts given began task ∙ ap (λ (p : CellPools). used p cell) (zero_table [] cell (with_task s task) task a.shares_zero) in
      none_given (attach a) e refl (λ now. sym all ∙ now)

  module _ (name : List ℕ) (header : Option (List ℕ)) (b : Build) where
    abbrev pool : CellPool
    pool = new_pool settings s header b

    abbrev goes : Place
    goes = extent_place settings s pool b.primary

    abbrev cells : List ℕ
    cells = extent_cells pool.size (extent_at goes b.primary)

    same : (c : Bool) → (c && not c) ≡ false
    same true = refl
    same false = refl

    none : is_in_use (with_extent pool (extent_at goes b.primary)) cell ≡ false
    none = ap (λ xs. is_in xs cell && not (is_in cells cell)) (append-nil cells) ∙ same (is_in cells cell)

    table : (with_extent_area (with_own s b.number) pool b.primary goes).cell_pools ≡ s.cell_pools
    table = area_table (with_own s b.number) pool.subpool (extent_doublewords pool b.primary) goes ∙ own_table [] cell s b.number

    less : used (built settings s name header b).0.cell_pools cell ≡ true → used s.cell_pools cell ≡ true
    less now = elim (used_put (with_extent_area (with_own s b.number) pool b.primary goes).cell_pools name (with_extent pool (extent_at goes b.primary)) cell now) [
      | inl new ↦ absurd (true≢false (sym new ∙ none))
      | inr old ↦ ap (λ (p : CellPools). used p cell) (sym table) ∙ old
    ]

    of_build : step settings names_full s (build name header b) ≡ Accepted t reply → IsGiven s t reply cell
    of_build e = none_given (build name header b) e refl less

  of_free : (name : List ℕ) (back : ℕ) → step settings names_full s (free name back) ≡ Accepted t reply → IsGiven s t reply cell
  of_free name back e = none_given (free name back) e refl
      (λ now. elim (used_put s.cell_pools name (record (pool_of s name) { free = back ∷ (pool_of s name).free }) cell now) [
        | inl new ↦ used_in s.cell_pools name cell (used_freed (pool_of s name) back cell new)
        | inr old ↦ old
      ])

  -- ---- a GET

  module _ (name : List ℕ) (g : Get) (w : IsWellFormed settings s) (e : step settings names_full s (get name g) ≡ Accepted t reply) where
    abbrev its_pool : CellPool
    its_pool = pool_of s name

    abbrev IsFirstOrOld : ℕ → Type 0
    IsFirstOrOld first = (first ≡ cell) ⊎ (used s.cell_pools cell ≡ true)

    from_table : (table : CellPools) (p : CellPool) → table ≡ s.cell_pools → (is_in_use p cell ≡ true → used s.cell_pools cell ≡ true) →
        used (with_cell_pool table name (without_first p)) cell ≡ true → IsFirstOrOld (first_free p)
    from_table table p same before now = elim (used_put table name (without_first p) cell now) [
      | inl new ↦ elim (used_after p cell new) [
        | inl first ↦ inl first
        | inr old ↦ inr (before old)
      ]
      | inr old ↦ inr (ap (λ (q : CellPools). used q cell) (sym same) ∙ old)
    ]

    abbrev further_goes : Place
    further_goes = extent_place settings s its_pool its_pool.secondary

    abbrev further : CellPool
    further = with_extent its_pool (extent_at further_goes its_pool.secondary)

    -- what the effect gives
    handed : (none : Bool) (r : Reply) →
        used (if none then handed_out (with_extent_area s its_pool its_pool.secondary further_goes) name further else handed_out s name its_pool).0.cell_pools cell ≡ true →
        r ≡ (if none then handed_out (with_extent_area s its_pool its_pool.secondary further_goes) name further else handed_out s name its_pool).1 →
        (first : ℕ) × (r ≡ Cell first) × IsFirstOrOld first
    handed true r now is = (
      first_free further,
      is,
      from_table (with_extent_area s its_pool its_pool.secondary further_goes).cell_pools further
          (area_table s its_pool.subpool (extent_doublewords its_pool its_pool.secondary) further_goes)
          (λ its. used_in s.cell_pools name cell (used_grown its_pool (extent_at further_goes its_pool.secondary) cell its)) now,
    )
    handed false r now is = (first_free its_pool, is, from_table s.cell_pools its_pool refl (λ its. used_in s.cell_pools name cell its) now)

    -- The cell that it gives wasn't in use.
    was_not : (address : ℕ) → reply ≡ Cell address → is_cell_in_use s address ≡ false
    was_not address gives =
        false_from_ne_true (is_cell_in_use s address)
        (λ before.
        let (other, busy) = named_used s.cell_pools address w.cell_pools.ascending before in
        (handed_out_was_not_in_use settings names_full s t name g address w (e ∙ ap (Accepted t) gives)).0 other busy)

    of_get : IsGiven s t reply cell
    of_get now = elim (held_by_effect (λ u. is_cell_in_use u cell) (λ u register word. refl) settings names_full s t (get name g) reply e now) [
      | inr (before, is) ↦ inr (before, λ address gives same. true≢false (ap is_cell (sym gives ∙ is)))
      | inl (after, is) ↦
          let (first, gives, which) = handed (has_no_cell its_pool) reply after is in
          elim (cases_Bool (is_cell_in_use s cell)) [
            | inl before ↦ inr (before, λ address told same. true≢false (sym before ∙ ap (is_cell_in_use s) (sym same) ∙ was_not address told))
            | inr not_before ↦ elim which [
              | inl this ↦ inl (gives ∙ ap Cell this, not_before)
              | inr old ↦ absurd (true≢false (sym old ∙ not_before))
            ]
          ]
    ]

pub cell_is_in_the_reply : CellIsInTheReply
cell_is_in_the_reply settings names_full s t (obtain o) reply valid w e cell = of_obtain settings names_full s t reply cell o e
cell_is_in_the_reply settings names_full s t (release r) reply valid w e cell = same_table settings names_full s t reply cell (release r) e refl refl
cell_is_in_the_reply settings names_full s t (whole number) reply valid w e cell =
    none_given settings names_full s t reply cell (whole number) e refl (used_less (λ row. not (same_subpool (seen_or_own s number) row.1.subpool)) s.cell_pools cell)
cell_is_in_the_reply settings names_full s t (attach a) reply valid w e cell = of_attach settings names_full s t reply cell a e
cell_is_in_the_reply settings names_full s t (detach task) reply valid w e cell =
    none_given settings names_full s t reply cell (detach task) e refl (used_less (λ row. not (is_in_subtree s task row.1.subpool.owner)) s.cell_pools cell)
cell_is_in_the_reply settings names_full s t end_task reply valid w e cell =
    none_given settings names_full s t reply cell end_task e refl (used_less (λ row. not (row.1.subpool.owner == s.current)) s.cell_pools cell)
cell_is_in_the_reply settings names_full s t (run task) reply valid w e cell = same_table settings names_full s t reply cell (run task) e refl refl
cell_is_in_the_reply settings names_full s t (store address bytes) reply valid w e cell = same_table settings names_full s t reply cell (store address bytes) e refl refl
cell_is_in_the_reply settings names_full s t (build name header b) reply valid w e cell = of_build settings names_full s t reply cell name header b e
cell_is_in_the_reply settings names_full s t (get name g) reply valid w e cell = of_get settings names_full s t reply cell name g w e
cell_is_in_the_reply settings names_full s t (free name back) reply valid w e cell = of_free settings names_full s t reply cell name back e
cell_is_in_the_reply settings names_full s t (delete name) reply valid w e cell =
    none_given settings names_full s t reply cell (delete name) e refl (used_less (λ row. not (eq_by_cmp order name row.0)) s.cell_pools cell)

-- The cell that a reply gives is in use.
pub given_is_used : (settings : Settings) (names_full : Bool) (s t : State) (x : Service) (reply : Reply) (address : ℕ) → IsWellFormed settings s → step settings names_full s x ≡ Accepted t reply →
    reply ≡ Cell address → is_cell_in_use t address ≡ true
given_is_used settings names_full s t x reply address w e gives = go x (e ∙ ap (Accepted t) gives) where
  not_so : (y : Service) → step settings names_full s y ≡ Accepted t (Cell address) → is_cell (effect settings s y).1 ≡ false → is_cell_in_use t address ≡ true
  not_so y f quiet = elim (accepted_has_its_effect settings names_full s t y (Cell address) f) [
    | inl has ↦ absurd (true≢false (ap is_cell (same_reply (effect settings s y).1 (Cell address) (ap reply_in has.1)) ∙ quiet))
    | inr four ↦ absurd (true≢false (ap is_cell four.1))
  ]

  go : (y : Service) → step settings names_full s y ≡ Accepted t (Cell address) → is_cell_in_use t address ≡ true
  go (get name g) f =
      let (pool, found, its) = (handed_out_was_not_in_use settings names_full s t name g address w f).1 in
      used_named t.cell_pools name pool address found its
  go (obtain o) f = not_so (obtain o) f refl
  go (release r) f = not_so (release r) f refl
  go (whole number) f = not_so (whole number) f refl
  go (attach a) f = not_so (attach a) f refl
  go (detach task) f = not_so (detach task) f refl
  go end_task f = not_so end_task f refl
  go (run task) f = not_so (run task) f refl
  go (store to bytes) f = not_so (store to bytes) f refl
  go (build name header b) f = not_so (build name header b) f refl
  go (free name back) f = not_so (free name back) f refl
  go (delete name) f = not_so (delete name) f refl
