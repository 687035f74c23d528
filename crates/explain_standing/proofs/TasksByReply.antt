-- A service makes only the task that its reply gives.
use Rattle.std.proofs.Common.{◌≡◌, ◌≢◌, ◌⊎◌, ℕ, Bool, true, false, ◌==◌, ◌/◌, if◌then◌else◌, Option, None, is_some, List, [], ◌∷◌, refl, sym, ap, ◌∙◌, inl, inr, true≢false}
use Rattle.std.specs.Prelude.{unwrap_or}
use Rattle.std.proofs.lemmas.Bool.{cases_eq}
use Rattle.vsm_model.specs.declared.Subpool.{Subpool}
use Rattle.vsm_model.specs.declared.limits.Settings.{Settings}
use Rattle.vsm_model.specs.declared.replies.Reply.{Reply}
use Rattle.vsm_model.specs.declared.replies.Reply.TheVariants.{Obtained, Returned, Cell, Attached, Turn, Stored}
use Rattle.vsm_model.specs.declared.services.Attach.{Attach}
use Rattle.vsm_model.specs.declared.services.Build.{Build}
use Rattle.vsm_model.specs.declared.services.Get.{Get}
use Rattle.vsm_model.specs.declared.services.Obtain.{Obtain}
use Rattle.vsm_model.specs.Areas.{Place, Inside, Fresh, Nowhere}
use Rattle.vsm_model.specs.CellPools.{CellExtent, CellPool, extent_doublewords}
use Rattle.vsm_model.specs.Cells.{extent_at, extent_place, handed_out, has_no_cell, new_pool, pool_of, with_extent_area, without_extents}
use Rattle.vsm_model.specs.CellPools.{with_extent}
use Rattle.vsm_model.specs.Ending.{is_in_subtree}
use Rattle.vsm_model.specs.Obtaining.{longest, place_for, with_area}
use Rattle.vsm_model.specs.Releasing.{without_area}
use Rattle.vsm_model.specs.Services.{Service, obtain, release, whole, attach, detach, end_task, run, store, build, get, free, delete}
use Rattle.vsm_model.specs.Standing.{Accepted}
use Rattle.vsm_model.specs.State.{State, is_task}
use Rattle.vsm_model.specs.Step.{effect, step}
use Rattle.vsm_model.specs.Subpools.{seen_or_own, with_own}
use Rattle.vsm_model.specs.WellFormed.{IsWellFormed}
use Rattle.service_laws.proofs.Building.{own_alone}
use Rattle.service_laws.proofs.IsAttached.{attach_makes_a_task}
use Rattle.explain_standing.specs.Newly.{TaskIsInTheReply}
use Rattle.explain_standing.proofs.Effects.{held_by_effect}

-- the task exists only if it did before, or the reply gives it
abbrev IsBegun : State → State → Reply → ℕ → Type 0
IsBegun s t reply task =
    is_task t task ≡ true →
    ((reply ≡ Attached task) × (is_task s task ≡ false))
    ⊎ (is_task s task ≡ true) × ((other : ℕ) → reply ≡ Attached other → other ≢ task)

abbrev is_attached : Reply → Bool
is_attached (Attached task) = true
is_attached (Cell address) = false
is_attached (Obtained address length) = false
is_attached (Returned code) = false
is_attached (Turn task) = false
is_attached Stored = false

same_task : (a b : ℕ) → ◌≡◌ {A = Reply} (Attached a) (Attached b) → a ≡ b
same_task a b e = cc

-- ---- parents that stay

own_parents : (s : State) (number : ℕ) → (with_own s number).parents ≡ s.parents
own_parents s number = ap (λ (u : State). u.parents) (own_alone s number)

area_parents : (s : State) (p : Subpool) (count : ℕ) (goes : Place) → (with_area s p count goes).parents ≡ s.parents
area_parents s p count (Inside d) = refl
area_parents s p count (Fresh page) = refl
area_parents s p count Nowhere = refl

extents_parents : (s : State) (pool : CellPool) (xs : List CellExtent) → (without_extents s pool xs).parents ≡ s.parents
extents_parents s pool [] = refl
extents_parents s pool (x ∷ xs) = extents_parents (without_area s pool.subpool (x.address / 8) (extent_doublewords pool x.cells)) pool xs

-- some tasks are gone
left : (gone : Bool) (o : Option ℕ) → is_some (if gone then None else o) ≡ true → is_some o ≡ true
left true o e = absurd (true≢false (sym e))
left false o e = e

module _ (settings : Settings) (names_full : Bool) (s t : State) (reply : Reply) (task : ℕ) where
  -- A service whose effect makes no task, and whose reply gives none.
  none_begun : (x : Service) → step settings names_full s x ≡ Accepted t reply → is_attached (effect settings s x).1 ≡ false →
      (is_task (effect settings s x).0 task ≡ true → is_task s task ≡ true) → IsBegun s t reply task
  none_begun x e quiet less now =
      elim (held_by_effect (λ u. is_task u task) (λ u register word. refl) settings names_full s t x reply e now) [
        | inl (after, is) ↦ inr (less after, λ other gives same. true≢false (ap is_attached (sym gives ∙ is) ∙ quiet))
        | inr (before, is) ↦ inr (before, λ other gives same. true≢false (ap is_attached (sym gives ∙ is)))
      ]

  same_parents : (x : Service) → step settings names_full s x ≡ Accepted t reply → is_attached (effect settings s x).1 ≡ false →
      (effect settings s x).0.parents ≡ s.parents → IsBegun s t reply task
  same_parents x e quiet same = none_begun x e quiet (λ now. ap (λ (p : ℕ → Option ℕ). is_some (p task)) (sym same) ∙ now)

  of_obtain : (o : Obtain) → step settings names_full s (obtain o) ≡ Accepted t reply → IsBegun s t reply task
  of_obtain o e =
      let count : ℕ = unwrap_or (longest settings s o) 0 in
      same_parents (obtain o) e refl
      (area_parents (with_own s o.number) (seen_or_own s o.number) count (place_for settings s o count) ∙ own_parents s o.number)

  of_build : (name : List ℕ) (header : Option (List ℕ)) (b : Build) → step settings names_full s (build name header b) ≡ Accepted t reply → IsBegun s t reply task
  of_build name header b e =
      let pool : CellPool = new_pool settings s header b in
      same_parents (build name header b) e refl
      (area_parents (with_own s b.number) pool.subpool (extent_doublewords pool b.primary) (extent_place settings s pool b.primary) ∙ own_parents s b.number)

  module _ (name : List ℕ) (g : Get) where
    abbrev pool : CellPool
    pool = pool_of s name

    abbrev goes : Place
    goes = extent_place settings s pool pool.secondary

    quiet : (none : Bool) →
        is_attached (if none then handed_out (with_extent_area s pool pool.secondary goes) name (with_extent pool (extent_at goes pool.secondary)) else handed_out s name pool).1 ≡ false
    quiet true = refl
    quiet false = refl

    same : (none : Bool) →
        (if none then handed_out (with_extent_area s pool pool.secondary goes) name (with_extent pool (extent_at goes pool.secondary)) else handed_out s name pool).0.parents ≡ s.parents
    same true = area_parents s pool.subpool (extent_doublewords pool pool.secondary) goes
    same false = refl

    of_get : step settings names_full s (get name g) ≡ Accepted t reply → IsBegun s t reply task
    of_get e = same_parents (get name g) e (quiet (has_no_cell pool)) (same (has_no_cell pool))

  of_attach : (a : Attach) → IsWellFormed settings s → step settings names_full s (attach a) ≡ Accepted t reply → IsBegun s t reply task
  of_attach a w e now =
      let (new, is, gives) = attach_makes_a_task settings names_full s t a reply w e in
      elim (cases_eq task new) [
        | inl this ↦ inl (gives ∙ ap Attached (sym this), ap (is_task s) this ∙ is.was_none)
        | inr another ↦ inr (
          ap is_some (sym (is.other_tasks task another)) ∙ now,
          λ other told same. another (sym same ∙ same_task other new (sym told ∙ gives)),
        )
      ]

pub task_is_in_the_reply : TaskIsInTheReply
task_is_in_the_reply settings names_full s t (obtain o) reply valid w e task = of_obtain settings names_full s t reply task o e
task_is_in_the_reply settings names_full s t (release r) reply valid w e task = same_parents settings names_full s t reply task (release r) e refl refl
task_is_in_the_reply settings names_full s t (whole number) reply valid w e task = same_parents settings names_full s t reply task (whole number) e refl refl
task_is_in_the_reply settings names_full s t (attach a) reply valid w e task = of_attach settings names_full s t reply task a w e
task_is_in_the_reply settings names_full s t (detach top) reply valid w e task =
    none_begun settings names_full s t reply task (detach top) e refl (left (is_in_subtree s top task) (s.parents task))
task_is_in_the_reply settings names_full s t end_task reply valid w e task =
    none_begun settings names_full s t reply task end_task e refl (left (task == s.current) (s.parents task))
task_is_in_the_reply settings names_full s t (run next) reply valid w e task = same_parents settings names_full s t reply task (run next) e refl refl
task_is_in_the_reply settings names_full s t (store address bytes) reply valid w e task = same_parents settings names_full s t reply task (store address bytes) e refl refl
task_is_in_the_reply settings names_full s t (build name header b) reply valid w e task = of_build settings names_full s t reply task name header b e
task_is_in_the_reply settings names_full s t (get name g) reply valid w e task = of_get settings names_full s t reply task name g e
task_is_in_the_reply settings names_full s t (free name cell) reply valid w e task = same_parents settings names_full s t reply task (free name cell) e refl refl
task_is_in_the_reply settings names_full s t (delete name) reply valid w e task =
    same_parents settings names_full s t reply task (delete name) e refl (extents_parents s (pool_of s name) (pool_of s name).extents)
