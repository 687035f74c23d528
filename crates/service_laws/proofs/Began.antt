-- A new task with its subpool 0 leaves pages, sight and cell pools sound.
use Rattle.std.proofs.Common.{◌≡◌, ◌≢◌, ℕ, ◌≤◌, Bool, true, false, ◌&&◌, ◌==◌, Some, is_some, refl, sym, ◌∙◌, ap, subst, arith, inl, inr}
use Rattle.std.proofs.lemmas.Bool.{cond-true, cond-false, and_from, and_left, or_left, or_right, eqb-true, eq-eqb, cases_Bool, both_ways}
use Rattle.vsm_model.specs.declared.limits.Settings.{Settings}
use Rattle.vsm_model.specs.Search.{holds}
use Rattle.vsm_model.specs.State.{State, is_task}
use Rattle.vsm_model.specs.Subpools.{sees_one, with_sight, with_subpool}
use Rattle.vsm_model.specs.Ending.{climbs}
use Rattle.vsm_model.specs.Tasks.{with_task, with_zero}
use Rattle.vsm_model.specs.WellFormed.{SightIsSound, IsWellFormed}
use Rattle.service_laws.proofs.Subtrees.{zero_is_none, enough}
use Rattle.service_laws.proofs.Depth.{climbs_63}
use Rattle.service_laws.proofs.Attached.{same_parents, climbs_still}
use Rattle.service_laws.proofs.Grown.{StorageIsSound, pages_grown, cell_pools_grown}
use Rattle.service_laws.proofs.SightRows.{RowsAreSound, subpool_rows, sight_rows, owner_seen}

module _ (settings : Settings) (s : State) (w : IsWellFormed settings s) (new : ℕ) (low : 1 ≤ new) (high : new ≤ 64) (free : is_task s new ≡ false) where
  abbrev more : State
  more = with_task s new

  pub there_still : (task : ℕ) → is_task s task ≡ true → is_task more task ≡ true
  there_still task there = ap is_some (same_parents s w.tasks new low high free task there) ∙ there

  pub new_is_there : is_task more new ≡ true
  new_is_there = ap is_some (cond-true (new == new) (Some s.current) (s.parents new) (eq-eqb new new refl))

  was_there : (task : ℕ) → (task == new) ≡ false → is_task more task ≡ true → is_task s task ≡ true
  was_there task other there = sym (ap is_some (cond-false (task == new) (Some s.current) (s.parents task) other)) ∙ there

  -- the new task owns nothing yet
  pub owns_none : (number : ℕ) → s.subpools number new ≡ false
  owns_none number =
      elim (cases_Bool (s.subpools number new)) [
        | inl is ↦ absurd (both_ways (is_task s new) free (w.sight.owner_is_task number new is))
        | inr is ↦ is
      ]

  pub is_not_current : new ≢ s.current
  is_not_current is = both_ways (is_task s new) free (ap (is_task s) is ∙ w.tasks.current_is_task)

  more_rows : RowsAreSound more
  more_rows = record {
    owner_is_task = λ number owner there. there_still owner (w.sight.owner_is_task number owner there);
    owner_sees = w.sight.owner_sees;
    is_private = w.sight.is_private;
    seer_is_task = λ task number owner e. there_still task (w.sight.seer_is_task task number owner e);
    seen_is_there = w.sight.seen_is_there;
  }

  -- a task that sees a subpool 0 still sees it
  seen_zero : (task : ℕ) → (task == new) ≡ false → is_task more task ≡ true →
      (owner : ℕ) × (s.sight task 0 ≡ Some owner) × (climbs more.parents 64 owner task ≡ true)
  seen_zero task other there =
      let (owner, at, above) = w.sight.sees_zero task (was_there task other there) in
      (owner, at, climbs_still s w.tasks new low high free 64 owner task above)

  -- A new task that shares the subpool 0 of the current one,
  zero : ℕ
  zero = (w.sight.sees_zero s.current w.tasks.current_is_task).0

  zero_seen : s.sight s.current 0 ≡ Some zero
  unfolding zero
  zero_seen = (w.sight.sees_zero s.current w.tasks.current_is_task).1

  abbrev sharing : State
  sharing = with_sight more new 0 zero

  sharing_is : with_zero more new true ≡ with_sight more new 0 zero
  sharing_is =
      λ i. with_sight (cond-true (sees_one more 0) more (with_subpool more 0 s.current) (ap is_some zero_seen) i) new 0 (owner_seen more 0 zero zero_seen i)

  -- whose owner is above it in the tree as it is above the current one
  zero_above : climbs more.parents 64 zero new ≡ true
  unfolding zero
  zero_above =
      let above = (w.sight.sees_zero s.current w.tasks.current_is_task).2 in
      let short = enough s.parents w.tasks.root (zero_is_none s w.tasks) zero owner_low 63 64 s.current
      (climbs_63 s w.tasks 64 s.current (w.tasks.below_root s.current w.tasks.current_is_task)) above in
      or_right (new == zero) (holds (climbs more.parents 63 zero) (more.parents new))
      (subst (λ o. holds (climbs more.parents 63 zero) o ≡ true) (sym (cond-true (new == new) (Some s.current) (s.parents new) (eq-eqb new new refl)))
      (climbs_still s w.tasks new low high free 63 zero s.current short))
    where
      owner_low : 1 ≤ zero
      owner_low = (w.tasks.numbered zero (w.sight.owner_is_task 0 zero (w.sight.seen_is_there s.current 0 zero zero_seen))).0

  sharing_rows : RowsAreSound sharing
  sharing_rows = sight_rows more more_rows new 0 zero new_is_there (w.sight.seen_is_there s.current 0 zero zero_seen) (owns_none 0)

  sharing_sight : SightIsSound sharing
  sharing_sight = record {
    owner_is_task = sharing_rows.owner_is_task;
    owner_sees = sharing_rows.owner_sees;
    is_private = sharing_rows.is_private;
    seer_is_task = sharing_rows.seer_is_task;
    seen_is_there = sharing_rows.seen_is_there;
    sees_zero = λ task there. elim (cases_Bool (task == new)) [
      | inl is ↦ (
        zero,
        cond-true ((task == new) && (0 == 0)) (Some zero) (s.sight task 0) (and_from (task == new) (0 == 0) is refl),
        subst (λ t. climbs more.parents 64 zero t ≡ true) (sym (eqb-true task new is)) zero_above,
      )
      | inr other ↦
          let (owner, at, above) = seen_zero task other there in
          (owner, cond-false ((task == new) && (0 == 0)) (Some zero) (s.sight task 0) (and_left (task == new) (0 == 0) other) ∙ at, above)
    ];
  }

  sharing_sound : StorageIsSound settings sharing
  sharing_sound = record {
    pages = pages_grown s more.parents s.subpools sharing.sight (λ number owner at. at) settings w.pages;
    sight = sharing_sight;
    cell_pools = cell_pools_grown s more.parents s.subpools sharing.sight (λ number owner at. at) w.cell_pools;
  }

  -- and one that has a subpool 0 of its own.
  abbrev owning : State
  owning = with_subpool more 0 new

  owning_rows : RowsAreSound owning
  owning_rows = subpool_rows more more_rows 0 new new_is_there (omega arith)

  owning_sight : SightIsSound owning
  owning_sight = record {
    owner_is_task = owning_rows.owner_is_task;
    owner_sees = owning_rows.owner_sees;
    is_private = owning_rows.is_private;
    seer_is_task = owning_rows.seer_is_task;
    seen_is_there = owning_rows.seen_is_there;
    sees_zero = λ task there. elim (cases_Bool (task == new)) [
      | inl is ↦ (
        new,
        cond-true ((task == new) && (0 == 0)) (Some new) (s.sight task 0) (and_from (task == new) (0 == 0) is refl),
        or_left (task == new) _ is,
      )
      | inr other ↦
          let (owner, at, above) = seen_zero task other there in
          (owner, cond-false ((task == new) && (0 == 0)) (Some new) (s.sight task 0) (and_left (task == new) (0 == 0) other) ∙ at, above)
    ];
  }

  owning_sound : StorageIsSound settings owning
  owning_sound = record {
    pages = pages_grown s more.parents owning.subpools owning.sight (λ number owner at. or_right ((number == 0) && (owner == new)) (s.subpools number owner) at) settings w.pages;
    sight = owning_sight;
    cell_pools = cell_pools_grown s more.parents owning.subpools owning.sight (λ number owner at. or_right ((number == 0) && (owner == new)) (s.subpools number owner) at) w.cell_pools;
  }

  pub began_sound : (shares : Bool) → StorageIsSound settings (with_zero (with_task s new) new shares)
  began_sound true = subst (StorageIsSound settings) (sym sharing_is) sharing_sound
  began_sound false = owning_sound
