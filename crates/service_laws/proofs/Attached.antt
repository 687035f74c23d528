-- ATTACH leaves tasks sound.
use Rattle.std.proofs.Common.{◌≡◌, ℕ, zero, suc, ◌≤◌, Bool, true, false, not, ◌==◌, if◌then◌else◌, ◌++◌, Option, Some, None, List, [], ◌∷◌, is_some, refl, sym, ◌∙◌, ap, subst, arith, inl, inr, true≢false}
use Rattle.std.specs.Prelude.{unwrap_or, is_none}
use Rattle.std.specs.List.{list_any}
use Rattle.std.proofs.lemmas.Bool.{cond-true, cond-false, or_cases, or_left, or_right, eqb-true, eq-eqb, cases_Bool, both_ways, not-true}
use Rattle.vsm_model.specs.declared.causes.Cause.TheVariants.{NotAssigned, BadList, NotOwner, TooManyTasks}
use Rattle.vsm_model.specs.declared.services.Attach.{Attach}
use Rattle.vsm_model.specs.Search.{holds, IsLeastAmong}
use Rattle.vsm_model.specs.State.{State, is_task}
use Rattle.vsm_model.specs.Subpools.{with_subpool, sees_one, with_own, with_sight, seen_or_own}
use Rattle.vsm_model.specs.Causes.{Causes, first_cause}
use Rattle.vsm_model.specs.Passing.{numbers_in, is_bad_list, is_anothers, with_gift, with_gifts, with_share, with_shares}
use Rattle.vsm_model.specs.Ending.{climbs}
use Rattle.vsm_model.specs.Tasks.{attach_causes, attached, free_number, with_task, with_zero}
use Rattle.vsm_model.specs.WellFormed.{TasksAreSound}
use Rattle.vsm_model.proofs.Chosen.{past}
use Rattle.vsm_model.proofs.Least.{least_among}
use Rattle.service_laws.proofs.Depth.{climbs_63}

module _ (s : State) (w : TasksAreSound s) (new : ℕ) (low : 1 ≤ new) (high : new ≤ 64) (free : is_task s new ≡ false) where
  -- a task that exists isn't the new one
  other : (t : ℕ) → is_task s t ≡ true → (t == new) ≡ false
  other t there =
      elim (cases_Bool (t == new)) [
        | inl is ↦ absurd (both_ways (is_task s t) (ap (is_task s) (eqb-true t new is) ∙ free) there)
        | inr is_not ↦ is_not
      ]

  pub same_parents : (t : ℕ) → is_task s t ≡ true → (with_task s new).parents t ≡ s.parents t
  same_parents t there = cond-false (t == new) (Some s.current) (s.parents t) (other t there)

  pub climbs_still : (n top t : ℕ) → climbs s.parents n top t ≡ true → climbs (with_task s new).parents n top t ≡ true
  climbs_still zero top t e = e
  climbs_still (suc n) top t e =
      elim (or_cases (t == top) (holds (climbs s.parents n top) (s.parents t)) e) [
        | inl is ↦ or_left (t == top) _ is
        | inr up ↦ or_right (t == top) _ (elim (s.parents t) as (λ o. s.parents t ≡ o → holds (climbs s.parents n top) o ≡ true → holds (climbs (with_task s new).parents n top) ((with_task s new).parents t) ≡ true) [
          | None ↦ λ at none. absurd (true≢false (sym none))
          | Some p ↦ λ at later. subst (λ o. holds (climbs (with_task s new).parents n top) o ≡ true) (sym (same_parents t (ap is_some at) ∙ at)) (climbs_still n top p later)
        ] refl up)
      ]

  -- the new task is a step below the current one
  new_climbs : climbs (with_task s new).parents 64 1 new ≡ true
  new_climbs =
      or_right (new == 1) _ (subst (λ o. holds (climbs (with_task s new).parents 63 1) o ≡ true) (sym (cond-true (new == new) (Some s.current) (s.parents new) (eq-eqb new new refl)))
      (climbs_still 63 1 s.current (climbs_63 s w 64 s.current (w.below_root s.current w.current_is_task))))

  pub task_sound : TasksAreSound (with_task s new)
  task_sound = record {
    root = same_parents 1 (ap is_some w.root) ∙ w.root;
    below_root = λ t there. elim (cases_Bool (t == new)) [
      | inl is ↦ subst (λ x. climbs (with_task s new).parents 64 1 x ≡ true) (sym (eqb-true t new is)) new_climbs
      | inr is_not ↦ climbs_still 64 1 t (w.below_root t (sym (ap is_some (cond-false (t == new) (Some s.current) (s.parents t) is_not)) ∙ there))
    ];
    current_is_task = ap is_some (same_parents s.current w.current_is_task) ∙ w.current_is_task;
    numbered = λ t there. elim (cases_Bool (t == new)) [
      | inl is ↦ let same = eqb-true t new is in (omega (arith, same, low), omega (arith, same, high))
      | inr is_not ↦ w.numbered t (sym (ap is_some (cond-false (t == new) (Some s.current) (s.parents t) is_not)) ∙ there)
    ];
    are_words = w.are_words;
    no_task = λ t register none. w.no_task t register (before (t == new) (s.parents t) none);
    no_register = w.no_register;
  } where
    before : (b : Bool) (o : Option ℕ) → is_some (if b then Some s.current else o) ≡ false → is_some o ≡ false
    before true o e = absurd (true≢false e)
    before false o e = e

gift_keeps : (s : State) (old new number : ℕ) → TasksAreSound s → TasksAreSound (with_gift s old new number)
gift_keeps s old new number w =
    record { root = w.root; below_root = w.below_root; current_is_task = w.current_is_task; numbered = w.numbered; are_words = w.are_words; no_task = w.no_task; no_register = w.no_register }

sight_keeps : (s : State) (task number owner : ℕ) → TasksAreSound s → TasksAreSound (with_sight s task number owner)
sight_keeps s task number owner w =
    record { root = w.root; below_root = w.below_root; current_is_task = w.current_is_task; numbered = w.numbered; are_words = w.are_words; no_task = w.no_task; no_register = w.no_register }

subpool_keeps : (s : State) (number owner : ℕ) → TasksAreSound s → TasksAreSound (with_subpool s number owner)
subpool_keeps s number owner w =
    record { root = w.root; below_root = w.below_root; current_is_task = w.current_is_task; numbered = w.numbered; are_words = w.are_words; no_task = w.no_task; no_register = w.no_register }

either_keeps : (b : Bool) (s t : State) → TasksAreSound s → TasksAreSound t → TasksAreSound (if b then s else t)
either_keeps true s t v w = v
either_keeps false s t v w = w

share_keeps : (s : State) (task number : ℕ) → TasksAreSound s → TasksAreSound (with_share s task number)
share_keeps s task number w =
    sight_keeps (with_own s number) task number (seen_or_own s number).owner (either_keeps (sees_one s number) s _ w (subpool_keeps s number s.current w))

gifts_keep : (numbers : List ℕ) (s : State) (task : ℕ) → TasksAreSound s → TasksAreSound (with_gifts s task numbers)
gifts_keep [] s task w = w
gifts_keep (number ∷ numbers) s task w = gifts_keep numbers (with_gift s s.current task number) task (gift_keeps s s.current task number w)

shares_keep : (numbers : List ℕ) (s : State) (task : ℕ) → TasksAreSound s → TasksAreSound (with_shares s task numbers)
shares_keep [] s task w = w
shares_keep (number ∷ numbers) s task w = shares_keep numbers (with_share s task number) task (share_keeps s task number w)

zero_keeps : (s : State) (task : ℕ) (shares : Bool) → TasksAreSound s → TasksAreSound (with_zero s task shares)
zero_keeps s task shares w = either_keeps shares (with_share s task 0) (with_subpool s 0 task) (share_keeps s task 0 w) (subpool_keeps s 0 task w)

-- a free number is one that no task has
new_task : (s : State) → TasksAreSound s → (o : Option ℕ) → IsLeastAmong (λ t. not (is_task s t)) 1 64 o → is_none o ≡ false → TasksAreSound (with_task s (unwrap_or o 0))
new_task s w None h some = absurd (true≢false some)
new_task s w (Some new) h some =
    let below = h.2 in task_sound s w new h.1 (omega (arith, below)) (not-true (is_task s new) h.0)

pub attach_leaves_tasks_sound : (s : State) (a : Attach) → TasksAreSound s → first_cause (attach_causes s a) ≡ None → TasksAreSound (attached s a).0
attach_leaves_tasks_sound s a w none =
    let given = numbers_in s a.given in
    let shared = numbers_in s a.shared in
    let last : Causes = (is_none (free_number s), TooManyTasks) ∷ [] in
    let owned : Causes = (list_any (is_anothers s) (unwrap_or given []), NotOwner) ∷ last in
    let good : Causes = (is_bad_list (unwrap_or given [] ++ unwrap_or shared []), BadList) ∷ owned in
    let read : Causes = (is_none shared, NotAssigned) ∷ good in
    let one = past (is_none given) NotAssigned read none in
    let two = past (is_none shared) NotAssigned good one.1 in
    let three = past (is_bad_list (unwrap_or given [] ++ unwrap_or shared [])) BadList owned two.1 in
    let four = past (list_any (is_anothers s) (unwrap_or given [])) NotOwner last three.1 in
    let five = past (is_none (free_number s)) TooManyTasks [] four.1 in
    let task : ℕ = unwrap_or (free_number s) 0 in
    let there = new_task s w (free_number s) (least_among (λ t. not (is_task s t)) 1 64) five.0 in
    let began = zero_keeps (with_task s task) task a.shares_zero there in
    shares_keep (unwrap_or shared []) _ task (gifts_keep (unwrap_or given []) _ task began)
