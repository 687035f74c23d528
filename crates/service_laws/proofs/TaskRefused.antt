-- A service on tasks is refused for the first cause whose condition holds.
use Rattle.std.proofs.Common.{◌≡◌, ℕ, zero, suc, ◌+◌, ◌<◌, ◌≤◌, nat_le, nat_lt, Bool, true, false, not, ◌&&◌, ◌==◌, if◌then◌else◌, ◌++◌, Option, Some, None, is_some, List, [], ◌∷◌, refl, sym, ◌∙◌, ap, subst, arith, inl, inr, true≢false}
use Rattle.std.specs.Prelude.{unwrap_or, is_none}
use Rattle.std.specs.Option.{option_and_then}
use Rattle.std.specs.List.{list_any}
use Rattle.std.proofs.lemmas.Bool.{cases_Bool, and_parts, and_from, or_cases, or_left, or_right, not-true, not-false, both_ways, eqb-true, eq-eqb, leb-true, ltb-true, le-leb, lt-ltb}
use Rattle.vsm_model.specs.declared.causes.Cause.{Cause}
use Rattle.vsm_model.specs.declared.causes.Cause.TheVariants.{NotAssigned, BadList, NotOwner, TooManyTasks, NoTask, NotParent, HasSubtask}
use Rattle.vsm_model.specs.declared.services.Passed.{Passed}
use Rattle.vsm_model.specs.declared.services.Passed.TheVariants.{Nothing, Number, Listed}
use Rattle.vsm_model.specs.Search.{all_pass, holds, is_in, IsLeastAmong}
use Rattle.vsm_model.specs.Regions.{among}
use Rattle.vsm_model.specs.State.{State, is_task}
use Rattle.vsm_model.specs.Bytes.{are_there, bytes_from, load}
use Rattle.vsm_model.specs.Services.{attach, detach, end_task, run}
use Rattle.vsm_model.specs.Passing.{numbers_in, is_bad_list, is_anothers}
use Rattle.vsm_model.specs.Ending.{is_child, has_subtask}
use Rattle.vsm_model.specs.Causes.{Causes, first_cause}
use Rattle.vsm_model.specs.Tasks.{free_number}
use Rattle.vsm_model.proofs.Chosen.{refused_for_the_first}
use Rattle.vsm_model.proofs.Least.{least_among}
use Rattle.service_laws.specs.TaskFirstCauses.{IsNotAssigned, AreNamed, AreNamedWell, IsFirstOfAttach, AttachIsRefusedForTheFirst, IsFirstOfDetach, DetachIsRefusedForTheFirst, IsFirstOfEndTask, EndTaskIsRefusedForTheFirst, IsFirstOfRun, RunIsRefusedForTheFirst}
use Rattle.service_laws.proofs.Numbers.{none_any, read, are_numbers, bad_number}
use Rattle.service_laws.proofs.Options.{held, none_there}
use Rattle.service_laws.proofs.Ends.{no_child}

cause_is : (c cause : Cause) → ◌≡◌ {A = Option Cause} (Some c) (Some cause) → c ≡ cause
cause_is c cause e = cc

no_cause_is : (cause : Cause) → ◌≡◌ {A = Option Cause} None (Some cause) → ⊥
no_cause_is cause e = cc

-- The first cause is that of the first condition, or comes after it.
pub at_cause : (b : Bool) (first cause : Cause) (rows : Causes) (P : Type 0) → first_cause ((b, first) ∷ rows) ≡ Some cause →
    (b ≡ true → first ≡ cause → P) → (b ≡ false → first_cause rows ≡ Some cause → P) → P
at_cause true first cause rows P e here rest = here refl (cause_is first cause e)
at_cause false first cause rows P e here rest = rest refl e

-- After the last one there is none.
pub past_all : (cause : Cause) (P : Type 0) → first_cause [] ≡ Some cause → P
past_all cause P e = absurd (no_cause_is cause e)

in_run : (a n k : ℕ) → a ≤ k → k < a + n → among a n k ≡ true
in_run a n k low high = and_from (nat_le a k) (nat_lt k (a + n)) (le-leb a k low) (lt-ltb k (a + n) high)

-- a run that doesn't pass has a number that doesn't
failing : (f : ℕ → Bool) (a n : ℕ) → all_pass f a n ≡ false → (k : ℕ) × (among a n k ≡ true) × (f k ≡ false)
failing f a zero e = absurd (true≢false e)
failing f a (suc n) e =
    elim (cases_Bool (f a)) [
      | inl here ↦
          let (k, within, at) = failing f (suc a) n (sym (ap (λ b. b && all_pass f (suc a) n) here) ∙ e) in
          let parts = and_parts (nat_le (suc a) k) (nat_lt k (suc a + n)) within in
          let low = leb-true (suc a) k parts.0 in
          let high = ltb-true k (suc a + n) parts.1 in
          (k, in_run a (suc n) k (omega (arith, low)) (omega (arith, high)), at)
      | inr here ↦ (a, in_run a (suc n) a (omega arith) (omega arith), here)
    ]

parent_from : (s : State) (parent task : ℕ) → is_child s parent task ≡ true → s.parents task ≡ Some parent
parent_from s parent task child = let (p, at, is) = held (λ p. p == parent) (s.parents task) child in at ∙ ap Some (eqb-true p parent is)

pub run_is_refused_for_the_first : RunIsRefusedForTheFirst
run_is_refused_for_the_first settings names_full s task cause e =
    at_cause (not (is_task s task)) NoTask cause [] (IsFirstOfRun s task cause) (refused_for_the_first settings names_full s (run task) cause e)
    (λ none is. subst (IsFirstOfRun s task) is (none_there (s.parents task) (not-true (is_task s task) none)))
    (λ _ e. past_all cause (IsFirstOfRun s task cause) e)

pub detach_is_refused_for_the_first : DetachIsRefusedForTheFirst
detach_is_refused_for_the_first settings names_full s task cause e =
    at_cause (not (is_task s task)) NoTask cause ((not (is_child s s.current task), NotParent) ∷ []) (IsFirstOfDetach s task cause)
    (refused_for_the_first settings names_full s (detach task) cause e)
    (λ none is. subst (IsFirstOfDetach s task) is (none_there (s.parents task) (not-true (is_task s task) none)))
    (λ there e. at_cause (not (is_child s s.current task)) NotParent cause [] (IsFirstOfDetach s task cause) e
    (λ other is. subst (IsFirstOfDetach s task) is (
      not-false (is_task s task) there,
      λ at. both_ways (is_child s s.current task) (not-true (is_child s s.current task) other)
          (ap (holds (λ p. p == s.current)) at ∙ eq-eqb s.current s.current refl),
    ))
    (λ _ e. past_all cause (IsFirstOfDetach s task cause) e))

pub end_task_is_refused_for_the_first : EndTaskIsRefusedForTheFirst
end_task_is_refused_for_the_first settings names_full s cause w e =
    at_cause (has_subtask s s.current) HasSubtask cause ((s.current == 1, NotParent) ∷ []) (IsFirstOfEndTask s cause)
    (refused_for_the_first settings names_full s end_task cause e)
    (λ has is. subst (IsFirstOfEndTask s) is
    (let (task, _, child) = failing (λ t. not (is_child s s.current t)) 1 64 (not-true (all_pass (λ t. not (is_child s s.current t)) 1 64) has) in
    (task, parent_from s s.current task (not-false (is_child s s.current task) child))))
    (λ alone e. at_cause (s.current == 1) NotParent cause [] (IsFirstOfEndTask s cause) e
    (λ first is. subst (IsFirstOfEndTask s) is (
      λ task at. no_child s w alone task s.current at (eq-eqb s.current s.current refl),
      eqb-true s.current 1 first,
    ))
    (λ _ e. past_all cause (IsFirstOfEndTask s cause) e))

-- of a list that can't be read something is missing
not_read : (s : State) (p : Passed) → is_none (numbers_in s p) ≡ true → IsNotAssigned s p
not_read s Nothing e = absurd (true≢false (sym e))
not_read s (Number number) e = absurd (true≢false (sym e))
not_read s (Listed address) e =
    elim (s.bytes address) as (λ o. s.bytes address ≡ o → is_none (option_and_then (load s (suc address)) o) ≡ true → IsNotAssigned s (Listed address)) [
      | None ↦ λ at _. inl at
      | Some count ↦ λ at short.
          let cut = not_there (are_there s (suc address) count) (bytes_from s (suc address) count) short in
          let (a, within, none) = failing (λ k. is_some (s.bytes k)) (suc address) count cut in
          inr (count, a, at, within, none_there (s.bytes a) none)
    ] refl e
  where
    not_there : (b : Bool) (bytes : List ℕ) → is_none (if b then Some bytes else None) ≡ true → b ≡ false
    not_there true bytes e = absurd (true≢false (sym e))
    not_there false bytes e = refl

some_any : (f : ℕ → Bool) (xs : List ℕ) → list_any f xs ≡ true → (n : ℕ) × (is_in xs n ≡ true) × (f n ≡ true)
some_any f [] e = absurd (true≢false (sym e))
some_any f (x ∷ xs) e =
    elim (or_cases (f x) (list_any f xs) e) [
      | inl is ↦ (x, or_left (x == x) (is_in xs x) (eq-eqb x x refl), is)
      | inr later ↦ let (n, at, is) = some_any f xs later in (n, or_right (x == n) (is_in xs n) at, is)
    ]

no_room : (s : State) (o : Option ℕ) → IsLeastAmong (λ t. not (is_task s t)) 1 64 o → is_none o ≡ true →
    (task : ℕ) → 1 ≤ task → task ≤ 64 → is_task s task ≡ true
no_room s None h none task low high = not-false (is_task s task) (h task low (omega (arith, high)))
no_room s (Some new) h none task low high = absurd (true≢false (sym none))

pub attach_is_refused_for_the_first : AttachIsRefusedForTheFirst
attach_is_refused_for_the_first settings names_full s a cause e =
    let given = numbers_in s a.given in
    let shared = numbers_in s a.shared in
    let both : List ℕ = unwrap_or given [] ++ unwrap_or shared [] in
    let F : Cause → Type 0 = IsFirstOfAttach s a in
    let last : Causes = (is_none (free_number s), TooManyTasks) ∷ [] in
    let owned : Causes = (list_any (is_anothers s) (unwrap_or given []), NotOwner) ∷ last in
    let good : Causes = (is_bad_list both, BadList) ∷ owned in
    let there : Causes = (is_none shared, NotAssigned) ∷ good in
    at_cause (is_none given) NotAssigned cause there (F cause) (refused_for_the_first settings names_full s (attach a) cause e)
    (λ none is. subst F is (inl (not_read s a.given none))) (λ one e.
    at_cause (is_none shared) NotAssigned cause good (F cause) e
    (λ none is. subst F is (inr (not_read s a.shared none))) (λ two e.
    let named : AreNamed s a (unwrap_or given []) (unwrap_or shared []) = record { are_given = read given one; are_shared = read shared two } in
    at_cause (is_bad_list both) BadList cause owned (F cause) e
    (λ bad is. subst F is (unwrap_or given [], unwrap_or shared [], named, bad_number both bad)) (λ fine e.
    let well : AreNamedWell s a (unwrap_or given []) (unwrap_or shared []) = record { named = named; are_numbers = are_numbers both fine } in
    at_cause (list_any (is_anothers s) (unwrap_or given [])) NotOwner cause last (F cause) e
    (λ others is.
    let (number, at, anothers) = some_any (is_anothers s) (unwrap_or given []) others in
    let (owner, seen, other) = held (λ o. not (o == s.current)) (s.sight s.current number) anothers in
    subst F is (
      unwrap_or given [],
      unwrap_or shared [],
      well,
      (number, owner, at, seen, λ same. both_ways (owner == s.current) (not-true (owner == s.current) other) (eq-eqb owner s.current same)),
    )) (λ own e.
    at_cause (is_none (free_number s)) TooManyTasks cause [] (F cause) e
    (λ full is. subst F is (
      unwrap_or given [],
      unwrap_or shared [],
      well,
      λ number owner at seen.
          let not_others : is_anothers s number ≡ false = none_any (is_anothers s) (unwrap_or given []) number own at in
          eqb-true owner s.current (not-false (owner == s.current) (sym (ap (holds (λ o. not (o == s.current))) seen) ∙ not_others)),
      no_room s (free_number s) (least_among (λ t. not (is_task s t)) 1 64) full,
    ))
    (λ _ e. past_all cause (F cause) e)))))
