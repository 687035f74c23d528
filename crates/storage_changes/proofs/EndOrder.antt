-- A subtree's tasks end in an order in which each one follows its subtasks, and they are those of the subtree.
use Rattle.std.proofs.Common.{◌≡◌, ℕ, zero, suc, ◌+◌, ◌<◌, ◌≤◌, Bool, true, false, ◌==◌, Some, List, [], ◌∷◌, ◌++◌, is_some, sym, ◌∙◌, ap, subst, arith, inl, inr, true≢false}
use Rattle.std.specs.Prelude.{filter}
use Rattle.std.specs.List.{range_with_len}
use Rattle.std.proofs.lemmas.Bool.{or_cases, or_left, or_right, eqb-true, eq-eqb, cases_lt, cond_both, false_from_ne_true}
use Rattle.vsm_model.specs.Search.{holds, is_in}
use Rattle.vsm_model.specs.State.{State, is_task}
use Rattle.vsm_model.specs.Ending.{is_in_subtree}
use Rattle.vsm_model.specs.WellFormed.{TasksAreSound}
use Rattle.service_laws.specs.Trees.{IsStepsBelow, IsInSubtree}
use Rattle.service_laws.proofs.Options.{held}
use Rattle.service_laws.proofs.Below.{subtree_is_whole}
use Rattle.service_laws.proofs.Depth.{none_is_deeper, only_steps}
use Rattle.storage_changes.proofs.ActionCases.{same_answers}
use Rattle.storage_changes.proofs.EndLists.{append_nothing, in_either, passes_in, is_in_passing}
use Rattle.storage_changes.specs.Ending.{is_below_by, ended_from, ended_below, AreSubtasksFirst}
use Rattle.storage_changes.specs.TaskLaws.{EndsAreInOrder}

module _ (s : State) (top : ℕ) (w : TasksAreSound s) (there : is_task s top ≡ true) where
  abbrev below : ℕ → ℕ → Bool
  below n t = is_below_by s.parents top n t

  steps_of : (n t : ℕ) → below n t ≡ true → IsStepsBelow s n top t
  steps_of zero t e = eqb-true t top e
  steps_of (suc n) t e =
      let (parent, at, later) = held (below n) (s.parents t) e in
      (parent, at, steps_of n parent later)

  below_by : (n t : ℕ) → IsStepsBelow s n top t → below n t ≡ true
  below_by zero t is = eq-eqb t top is
  below_by (suc n) t (parent, at, later) = ap (holds (below n)) at ∙ below_by n parent later

  its : (n t : ℕ) → below n t ≡ true → is_task s t ≡ true
  its zero t e = ap (is_task s) (eqb-true t top e) ∙ there
  its (suc n) t e = let (parent, at, _) = held (below n) (s.parents t) e in ap is_some at

  -- the subtask of a task is one step further below
  next_below : (n t subtask : ℕ) → s.parents subtask ≡ Some t → below n t ≡ true → below (suc n) subtask ≡ true
  next_below n t subtask at e = ap (holds (below n)) at ∙ e

  -- the task is as many steps below task 1 as it is below its top and the top below task 1
  from_first : (n d t : ℕ) → IsStepsBelow s n top t → IsStepsBelow s d 1 top → (k : ℕ) × (k ≡ n + d) × IsStepsBelow s k 1 t
  from_first zero d t is deep = (d, omega arith, subst (IsStepsBelow s d 1) (sym is) deep)
  from_first (suc n) d t (parent, at, later) deep =
      let (k, e, more) = from_first n d parent later deep in
      (suc k, omega (arith, e), (parent, at, more))

  depth : IsInSubtree s 1 top
  depth = (subtree_is_whole s w 1 top (ap is_some w.root)).0 (w.below_root top there)

  only_one : (n k t : ℕ) → below n t ≡ true → below k t ≡ true → n ≡ k
  only_one n k t e f =
      let (a, is, deep) = from_first n depth.0 t (steps_of n t e) depth.1 in
      let (b, at, as_deep) = from_first k depth.0 t (steps_of k t f) depth.1 in
      let same = only_steps s w a b t deep as_deep in
      omega (arith, is, at, same)

  not_deep : (n t : ℕ) → below n t ≡ true → n ≤ 63
  not_deep n t e =
      let (a, is, deep) = from_first n depth.0 t (steps_of n t e) depth.1 in
      let few = none_is_deeper s w a t deep in
      omega (arith, is, few)

  -- The tasks that are further below are done, and at this level those before a number.
  record Done (n first : ℕ) (gone : List ℕ) : Type 0 where
    deeper : (k t : ℕ) → n < k → below k t ≡ true → is_in gone t ≡ true
    before : (t : ℕ) → t < first → below n t ≡ true → is_in gone t ≡ true
    only : (t : ℕ) → is_in gone t ≡ true → (k : ℕ) × (below k t ≡ true) × (n ≤ k) × (k ≡ n → t < first)

  done_with : (n first : ℕ) (gone : List ℕ) → below n first ≡ true → Done n first gone → Done n (first + 1) (first ∷ gone)
  done_with n first gone is done = record {
    deeper = λ k t more e. or_right (first == t) (is_in gone t) (done.deeper k t more e);
    before = λ t less e. elim (cases_lt t first) [
      | inl low ↦ or_right (first == t) (is_in gone t) (done.before t low e)
      | inr high ↦ or_left (first == t) (is_in gone t) (eq-eqb first t (omega (arith, less, high)))
    ];
    only = λ t e. elim (or_cases (first == t) (is_in gone t) e) [
      | inl same ↦
          let at = eqb-true first t same in
          (n, ap (below n) (sym at) ∙ is, omega arith, λ _. omega (arith, at))
      | inr old ↦
          let (k, at, deep, low) = done.only t old in
          (k, at, deep, λ e. let less = low e in omega (arith, less))
    ];
  }

  done_without : (n first : ℕ) (gone : List ℕ) → below n first ≡ false → Done n first gone → Done n (first + 1) gone
  done_without n first gone other done = record {
    deeper = done.deeper;
    before = λ t less e. elim (cases_lt t first) [
      | inl low ↦ done.before t low e
      | inr high ↦
          let same : t ≡ first = omega (arith, less, high) in
          absurd (true≢false (sym e ∙ ap (below n) same ∙ other))
    ];
    only = λ t old.
        let (k, at, deep, low) = done.only t old in
        (k, at, deep, λ e. let less = low e in omega (arith, less));
  }

  -- the next one can end
  fresh : (n first : ℕ) (gone : List ℕ) → below n first ≡ true → Done n first gone → is_in gone first ≡ false
  fresh n first gone is done = false_from_ne_true (is_in gone first) (λ old.
      let (k, at, deep, low) = done.only first old in
      let less = low (only_one k n first at is) in
      omega (arith, less))

  level : (n : ℕ) (rest : List ℕ) → ((gone : List ℕ) → Done n 65 gone → AreSubtasksFirst s.parents gone rest) → (len first : ℕ) (gone : List ℕ)
      → first + len ≡ 65 → Done n first gone → AreSubtasksFirst s.parents gone (filter (below n) (range_with_len first len) ++ rest)
  level n rest then zero first gone e done =
      let last : first ≡ 65 = omega (arith, e) in
      then gone (subst (λ k. Done n k gone) last done)
  level n rest then (suc len) first gone e done =
      let others = filter (below n) (range_with_len (first + 1) len) in
      cond_both (below n first) (first ∷ others) others (λ xs. AreSubtasksFirst s.parents gone (xs ++ rest))
      (λ is. (
        fresh n first gone is done,
        λ subtask at. done.deeper (suc n) subtask (omega arith) (next_below n first subtask at is),
        level n rest then len (first + 1) (first ∷ gone) (omega (arith, e)) (done_with n first gone is done),
      ))
      (λ other. level n rest then len (first + 1) gone (omega (arith, e)) (done_without n first gone other done))

  range : (n t : ℕ) → below n t ≡ true → (1 ≤ t) × (t ≤ 64)
  range n t e = w.numbered t (its n t e)

  -- after a level, those that are one step less below are next
  up : (n : ℕ) (gone : List ℕ) → Done (suc n) 65 gone → Done n 1 gone
  up n gone done = record {
    deeper = λ k t more e. elim (cases_lt (suc n) k) [
      | inl deep ↦ done.deeper k t deep e
      | inr at ↦
          let same : k ≡ suc n = omega (arith, more, at) in
          let high = (range k t e).1 in
          done.before t (omega (arith, high)) (subst (λ j. below j t ≡ true) same e)
    ];
    before = λ t less e. let low = (range n t e).0 in absurd (omega (arith, low, less));
    only = λ t old.
        let (k, at, deep, low) = done.only t old in
        (k, at, omega (arith, deep), λ e. absurd (omega (arith, deep, e)));
  }

  in_order : (n : ℕ) (gone : List ℕ) → Done n 1 gone → AreSubtasksFirst s.parents gone (ended_from s.parents top n)
  in_order zero gone done =
      subst (AreSubtasksFirst s.parents gone) (append_nothing (filter (below zero) (range_with_len 1 64)))
      (level zero [] (λ _ _. tt) 64 1 gone (omega arith) done)
  in_order (suc n) gone done =
      level (suc n) (ended_from s.parents top n) (λ later after. in_order n later (up n later after)) 64 1 gone (omega arith) done

  none_done : Done 63 1 []
  none_done = record {
    deeper = λ k t more e. let few = not_deep k t e in absurd (omega (arith, more, few));
    before = λ t less e. let low = (range 63 t e).0 in absurd (omega (arith, low, less));
    only = λ t e. absurd (true≢false (sym e));
  }

  -- they are those of the subtree
  found : (n k t : ℕ) → k ≤ n → below k t ≡ true → is_in (ended_from s.parents top n) t ≡ true
  found zero k t less e =
      let none : k ≡ 0 = omega (arith, less) in
      let (low, high) = range k t e in
      is_in_passing (below 0) t 64 1 (subst (λ j. below j t ≡ true) none e) low (omega (arith, high))
  found (suc n) k t less e =
      let these = filter (below (suc n)) (range_with_len 1 64) in
      in_either these (ended_from s.parents top n) t
      ∙ elim (cases_lt n k) [
        | inl more ↦
            let last : k ≡ suc n = omega (arith, less, more) in
            let (low, high) = range k t e in
            or_left (is_in these t) _ (is_in_passing (below (suc n)) t 64 1 (subst (λ j. below j t ≡ true) last e) low (omega (arith, high)))
        | inr few ↦ or_right (is_in these t) _ (found n k t few e)
      ]

  is_below : (n t : ℕ) → is_in (ended_from s.parents top n) t ≡ true → (k : ℕ) × (below k t ≡ true)
  is_below zero t e = (0, passes_in (below 0) t (range_with_len 1 64) e)
  is_below (suc n) t e =
      let these = filter (below (suc n)) (range_with_len 1 64) in
      elim (or_cases (is_in these t) (is_in (ended_from s.parents top n) t) (sym (in_either these (ended_from s.parents top n) t) ∙ e)) [
        | inl here ↦ (suc n, passes_in (below (suc n)) t (range_with_len 1 64) here)
        | inr later ↦ is_below n t later
      ]

  is_subtree : (t : ℕ) → is_in (ended_below s.parents top) t ≡ is_in_subtree s top t
  unfolding ended_below
  is_subtree t =
      let whole = subtree_is_whole s w top t there in
      same_answers (is_in (ended_below s.parents top) t) (is_in_subtree s top t)
      (λ e. let (k, at) = is_below 63 t e in whole.1 (k, steps_of k t at))
      (λ e. let (k, deep) = whole.0 e in let at = below_by k t deep in found 63 k t (not_deep k t at) at)

pub ends_are_in_order : EndsAreInOrder
unfolding ended_below
ends_are_in_order s top w there = (in_order s top w there 63 [] (none_done s top w there), is_subtree s top w there)
