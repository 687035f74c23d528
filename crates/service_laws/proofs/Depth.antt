-- No task is more than 63 steps below task 1.
use Rattle.std.proofs.Common.{◌≡◌, ℕ, zero, suc, ◌<◌, ◌≤◌, Bool, true, false, ◌||◌, ◌==◌, ◌⊎◌, Option, Some, None, List, [], ◌∷◌, length, is_some, refl, sym, ◌∙◌, ap, subst, arith, inl, inr, true≢false, eqb}
use Rattle.std.proofs.lemmas.Bool.{or_cases, or_left, or_right, eqb-true, eq-eqb, cases_Bool, both_ways, false_from_ne_true}
use Rattle.std.proofs.lemmas.Map.Steps.{length-le_from_distinct_below}
use Rattle.std.specs.List.{IsDistinct, AllByRecursion, list_any}
use Rattle.vsm_model.specs.Search.{holds}
use Rattle.vsm_model.specs.State.{State, is_task}
use Rattle.vsm_model.specs.Ending.{climbs}
use Rattle.vsm_model.specs.WellFormed.{TasksAreSound}
use Rattle.service_laws.specs.Trees.{IsStepsBelow, NoneIsDeeper}

same_parent : {m n : ℕ} → ◌≡◌ {A = Option ℕ} (Some m) (Some n) → m ≡ n
same_parent e = cc

-- a number that isn't in a list is apart from each of its numbers
apart_from : (x : ℕ) (xs : List ℕ) → list_any (eqb x) xs ≡ false → AllByRecursion (λ y. eqb x y ≡ false) xs
apart_from x [] e = tt
apart_from x (y ∷ ys) e =
    elim (cases_Bool (eqb x y)) [
      | inl is ↦ absurd (both_ways (eqb x y || list_any (eqb x) ys) e (or_left (eqb x y) (list_any (eqb x) ys) is))
      | inr is ↦ (is, apart_from x ys (later (list_any (eqb x) ys) refl))
    ] where
      later : (b : Bool) → list_any (eqb x) ys ≡ b → list_any (eqb x) ys ≡ false
      later true is = absurd (both_ways (eqb x y || list_any (eqb x) ys) e (or_right (eqb x y) (list_any (eqb x) ys) is))
      later false is = is

module _ (s : State) (w : TasksAreSound s) where
  -- the task is exactly that many steps below task 1
  Depth : ℕ → ℕ → Type 0
  Depth zero t = t ≡ 1
  Depth (suc n) t = ((t == 1) ≡ false) × (p : ℕ) × (s.parents t ≡ Some p) × Depth n p

  only_depth : (a b t : ℕ) → Depth a t → Depth b t → a ≡ b
  unfolding Depth
  only_depth zero zero t d e = refl
  only_depth zero (suc b) t d e = absurd (both_ways (t == 1) e.0 (eq-eqb t 1 d))
  only_depth (suc a) zero t d e = absurd (both_ways (t == 1) d.0 (eq-eqb t 1 e))
  only_depth (suc a) (suc b) t d e =
      let same = same_parent (sym d.2 ∙ e.2) in
      ap suc (only_depth a b e.1 (subst (Depth a) same d.3) e.3)

  -- the tasks on the way to task 1
  way : (n t : ℕ) → Depth n t → List ℕ
  unfolding Depth
  way zero t d = t ∷ []
  way (suc n) t d = t ∷ way n d.1 d.3

  length-way : (n t : ℕ) (d : Depth n t) → length (way n t d) ≡ suc n
  unfolding Depth way
  length-way zero t d = refl
  length-way (suc n) t d = ap suc (length-way n d.1 d.3)

  on_the_way : (n t : ℕ) (d : Depth n t) (x : ℕ) → list_any (eqb x) (way n t d) ≡ true → (k : ℕ) × (k ≤ n) × Depth k x
  unfolding Depth way
  on_the_way zero t d x e =
      elim (or_cases (eqb x t) false e) [
        | inl is ↦ (zero, omega arith, eqb-true x t is ∙ d)
        | inr none ↦ absurd (true≢false (sym none))
      ]
  on_the_way (suc n) t d x e =
      elim (or_cases (eqb x t) (list_any (eqb x) (way n d.1 d.3)) e) [
        | inl is ↦ (suc n, omega arith, subst (Depth (suc n)) (sym (eqb-true x t is)) d)
        | inr later ↦
            let (k, below, deep) = on_the_way n d.1 d.3 x later in
            (k, omega (arith, below), deep)
      ]

  distinct : (n t : ℕ) (d : Depth n t) → IsDistinct eqb (way n t d)
  unfolding Depth way IsDistinct
  distinct zero t d = (tt, tt)
  distinct (suc n) t d = (
    apart_from t (way n d.1 d.3)
        (elim (cases_Bool (list_any (eqb t) (way n d.1 d.3))) [
          | inl is ↦
              let (k, below, deep) = on_the_way n d.1 d.3 t is in
              let same = only_depth k (suc n) t deep d in
              absurd (omega (arith, below, same))
          | inr is ↦ is
        ]),
    distinct n d.1 d.3,
  )

  is_task_at : (n t : ℕ) → Depth n t → is_task s t ≡ true
  unfolding Depth
  is_task_at zero t d = ap (λ x. is_some (s.parents x)) d ∙ ap is_some w.root
  is_task_at (suc n) t d = ap is_some d.2

  in_range : (n t : ℕ) (d : Depth n t) (q : ℕ) → list_any (eqb q) (way n t d) ≡ true → (1 ≤ q) × (q ≤ 64)
  in_range n t d q e =
      let (k, below, deep) = on_the_way n t d q e in
      w.numbered q (is_task_at k q deep)

  at_most : (n t : ℕ) → Depth n t → n ≤ 63
  unfolding IsDistinct
  at_most n t d =
      let none : list_any (eqb 0) (way n t d) ≡ false =
      elim (cases_Bool (list_any (eqb 0) (way n t d))) [
        | inl is ↦ let low = (in_range n t d 0 is).0 in absurd (omega (arith, low))
        | inr is ↦ is
      ] in
      let many = length-le_from_distinct_below (0 ∷ way n t d) 65 (apart_from 0 (way n t d) none, distinct n t d) (λ q e. small q (or_cases (eqb q 0) (list_any (eqb q) (way n t d)) e)) in
      let size = length-way n t d in
      omega (arith, many, size)
    where
      small : (q : ℕ) → (eqb q 0 ≡ true) ⊎ (list_any (eqb q) (way n t d) ≡ true) → q < 65
      small q (inl is) = let zero_is = eqb-true q 0 is in omega (arith, zero_is)
      small q (inr is) = let range = (in_range n t d q is).1 in omega (arith, range)

  depth_of : (n t : ℕ) → climbs s.parents n 1 t ≡ true → (k : ℕ) × Depth k t
  unfolding Depth
  depth_of zero t e = (zero, eqb-true t 1 e)
  depth_of (suc n) t e =
      elim (cases_Bool (t == 1)) [
        | inl is ↦ (zero, eqb-true t 1 is)
        | inr other ↦ elim (or_cases (t == 1) (holds (climbs s.parents n 1) (s.parents t)) e) [
          | inl is ↦ absurd (both_ways (t == 1) other is)
          | inr up ↦ elim (s.parents t) as (λ o. s.parents t ≡ o → holds (climbs s.parents n 1) o ≡ true → (k : ℕ) × Depth k t) [
            | None ↦ λ at none. absurd (true≢false (sym none))
            | Some p ↦ λ at later. let (k, deep) = depth_of n p later in (suc k, (other, p, at, deep))
          ] refl up
        ]
      ]

  climbs_by : (n k t : ℕ) → k ≤ n → Depth k t → climbs s.parents n 1 t ≡ true
  unfolding Depth
  climbs_by zero zero t below d = eq-eqb t 1 d
  climbs_by zero (suc k) t below d = absurd (omega (arith, below))
  climbs_by (suc n) zero t below d = or_left (t == 1) _ (eq-eqb t 1 d)
  climbs_by (suc n) (suc k) t below d =
      or_right (t == 1) _ (subst (λ o. holds (climbs s.parents n 1) o ≡ true) (sym d.2) (climbs_by n k d.1 (omega (arith, below)) d.3))

-- 63 steps up the tree lead from any task to task 1
pub climbs_63 : (s : State) → TasksAreSound s → (steps task : ℕ) → climbs s.parents steps 1 task ≡ true → climbs s.parents 63 1 task ≡ true
climbs_63 s w steps task e =
    let (k, deep) = depth_of s w steps task e in
    climbs_by s w 63 k task (at_most s w k task deep) deep

-- no step goes up from task 1
not_above : (s : State) → TasksAreSound s → (n p : ℕ) → s.parents 1 ≡ Some p → IsStepsBelow s n 1 p → ⊥
not_above s w n p at below = from_zero n (subst (IsStepsBelow s n 1) (same_parent (sym at ∙ w.root)) below) where
  from_zero : (n : ℕ) → IsStepsBelow s n 1 0 → ⊥
  from_zero zero is = absurd (omega (arith, is))
  from_zero (suc n) (p, up, below) = let low = (w.numbered 0 (ap is_some up)).0 in absurd (omega (arith, low))

depth_at : (s : State) (w : TasksAreSound s) (n t : ℕ) → IsStepsBelow s n 1 t → Depth s w n t
unfolding Depth
depth_at s w zero t is = is
depth_at s w (suc n) t (p, at, below) = (
  false_from_ne_true (t == 1) (λ is. not_above s w n p (ap s.parents (sym (eqb-true t 1 is)) ∙ at) below),
  p,
  at,
  depth_at s w n p below,
)

pub none_is_deeper : NoneIsDeeper
none_is_deeper s w steps task below = at_most s w steps task (depth_at s w steps task below)

-- and it's below task 1 by only one number of steps
pub only_steps : (s : State) → TasksAreSound s → (a b task : ℕ) → IsStepsBelow s a 1 task → IsStepsBelow s b 1 task → a ≡ b
only_steps s w a b task d e = only_depth s w a b task (depth_at s w a task d) (depth_at s w b task e)
