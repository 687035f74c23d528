-- Trees without cycles. That depths exist is truncated: it says that some exist, and not which.
use Rattle.std.proofs.Common.{◌≡◌, ◌≢◌, ℕ, zero, suc, ◌+◌, ◌<◌, ◌≤◌, leb, true, false, ◌==◌, Option, Some, None, IsSome, is_some, inl, inr, refl, sym, ap, ◌∙◌, subst, arith}
use Rattle.std.specs.Prelude.{if◌then◌else◌}
use Rattle.std.proofs.Math.Logic.{∥∥₁_elim, ∥∥₁_map, ∥∥₁_map₂}
use Rattle.std.proofs.Props.{props}
use Rattle.std.proofs.lemmas.Bool.{le-leb, leb-true, cond-false, cond-true}
use Rattle.row_table.specs.Rows.{either_of}
use Rattle.row_table.proofs.RowLemmas.{either, not_both, none_some, eqb_same, eqb_refl}
use Rattle.task_tree.specs.Tasks.{Parents, IsBelow, HasDepths, parents_with}

some_nat : (x y : ℕ) → Some x ≡ Some y → x ≡ y
some_nat x y e = cc

positive : (p : ℕ) → 1 ≤ p → p ≢ 0
positive p l z = omega (arith, l, z)

no_task : (o : Option ℕ) → o ≡ None → IsSome o → ⊥
no_task None e h = not_both false h refl
no_task (Some x) e h = none_some (Some x) x e refl

parent_of : (o : Option ℕ) → IsSome o → (p : ℕ) × (o ≡ Some p)
parent_of None h = absurd (not_both false h refl)
parent_of (Some p) h = (p, refl)

-- a task that is below another is as deep as that one, or deeper
deeper : (f : Parents) (d : HasDepths f) (top t : ℕ) → IsBelow f top t → d.0 top ≤ d.0 t
deeper f d top t below = leb-true (d.0 top) (d.0 t) (below (λ (x : ℕ). leb (d.0 top) (d.0 x)) (le-leb (d.0 top) (d.0 top) (omega arith)) closed) where
  closed : (child parent : ℕ) → f child ≡ Some parent → leb (d.0 top) (d.0 parent) ≡ true → leb (d.0 top) (d.0 child) ≡ true
  closed child parent e h =
      let k : d.0 parent < d.0 child = d.1 child parent e in
      let l : d.0 top ≤ d.0 parent = leb-true (d.0 top) (d.0 parent) h in
      le-leb (d.0 top) (d.0 child) (omega (arith, k, l))

pub not_below : (f : Parents) → ∥ HasDepths f ∥₁ → (t p above : ℕ) → f t ≡ Some p → IsBelow f above p → IsBelow f t above → ⊥
not_below f some t p above e up down = ∥∥₁_elim some (hlevel props) no where
  no : HasDepths f → ⊥
  no d =
      let h : d.0 p < d.0 t = d.1 t p e in
      let k : d.0 above ≤ d.0 p = deeper f d above p up in
      let l : d.0 t ≤ d.0 above = deeper f d t above down in
      omega (arith, h, k, l)

-- the way up from each task ends at the first
module _ (f : Parents) (d : HasDepths f) (alone : (t : ℕ) → f t ≡ Some 0 → t ≡ 1) (parents : (t p : ℕ) → f t ≡ Some p → p ≢ 0 → IsSome (f p)) where
  below_by : (n t : ℕ) → d.0 t ≤ n → IsSome (f t) → IsBelow f 1 t
  below_by zero t high there =
      let p : (p : ℕ) × (f t ≡ Some p) = parent_of (f t) there in
      let k : d.0 p.0 < d.0 t = d.1 t p.0 p.1 in
      absurd (omega (arith, high, k))
  below_by (suc n) t high there =
      let p : (p : ℕ) × (f t ≡ Some p) = parent_of (f t) there in
      let k : d.0 p.0 < d.0 t = d.1 t p.0 p.1 in
      up p.0 p.1 (λ s. below_by n p.0 (omega (arith, high, k)) s) where
        up : (p : ℕ) → f t ≡ Some p → (IsSome (f p) → IsBelow f 1 p) → IsBelow f 1 t
        up zero e below = let P : ℕ → Type 0 = IsBelow f 1 in subst P (sym (alone t e)) (λ set begin closed. begin)
        up (suc p) e below =
            let b : IsBelow f 1 (suc p) = below (parents t (suc p) e (positive (suc p) (omega arith))) in
            λ set begin closed. closed t (suc p) e (b set begin closed)

IsBelow-prop : (f : Parents) (top t : ℕ) → IsProp (IsBelow f top t)
IsBelow-prop f top t = hlevel props

pub below_first : (f : Parents) → ∥ HasDepths f ∥₁ → ((t : ℕ) → f t ≡ Some 0 → t ≡ 1) → ((t p : ℕ) → f t ≡ Some p → p ≢ 0 → IsSome (f p))
    → (t : ℕ) → IsSome (f t) → IsBelow f 1 t
below_first f some alone parents t there =
    ∥∥₁_elim some (IsBelow-prop f 1 t) (λ d. below_by f d alone parents (d.0 t) t (omega arith) there)

-- a part of a tree without cycles
pub depths_part : (f g : Parents) → ((t p : ℕ) → g t ≡ Some p → f t ≡ Some p) → ∥ HasDepths f ∥₁ → ∥ HasDepths g ∥₁
depths_part f g part some = ∥∥₁_map some (λ d. (d.0, λ t p e. d.1 t p (part t p e)))

pub depths_same : (f g : Parents) → ((t : ℕ) → g t ≡ f t) → ∥ HasDepths f ∥₁ → ∥ HasDepths g ∥₁
depths_same f g same d = depths_part f g (λ t p e. sym (same t) ∙ e) d

-- no task
pub depths_none : (f : Parents) → ((t : ℕ) → f t ≡ None) → ∥ HasDepths f ∥₁
depths_none f none = ∣ ((λ x. x), λ t p e. absurd (none_some (f t) p (none t) e)) ∣₁

-- only the first task
first_depths : (f : Parents) → ((t : ℕ) → f t ≡ (if t == 1 then Some 0 else None)) → HasDepths f
first_depths f first = (
  (λ x. x),
  λ t p e. elim (either (t == 1)) [
    | inl h ↦ (let k : 0 ≡ p = some_nat 0 p (sym (cond-true (t == 1) (Some 0) None h) ∙ sym (first t) ∙ e) in
        let l : t ≡ 1 = eqb_same t 1 h in omega (arith, k, l))
    | inr h ↦ absurd (none_some (f t) p (first t ∙ cond-false (t == 1) (Some 0) None h) e)
  ],
)

pub depths_first : (f : Parents) → ((t : ℕ) → f t ≡ (if t == 1 then Some 0 else None)) → ∥ HasDepths f ∥₁
depths_first f first = ∣ first_depths f first ∣₁

-- a task is added
module _ (f g : Parents) (task under : ℕ) (absent : f task ≡ None) (low : 1 ≤ task) (home : IsSome (f under)) (added : (t : ℕ) → g t ≡ parents_with f task under t)
    (parents : (t p : ℕ) → f t ≡ Some p → p ≢ 0 → IsSome (f p)) (d : HasDepths f) where
  abbrev more_depth : ℕ → ℕ
  more_depth x = if x == task then suc (d.0 under) else d.0 x

  other : (p : ℕ) → (p ≡ task → ⊥) → more_depth p ≡ d.0 p
  other p ne = elim (either (p == task)) [
    | inl h ↦ absurd (ne (eqb_same p task h))
    | inr h ↦ cond-false (p == task) (suc (d.0 under)) (d.0 p) h
  ]

  more_depths : HasDepths g
  more_depths = (
    more_depth,
    λ t p e. elim (either (t == task)) [
      | inl h ↦ (let k : under ≡ p = some_nat under p (sym (cond-true (t == task) (Some under) (f t) h) ∙ sym (added t) ∙ e) in
          let ne : under ≡ task → ⊥ = (λ z. no_task (f under) (ap f z ∙ absent) home) in
          let l : more_depth under ≡ d.0 under = other under ne in
          let m : more_depth t ≡ suc (d.0 under) = cond-true (t == task) (suc (d.0 under)) (d.0 t) h in
          let n : more_depth p ≡ more_depth under = ap more_depth (sym k) in
          omega (arith, l, m, n))
      | inr h ↦ (let k : f t ≡ Some p = sym (cond-false (t == task) (Some under) (f t) h) ∙ sym (added t) ∙ e in
          let ne : p ≡ task → ⊥ = (λ z. no_task (f p) (ap f z ∙ absent) (parents t p k (λ w. positive task low (sym z ∙ w)))) in
          let l : more_depth p ≡ d.0 p = other p ne in
          let m : more_depth t ≡ d.0 t = cond-false (t == task) (suc (d.0 under)) (d.0 t) h in
          let n : d.0 p < d.0 t = d.1 t p k in
          omega (arith, l, m, n))
    ],
  )

pub depths_more : (f g : Parents) (task under : ℕ) → f task ≡ None → 1 ≤ task → IsSome (f under) → ((t : ℕ) → g t ≡ parents_with f task under t)
    → ((t p : ℕ) → f t ≡ Some p → p ≢ 0 → IsSome (f p)) → ∥ HasDepths f ∥₁ → ∥ HasDepths g ∥₁
depths_more f g task under absent low home added parents some =
    ∥∥₁_map some (λ d. more_depths f g task under absent low home added parents d)

-- a number that no depth up to n exceeds
abbrev most : (ℕ → ℕ) → ℕ → ℕ
most d zero = d zero
most d (suc n) = most d n + d (suc n)

most_of : (d : ℕ → ℕ) (n x : ℕ) → x ≤ n → d x ≤ most d n
most_of d zero x h = let e : x ≡ 0 = omega (arith, h) in let k : d x ≡ d 0 = ap d e in omega (arith, k)
most_of d (suc n) x h = elim (either (x == suc n)) [
  | inl e ↦ (let k : d x ≡ d (suc n) = ap d (eqb_same x (suc n) e) in omega (arith, k))
  | inr e ↦ (let k : d x ≤ most d n = most_of d n x (omega (arith, h, differs e)) in omega (arith, k))
] where
  differs : (x == suc n) ≡ false → x ≢ suc n
  differs e z = not_both (x == suc n) (ap (λ (y : ℕ). y == suc n) z ∙ eqb_refl (suc n)) e

-- parked tasks are put back
module _ (f g h : Parents) (df : HasDepths f) (dg : HasDepths g) (rows : (t : ℕ) → h t ≡ either_of (f t) (g t)) (free : (t : ℕ) → IsSome (f t) → g t ≡ None)
    (range : (t : ℕ) → IsSome (f t) → 1 ≤ t) (high : (t : ℕ) → IsSome (g t) → t ≤ 64) (parents : (t p : ℕ) → g t ≡ Some p → p ≢ 0 → IsSome (g p))
    (homes : (t p : ℕ) → f t ≡ Some p → IsSome (either_of (f p) (g p))) where
  abbrev joined_depth : ℕ → ℕ
  joined_depth x = if is_some (f x) then suc (most dg.0 64) + df.0 x else dg.0 x

  parked : (x : ℕ) → is_some (f x) ≡ true → joined_depth x ≡ suc (most dg.0 64) + df.0 x
  parked x e = cond-true (is_some (f x)) (suc (most dg.0 64) + df.0 x) (dg.0 x) e

  left : (x : ℕ) → is_some (f x) ≡ false → joined_depth x ≡ dg.0 x
  left x e = cond-false (is_some (f x)) (suc (most dg.0 64) + df.0 x) (dg.0 x) e

  at_home : (p : ℕ) → is_some (f p) ≡ false → IsSome (either_of (f p) (g p)) → IsSome (g p)
  at_home p e s = go (f p) e s where
    go : (x : Option ℕ) → is_some x ≡ false → IsSome (either_of x (g p)) → IsSome (g p)
    go None e s = s
    go (Some y) e s = absurd (not_both true refl e)

  join_depths : HasDepths h
  join_depths = (joined_depth, λ t p e. go t p (f t) refl (sym (rows t) ∙ e)) where
    from_parked : (t p : ℕ) → f t ≡ Some p → joined_depth p < joined_depth t
    from_parked t p e =
        let a : joined_depth t ≡ suc (most dg.0 64) + df.0 t = parked t (ap is_some e) in
        elim (either (is_some (f p))) [
          | inl s ↦ (let b : joined_depth p ≡ suc (most dg.0 64) + df.0 p = parked p s in
              let k : df.0 p < df.0 t = df.1 t p e in
              omega (arith, a, b, k))
          | inr s ↦ (let b : joined_depth p ≡ dg.0 p = left p s in
              let k : dg.0 p ≤ most dg.0 64 = most_of dg.0 64 p (high p (at_home p s (homes t p e))) in
              omega (arith, a, b, k))
        ]

    from_left : (t p : ℕ) → f t ≡ None → g t ≡ Some p → joined_depth p < joined_depth t
    from_left t p n e =
        let a : joined_depth t ≡ dg.0 t = left t (ap is_some n) in
        let k : dg.0 p < dg.0 t = dg.1 t p e in
        elim (either (is_some (f p))) [
          | inl s ↦ (let l : 1 ≤ p = range p s in absurd (no_task (g p) (free p s) (parents t p e (positive p l))))
          | inr s ↦ (let b : joined_depth p ≡ dg.0 p = left p s in omega (arith, a, b, k))
        ]

    go : (t p : ℕ) (x : Option ℕ) → f t ≡ x → either_of x (g t) ≡ Some p → joined_depth p < joined_depth t
    go t p None e k = from_left t p e k
    go t p (Some y) e k = from_parked t p (e ∙ k)

pub depths_join : (f g h : Parents) → ∥ HasDepths f ∥₁ → ∥ HasDepths g ∥₁ → ((t : ℕ) → h t ≡ either_of (f t) (g t)) → ((t : ℕ) → IsSome (f t) → g t ≡ None)
    → ((t : ℕ) → IsSome (f t) → 1 ≤ t) → ((t : ℕ) → IsSome (g t) → t ≤ 64) → ((t p : ℕ) → g t ≡ Some p → p ≢ 0 → IsSome (g p))
    → ((t p : ℕ) → f t ≡ Some p → IsSome (either_of (f p) (g p))) → ∥ HasDepths h ∥₁
depths_join f g h parked left rows free range high parents homes =
    ∥∥₁_map₂ parked left (λ df dg. join_depths f g h df dg rows free range high parents homes)
