-- A task without subtasks that is removed.
use Rattle.std.proofs.Common.{◌≡◌, ◌≢◌, ℕ, ◌<◌, ◌≤◌, Bool, true, false, ◌==◌, ◌&&◌, nat_lt, inl, inr, Option, Some, None, IsSome, is_some, refl, sym, ap, ◌∙◌, subst, arith}
use Rattle.std.specs.Prelude.{if◌then◌else◌, option_map}
use Rattle.std.proofs.lemmas.Bool.{cases_lt, cond-false, cond-true}
use Rattle.row_table.specs.declared.row.Row.{Row}
use Rattle.row_table.specs.Rows.{word}
use Rattle.row_table.proofs.RowLemmas.{either, not_both, none_some, eqb_same, eqb_refl}
use Rattle.task_tree.specs.Tasks.{IsBelow}
use Rattle.task_tree.specs.Kept.{Rows, parents_in, IsTree}
use Rattle.task_tree.proofs.ParkLemmas.{IsSplit, below_four, parent_some, rest_tree, first_stays}

module _ (f rest : Rows) (task : ℕ) (tree : IsTree f) (there : IsSome (parents_in f task)) (other : task ≢ 1)
    (childless : (t : ℕ) → parents_in f t ≢ Some task)
    (left : (a b : ℕ) → rest a b ≡ (if (a == task) && nat_lt b 4 then None else f a b)) where
  -- what is removed
  abbrev out : Rows
  out a b = if a == task then f a b else None

  away : (a b : ℕ) → (a == task) ≡ false → rest a b ≡ f a b
  away a b e = left a b ∙ cond-false ((a == task) && nat_lt b 4) None (f a b) (ap (λ (z : Bool). z && nat_lt b 4) e)

  no_more : (x : Option Row) → (IsSome x → ⊥) → x ≡ None
  no_more None h = refl
  no_more (Some r) h = absurd (h refl)

  here : (a b : ℕ) → (a == task) ≡ true → rest a b ≡ None
  here a b e = elim (cases_lt b 4) [
    | inl l ↦ left a b ∙ cond-true ((a == task) && nat_lt b 4) None (f a b) (ap (λ (z : Bool). z && nat_lt b 4) e ∙ below_four b l)
    | inr l ↦ left a b ∙ same ((a == task) && nat_lt b 4) (no_more (f a b) (λ s. (let r : (1 ≤ a) × (a ≤ 64) × (b < 4) = tree.tasks.ranges a b s in omega (arith, r.2, l))))
  ] where
    same : (z : Bool) → f a b ≡ None → (if z then None else f a b) ≡ None
    same true h = refl
    same false h = h

  in_out : (a : ℕ) → (a == task) ≡ true → is_some (out a 0) ≡ true
  in_out a e = ap is_some (cond-true (a == task) (f a 0) None e ∙ ap (λ (z : ℕ). f z 0) (eqb_same a task e)) ∙ parent_some f task there

  not_out : (a : ℕ) → (a == task) ≡ false → is_some (out a 0) ≡ false
  not_out a e = ap is_some (cond-false (a == task) (f a 0) None e)

  split : IsSplit f rest out task
  split = record {
    left = λ t k. elim (either (t == task)) [
      | inl e ↦ here t k e ∙ sym (cond-true (is_some (out t 0)) None (f t k) (in_out t e))
      | inr e ↦ away t k e ∙ sym (cond-false (is_some (out t 0)) None (f t k) (not_out t e))
    ];
    taken = λ t k. elim (either (t == task)) [
      | inl e ↦ cond-true (t == task) (f t k) None e ∙ sym (cond-true (is_some (out t 0)) (f t k) None (in_out t e))
      | inr e ↦ cond-false (t == task) (f t k) None e ∙ sym (cond-false (is_some (out t 0)) (f t k) None (not_out t e))
    ];
    below = λ t h. elim (either (t == task)) [
      | inl e ↦ (let P : ℕ → Type 0 = IsBelow (parents_in f) task in subst P (sym (eqb_same t task e)) (λ set begin closed. begin))
      | inr e ↦ absurd (not_both (is_some (out t 0)) h (not_out t e))
    ];
    begun = in_out task (eqb_refl task);
  }

  ended_parents : (t : ℕ) → parents_in rest t ≡ (if t == task then None else parents_in f t)
  ended_parents t = elim (either (t == task)) [
    | inl e ↦ ap (option_map (λ (r : Row). word r.words 2)) (here t 0 e) ∙ sym (cond-true (t == task) None (parents_in f t) e)
    | inr e ↦ ap (option_map (λ (r : Row). word r.words 2)) (away t 0 e) ∙ sym (cond-false (t == task) None (parents_in f t) e)
  ]

  -- a task whose parent existed still has it
  homes : (t p : ℕ) → parents_in rest t ≡ Some p → p ≢ 0 → IsSome (parents_in rest p)
  homes t p e ne = elim (either (t == task)) [
    | inl q ↦ absurd (none_some (parents_in rest t) p (ended_parents t ∙ cond-true (t == task) None (parents_in f t) q) e)
    | inr q ↦ (let had : parents_in f t ≡ Some p = sym (ended_parents t ∙ cond-false (t == task) None (parents_in f t) q) ∙ e in
        elim (either (p == task)) [
          | inl r ↦ absurd (childless t (had ∙ ap Some (eqb_same p task r)))
          | inr r ↦ ap is_some (ended_parents p ∙ cond-false (p == task) None (parents_in f p) r) ∙ tree.parents t p had ne
        ])
  ]

  pub ended_tree : IsTree rest
  ended_tree = rest_tree f rest out task split tree.tasks tree.parents homes tree (first_stays f rest out task split tree there other)

  pub ended_running : (t : ℕ) → t ≢ task → IsSome (parents_in f t) → IsSome (parents_in rest t)
  ended_running t ne h = elim (either (t == task)) [
    | inl e ↦ absurd (ne (eqb_same t task e))
    | inr e ↦ ap is_some (ended_parents t ∙ cond-false (t == task) None (parents_in f t) e) ∙ h
  ]

  pub ended_rows : (t : ℕ) → t ≢ task → (k : ℕ) → rest t k ≡ f t k
  ended_rows t ne k = elim (either (t == task)) [
    | inl e ↦ absurd (ne (eqb_same t task e))
    | inr e ↦ away t k e
  ]
