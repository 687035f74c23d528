-- Which levels of a subtree occur, by one walk up from each task.
use Rattle.std.proofs.Common.{◌≡◌, ℕ, zero, suc, ◌+◌, ◌-◌, ◌<◌, ◌≤◌, Bool, false, ◌==◌, Option, Some, None, [], ◌∷◌, ◌++◌, refl, ◌∙◌, ap, subst, arith, inl, inr}
use Rattle.std.specs.Prelude.{filter, if◌then◌else◌}
use Rattle.std.specs.List.{range_with_len}
use Rattle.std.proofs.lemmas.Bool.{cases_lt}
use Rattle.vsm_model.specs.Search.{holds}
use Rattle.storage_changes.specs.Ending.{is_below_by, ended_level, ended_from, ended_below}

-- nothing in a run is left if none passes
nobody : (f : ℕ → Bool) (len first : ℕ) → ((t : ℕ) → first ≤ t → t < first + len → f t ≡ false) → filter f (range_with_len first len) ≡ []
nobody f zero first none = refl
nobody f (suc len) first none =
    let others = filter f (range_with_len (first + 1) len) in
    ap (λ b. if b then first ∷ others else others) (none first (omega arith) (omega arith))
    ∙ nobody f len (first + 1) (λ t low high. none t (omega (arith, low)) (omega (arith, high)))

module _ (parents : ℕ → Option ℕ) (top : ℕ) where
  -- A walk up: this many steps above the task it's at this one, and it met the top after at most `most` of them.
  pub record Walked (task done above most : ℕ) : Type 0 where
    pub few : most ≤ done
    pub there : (n k : ℕ) → n ≡ done + k → is_below_by parents top n task ≡ is_below_by parents top k above
    pub rest : (steps : ℕ) → most < steps → steps ≤ done → is_below_by parents top steps task ≡ false

  pub walk_begins : (task : ℕ) → Walked task 0 task 0
  walk_begins task = record {
    few = omega arith;
    there = λ n k is. let same : n ≡ k = omega (arith, is) in ap (λ j. is_below_by parents top j task) same;
    rest = λ steps some none. absurd (omega (arith, some, none));
  }

  module _ (task done above most : ℕ) (w : Walked task done above most) where
    -- a step up
    module _ (parent : ℕ) (at : parents above ≡ Some parent) where
      up : (n k : ℕ) → n ≡ (done + 1) + k → is_below_by parents top n task ≡ is_below_by parents top k parent
      up n k is = w.there n (suc k) (omega (arith, is)) ∙ ap (holds (is_below_by parents top k)) at

      -- to the top
      pub walk_meets : Walked task (done + 1) parent (done + 1)
      walk_meets = record {
        few = omega arith;
        there = up;
        rest = λ steps more few. absurd (omega (arith, more, few));
      }

      -- or not
      pub walk_passes : (parent == top) ≡ false → Walked task (done + 1) parent most
      walk_passes other = record {
        few = omega (arith, w.few);
        there = up;
        rest = λ steps more few. elim (cases_lt done steps) [
          | inl last ↦ up steps 0 (omega (arith, last, few)) ∙ other
          | inr before ↦ w.rest steps more before
        ];
      }

    -- nobody is above
    pub walk_ends : parents above ≡ None → (steps : ℕ) → most < steps → is_below_by parents top steps task ≡ false
    walk_ends none steps more =
        elim (cases_lt done steps) [
          | inl later ↦
              let k = steps - (done + 1) in
              w.there steps (suc k) (omega (arith, later)) ∙ ap (holds (is_below_by parents top k)) none
          | inr before ↦ w.rest steps more before
        ]

  -- none of the earlier tasks is more than `most` steps below
  abbrev pub AreWithin : ℕ → ℕ → Type 0
  AreWithin most task =
      (steps t : ℕ) → most < steps → steps ≤ 63 → 1 ≤ t → t < task → is_below_by parents top steps t ≡ false

  pub one_within : (most its new task : ℕ) → most ≤ new → its ≤ new → AreWithin most task
      → ((steps : ℕ) → its < steps → steps ≤ 63 → is_below_by parents top steps task ≡ false) → AreWithin new (task + 1)
  one_within most its new task more far before here steps t deep within low high =
      elim (cases_lt t task) [
        | inl earlier ↦ before steps t (omega (arith, more, deep)) within low earlier
        | inr last ↦
            let same : task ≡ t = omega (arith, last, high) in
            subst (λ u. is_below_by parents top steps u ≡ false) same (here steps (omega (arith, far, deep)) within)
      ]

  -- so the level is empty
  pub level_empty : (most steps : ℕ) → AreWithin most 65 → most < steps → steps ≤ 63 → ended_level parents top steps ≡ []
  level_empty most steps within deep few =
      nobody (is_below_by parents top steps) 64 1 (λ t low high. within steps t deep few low (omega (arith, high)))

  -- if the levels further below are empty, the tasks are those of the levels that occur
  levels_empty : (most last : ℕ) → last ≤ most → ((steps : ℕ) → last < steps → steps ≤ most → ended_level parents top steps ≡ [])
      → ended_from parents top most ≡ ended_from parents top last
  levels_empty zero last few none =
      let same : zero ≡ last = omega (arith, few) in
      ap (ended_from parents top) same
  levels_empty (suc most) last few none =
      elim (cases_lt most last) [
        | inl more ↦
            let same : suc most ≡ last = omega (arith, few, more) in
            ap (ended_from parents top) same
        | inr less ↦
            ap (λ xs. xs ++ ended_from parents top most) (none (suc most) (omega (arith, less)) (omega arith))
            ∙ levels_empty most last less (λ steps deep less. none steps deep (omega (arith, less)))
      ]

  -- The subtree is the levels that occur.
  pub ended_levels : (last : ℕ) → last ≤ 63 → ((steps : ℕ) → last < steps → steps ≤ 63 → ended_level parents top steps ≡ [])
      → ended_below parents top ≡ ended_from parents top last
  unfolding ended_below
  ended_levels last few none = levels_empty 63 last few none
