-- Which tasks are in a subtree, by one climb.
use Rattle.std.proofs.Common.{◌≡◌, ℕ, zero, suc, ◌+◌, ◌-◌, ◌<◌, ◌≤◌, ◌⊎◌, Bool, true, false, ◌||◌, ◌==◌, Option, Some, None, ◌∷◌, ◌++◌, sym, ◌∙◌, ap, subst, arith, inl, inr, true≢false}
use Rattle.std.specs.Prelude.{filter}
use Rattle.std.specs.List.{range_with_len}
use Rattle.std.proofs.lemmas.Bool.{or_cases, or_left, or_right, eqb-true, cases_lt, cond_both, false_from_ne_true}
use Rattle.vsm_model.specs.Search.{holds, is_in}
use Rattle.vsm_model.specs.Ending.{climbs}
use Rattle.service_laws.proofs.Options.{held}
use Rattle.storage_changes.proofs.ActionCases.{same_answers}
use Rattle.storage_changes.proofs.EndLists.{in_either, passes_in, is_in_passing}
use Rattle.storage_changes.specs.Ending.{is_below_by, ended_level, ended_from, ended_below}

-- what is in a filtered run is within the run
within : (f : ℕ → Bool) (t len first : ℕ) → is_in (filter f (range_with_len first len)) t ≡ true → (first ≤ t) × (t < first + len)
within f t zero first e = absurd (true≢false (sym e))
within f t (suc len) first e =
    let others = filter f (range_with_len (first + 1) len) in
    cond_both (f first) (first ∷ others) others (λ xs. is_in xs t ≡ true → (first ≤ t) × (t < first + suc len))
    (λ _ e. elim (or_cases (first == t) (is_in others t) e) [
      | inl is ↦ let same = eqb-true first t is in (omega (arith, same), omega (arith, same))
      | inr later ↦ let (low, high) = within f t len (first + 1) later in (omega (arith, low), omega (arith, high))
    ])
    (λ _ e. let (low, high) = within f t len (first + 1) e in (omega (arith, low), omega (arith, high)))
    e

module _ (parents : ℕ → Option ℕ) (top : ℕ) where
  -- a step up leaves one step less
  pub one_up : (steps done above parent : ℕ) → done < steps → parents above ≡ Some parent →
      is_below_by parents top (steps - (done + 1)) parent ≡ is_below_by parents top (steps - done) above
  one_up steps done above parent less at =
      let len : suc (steps - (done + 1)) ≡ steps - done = omega (arith, less) in
      sym (ap (holds (is_below_by parents top (steps - (done + 1)))) at) ∙ ap (λ n. is_below_by parents top n above) len

  pub climb_up : (steps done above parent : ℕ) → done < steps → (above == top) ≡ false → parents above ≡ Some parent →
      climbs parents (steps - (done + 1)) top parent ≡ climbs parents (steps - done) top above
  climb_up steps done above parent less other at =
      let len : suc (steps - (done + 1)) ≡ steps - done = omega (arith, less) in
      sym (ap (holds (climbs parents (steps - (done + 1)) top)) at)
      ∙ ap (λ b. b || holds (climbs parents (steps - (done + 1)) top) (parents above)) (sym other)
      ∙ ap (λ n. climbs parents n top above) len

  -- the climb ends at the top
  pub climb_here : (steps above : ℕ) → (above == top) ≡ true → climbs parents steps top above ≡ true
  climb_here zero above is = is
  climb_here (suc steps) above is = or_left (above == top) _ is

  -- or if nobody is above
  pub climb_stops : (steps above : ℕ) → (above == top) ≡ false → parents above ≡ None → climbs parents steps top above ≡ false
  climb_stops zero above other none = other
  climb_stops (suc steps) above other none =
      ap (λ b. b || holds (climbs parents steps top) (parents above)) other ∙ ap (holds (climbs parents steps top)) none

  climbs_by : (n k t : ℕ) → k ≤ n → is_below_by parents top k t ≡ true → climbs parents n top t ≡ true
  climbs_by n zero t less e = climb_here n t e
  climbs_by zero (suc k) t less e = absurd (omega (arith, less))
  climbs_by (suc n) (suc k) t less e =
      let (parent, at, later) = held (is_below_by parents top k) (parents t) e in
      or_right (t == top) _ (ap (holds (climbs parents n top)) at ∙ climbs_by n k parent (omega (arith, less)) later)

  steps_of : (n t : ℕ) → climbs parents n top t ≡ true → (k : ℕ) × (k ≤ n) × (is_below_by parents top k t ≡ true)
  steps_of zero t e = (0, omega arith, e)
  steps_of (suc n) t e =
      elim (or_cases (t == top) (holds (climbs parents n top) (parents t)) e) [
        | inl is ↦ (0, omega arith, is)
        | inr up ↦
            let (parent, at, later) = held (climbs parents n top) (parents t) up in
            let (k, less, deep) = steps_of n parent later in
            (suc k, omega (arith, less), ap (holds (is_below_by parents top k)) at ∙ deep)
      ]

  found : (n k t : ℕ) → 1 ≤ t → t ≤ 64 → k ≤ n → is_below_by parents top k t ≡ true → is_in (ended_from parents top n) t ≡ true
  found zero k t low high less e =
      let none : k ≡ 0 = omega (arith, less) in
      is_in_passing (is_below_by parents top 0) t 64 1 (subst (λ j. is_below_by parents top j t ≡ true) none e) low (omega (arith, high))
  found (suc n) k t low high less e =
      let these = ended_level parents top (suc n) in
      in_either these (ended_from parents top n) t
      ∙ elim (cases_lt n k) [
        | inl more ↦
            let last : k ≡ suc n = omega (arith, less, more) in
            or_left (is_in these t) _
            (is_in_passing (is_below_by parents top (suc n)) t 64 1 (subst (λ j. is_below_by parents top j t ≡ true) last e) low (omega (arith, high)))
        | inr few ↦ or_right (is_in these t) _ (found n k t low high few e)
      ]

  -- what is listed is a task's number, and at most this many steps below
  record Listed (n t : ℕ) : Type 0 where
    steps : ℕ
    few : steps ≤ n
    below : is_below_by parents top steps t ≡ true
    low : 1 ≤ t
    high : t ≤ 64

  at_level : (n t : ℕ) → is_in (ended_level parents top n) t ≡ true → Listed n t
  at_level n t e =
      let (low, high) = within (is_below_by parents top n) t 64 1 e in
      record {
        steps = n;
        few = omega arith;
        below = passes_in (is_below_by parents top n) t (range_with_len 1 64) e;
        low = low;
        high = omega (arith, high);
      }

  listed : (n t : ℕ) → is_in (ended_from parents top n) t ≡ true → Listed n t
  listed zero t e = at_level 0 t e
  listed (suc n) t e =
      let these = ended_level parents top (suc n) in
      elim (or_cases (is_in these t) (is_in (ended_from parents top n) t) (sym (in_either these (ended_from parents top n) t) ∙ e)) [
        | inl here ↦ at_level (suc n) t here
        | inr later ↦
            let its = listed n t later in
            record { steps = its.steps; few = omega (arith, its.few); below = its.below; low = its.low; high = its.high }
      ]

  -- a task is in a subtree if the climb ends at its top
  pub is_in_ended : (t : ℕ) → 1 ≤ t → t ≤ 64 → is_in (ended_below parents top) t ≡ climbs parents 63 top t
  unfolding ended_below
  is_in_ended t low high =
      same_answers (is_in (ended_from parents top 63) t) (climbs parents 63 top t)
      (λ e. let its = listed 63 t e in climbs_by 63 its.steps t its.few its.below)
      (λ e. let (k, less, deep) = steps_of 63 t e in found 63 k t low high less deep)

  -- and what is no task's number isn't
  pub none_in_ended : (t : ℕ) → (t ≡ 0) ⊎ (65 ≤ t) → is_in (ended_below parents top) t ≡ false
  unfolding ended_below
  none_in_ended t outside =
      false_from_ne_true (is_in (ended_from parents top 63) t) (λ e.
      let its = listed 63 t e in
      let low = its.low in
      let high = its.high in
      elim outside [
        | inl zero_is ↦ absurd (omega (arith, zero_is, low))
        | inr more ↦ absurd (omega (arith, more, high))
      ])

  -- the tasks up to this many steps below are those of the last level, and those above it
  pub level_next : (most done : ℕ) → done < most →
      ended_from parents top (most - done) ≡ ended_level parents top (most - done) ++ ended_from parents top (most - (done + 1))
  level_next most done less =
      let len : most - done ≡ suc (most - (done + 1)) = omega (arith, less) in
      ap (ended_from parents top) len
      ∙ ap (λ n. ended_level parents top n ++ ended_from parents top (most - (done + 1))) (sym len)
