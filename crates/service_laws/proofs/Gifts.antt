-- A gift leaves sight sound.
use Rattle.std.proofs.Common.{◌≡◌, ℕ, ◌≤◌, true, false, not, ◌&&◌, ◌||◌, ◌==◌, if◌then◌else◌, Some, None, sym, ◌∙◌, ap, subst, arith, inl, inr}
use Rattle.std.specs.Option.{option_map}
use Rattle.std.proofs.lemmas.Bool.{cond-true, cond-false, and_from, and_parts, or_cases, or_left, or_right, eqb-true, eq-eqb, cases_Bool, both_ways, not-true}
use Rattle.vsm_model.specs.State.{State, is_task}
use Rattle.vsm_model.specs.Passing.{with_gift}
use Rattle.vsm_model.specs.WellFormed.{SightIsSound}
use Rattle.service_laws.specs.Gifts.{AGiftLeavesSightSound}
use Rattle.service_laws.proofs.Options.{none_some, same_some, mapped}

module _ (s : State) (old new number : ℕ) where
  after : State
  after = with_gift s old new number

  passed_on : ℕ → ℕ
  passed_on owner = if owner == old then new else owner

  other_pool : (n t : ℕ) → (n == number) ≡ false → after.subpools n t ≡ s.subpools n t
  unfolding after
  other_pool n t is = cond-false (n == number) ((t == new) || (not (t == old) && s.subpools n t)) (s.subpools n t) is

  this_pool : (n t : ℕ) → (n == number) ≡ true → after.subpools n t ≡ ((t == new) || (not (t == old) && s.subpools n t))
  unfolding after
  this_pool n t is = cond-true (n == number) ((t == new) || (not (t == old) && s.subpools n t)) (s.subpools n t) is

  other_sight : (task n : ℕ) → (n == number) ≡ false → after.sight task n ≡ s.sight task n
  unfolding after
  other_sight task n is = cond-true (not (n == number)) (s.sight task n) _ (ap not is)

  new_sight : (task n : ℕ) → (n == number) ≡ true → (task == new) ≡ true → after.sight task n ≡ Some new
  unfolding after
  new_sight task n is mine = cond-false (not (n == number)) (s.sight task n) _ (ap not is) ∙ cond-true (task == new) (Some new) _ mine

  old_sight : (task n : ℕ) → (n == number) ≡ true → (task == new) ≡ false → (task == old) ≡ true → after.sight task n ≡ None
  unfolding after
  old_sight task n is others his =
      cond-false (not (n == number)) (s.sight task n) _ (ap not is) ∙ cond-false (task == new) (Some new) _ others ∙ cond-true (task == old) None _ his

  rest_sight : (task n : ℕ) → (n == number) ≡ true → (task == new) ≡ false → (task == old) ≡ false → after.sight task n ≡ option_map passed_on (s.sight task n)
  unfolding after passed_on
  rest_sight task n is others nor =
      cond-false (not (n == number)) (s.sight task n) _ (ap not is) ∙ cond-false (task == new) (Some new) _ others ∙ cond-false (task == old) None _ nor

  gift_sound : is_task s old ≡ true → is_task s new ≡ true → 1 ≤ number → number ≤ 127 → SightIsSound s → SightIsSound (with_gift s old new number)
  unfolding after passed_on
  gift_sound old_there new_there low high w = record {
    owner_is_task = λ n t there. elim (cases_Bool (n == number)) [
      | inr other ↦ w.owner_is_task n t (sym (other_pool n t other) ∙ there)
      | inl is ↦ elim (or_cases (t == new) (not (t == old) && s.subpools n t) (sym (this_pool n t is) ∙ there)) [
        | inl mine ↦ ap (is_task s) (eqb-true t new mine) ∙ new_there
        | inr rest ↦ w.owner_is_task n t (and_parts (not (t == old)) (s.subpools n t) rest).1
      ]
    ];
    owner_sees = λ n t there. elim (cases_Bool (n == number)) [
      | inr other ↦ other_sight t n other ∙ w.owner_sees n t (sym (other_pool n t other) ∙ there)
      | inl is ↦ elim (cases_Bool (t == new)) [
        | inl mine ↦ new_sight t n is mine ∙ ap Some (sym (eqb-true t new mine))
        | inr others ↦ elim (or_cases (t == new) (not (t == old) && s.subpools n t) (sym (this_pool n t is) ∙ there)) [
          | inl mine ↦ absurd (both_ways (t == new) others mine)
          | inr rest ↦
              let parts = and_parts (not (t == old)) (s.subpools n t) rest in
              let nor = not-true (t == old) parts.0 in
              rest_sight t n is others nor ∙ ap (option_map passed_on) (w.owner_sees n t parts.1) ∙ ap Some (cond-false (t == old) new t nor)
        ]
      ]
    ];
    is_private = λ n t there. elim (cases_Bool (n == number)) [
      | inr other ↦ w.is_private n t (sym (other_pool n t other) ∙ there)
      | inl is ↦ let same = eqb-true n number is in omega (arith, same, high)
    ];
    seer_is_task = λ task n owner e. elim (cases_Bool (n == number)) [
      | inr other ↦ w.seer_is_task task n owner (sym (other_sight task n other) ∙ e)
      | inl is ↦ elim (cases_Bool (task == new)) [
        | inl mine ↦ ap (is_task s) (eqb-true task new mine) ∙ new_there
        | inr others ↦ elim (cases_Bool (task == old)) [
          | inl his ↦ ap (is_task s) (eqb-true task old his) ∙ old_there
          | inr nor ↦ let found = mapped passed_on (s.sight task n) owner (sym (rest_sight task n is others nor) ∙ e) in w.seer_is_task task n found.0 found.1
        ]
      ]
    ];
    seen_is_there = λ task n owner e. elim (cases_Bool (n == number)) [
      | inr other ↦ other_pool n owner other ∙ w.seen_is_there task n owner (sym (other_sight task n other) ∙ e)
      | inl is ↦ elim (cases_Bool (task == new)) [
        | inl mine ↦
            let same = same_some new owner (sym (new_sight task n is mine) ∙ e) in
            this_pool n owner is ∙ or_left (owner == new) _ (eq-eqb owner new (sym same))
        | inr others ↦ elim (cases_Bool (task == old)) [
          | inl his ↦ absurd (none_some owner (sym (old_sight task n is others his) ∙ e))
          | inr nor ↦
              let found = mapped passed_on (s.sight task n) owner (sym (rest_sight task n is others nor) ∙ e) in
              elim (cases_Bool (found.0 == old)) [
                | inl was ↦
                    let same : new ≡ owner = sym (cond-true (found.0 == old) new found.0 was) ∙ found.2 in
                    this_pool n owner is ∙ or_left (owner == new) _ (eq-eqb owner new (sym same))
                | inr never ↦
                    let same : found.0 ≡ owner = sym (cond-false (found.0 == old) new found.0 never) ∙ found.2 in
                    this_pool n owner is ∙ or_right (owner == new) _ (subst (λ o. (not (o == old) && s.subpools n o) ≡ true) same
                    (and_from (not (found.0 == old)) (s.subpools n found.0) (ap not never) (w.seen_is_there task n found.0 found.1)))
              ]
        ]
      ]
    ];
    sees_zero = λ task there.
        let found = w.sees_zero task there in
        let other : (0 == number) ≡ false =
        elim (cases_Bool (0 == number)) [
          | inl is ↦ let same = eqb-true 0 number is in absurd (omega (arith, same, low))
          | inr is_not ↦ is_not
        ] in
        (found.0, other_sight task 0 other ∙ found.1, found.2);
  }

pub a_gift_leaves_sight_sound : AGiftLeavesSightSound
a_gift_leaves_sight_sound s old new number old_there new_there low high w = gift_sound s old new number old_there new_there low high w
