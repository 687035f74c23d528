-- Another subpool, and a share, leave sight sound.
use Rattle.std.proofs.Common.{◌≡◌, ◌≢◌, ℕ, ◌≤◌, Bool, true, false, ◌&&◌, ◌||◌, ◌==◌, if◌then◌else◌, Option, Some, None, is_some, refl, sym, ◌∙◌, ap, subst, arith, inl, inr}
use Rattle.std.specs.Prelude.{unwrap_or}
use Rattle.std.proofs.lemmas.Bool.{cond-true, cond-false, cond_both, and_from, and_parts, and_left, and_right, or_cases, or_left, or_right, or_from, eqb-true, eq-eqb, ne_eqb, cases_Bool, both_ways}
use Rattle.vsm_model.specs.State.{State, is_task}
use Rattle.vsm_model.specs.Subpools.{sees_one, with_sight, with_subpool, with_own}
use Rattle.vsm_model.specs.Passing.{with_share}
use Rattle.vsm_model.specs.WellFormed.{SightIsSound}
use Rattle.service_laws.proofs.Options.{same_some, some_there, none_there}

-- what holds of the value that a test picks
pub chosen : {A : Type 0} (b : Bool) (x y z : A) (P : Type 0) → (if b then x else y) ≡ z → (b ≡ true → x ≡ z → P) → (b ≡ false → y ≡ z → P) → P
chosen true x y z P e f g = f refl e
chosen false x y z P e f g = g refl e

-- Sight except for subpool 0, which a new task doesn't see at once.
pub record RowsAreSound (s : State) : Type 0 where
  pub owner_is_task : (number owner : ℕ) → s.subpools number owner ≡ true → is_task s owner ≡ true
  pub owner_sees : (number owner : ℕ) → s.subpools number owner ≡ true → s.sight owner number ≡ Some owner
  pub is_private : (number owner : ℕ) → s.subpools number owner ≡ true → number ≤ 127
  pub seer_is_task : (task number owner : ℕ) → s.sight task number ≡ Some owner → is_task s task ≡ true
  pub seen_is_there : (task number owner : ℕ) → s.sight task number ≡ Some owner → s.subpools number owner ≡ true

pub rows_of : (s : State) → SightIsSound s → RowsAreSound s
rows_of s w =
    record { owner_is_task = w.owner_is_task; owner_sees = w.owner_sees; is_private = w.is_private; seer_is_task = w.seer_is_task; seen_is_there = w.seen_is_there }

module _ (s : State) (w : RowsAreSound s) where
  pub subpool_rows : (number owner : ℕ) → is_task s owner ≡ true → number ≤ 127 → RowsAreSound (with_subpool s number owner)
  subpool_rows number owner there low = record {
    owner_is_task = λ n t at. elim (or_cases ((n == number) && (t == owner)) (s.subpools n t) at) [
      | inl new ↦ ap (is_task s) (eqb-true t owner (and_parts (n == number) (t == owner) new).1) ∙ there
      | inr old ↦ w.owner_is_task n t old
    ];
    owner_sees = λ n t at. elim (cases_Bool ((t == owner) && (n == number))) [
      | inl own ↦ cond-true ((t == owner) && (n == number)) (Some owner) (s.sight t n) own ∙ ap Some (sym (eqb-true t owner (and_parts (t == owner) (n == number) own).0))
      | inr other ↦ cond-false ((t == owner) && (n == number)) (Some owner) (s.sight t n) other
          ∙ elim (or_cases ((n == number) && (t == owner)) (s.subpools n t) at) [
            | inl new ↦
                let parts = and_parts (n == number) (t == owner) new in
                absurd (both_ways ((t == owner) && (n == number)) other (and_from (t == owner) (n == number) parts.1 parts.0))
            | inr old ↦ w.owner_sees n t old
          ]
    ];
    is_private = λ n t at. elim (or_cases ((n == number) && (t == owner)) (s.subpools n t) at) [
      | inl new ↦ let same = eqb-true n number (and_parts (n == number) (t == owner) new).0 in omega (arith, same, low)
      | inr old ↦ w.is_private n t old
    ];
    seer_is_task = λ t n o e. chosen ((t == owner) && (n == number)) (Some owner) (s.sight t n) (Some o) (is_task s t ≡ true) e
        (λ own _. ap (is_task s) (eqb-true t owner (and_parts (t == owner) (n == number) own).0) ∙ there)
        (λ _ old. w.seer_is_task t n o old);
    seen_is_there = λ t n o e. chosen ((t == owner) && (n == number)) (Some owner) (s.sight t n) (Some o)
        ((((n == number) && (o == owner)) || s.subpools n o) ≡ true) e
        (λ own is. or_left ((n == number) && (o == owner)) (s.subpools n o)
        (and_from (n == number) (o == owner) (and_parts (t == owner) (n == number) own).1 (eq-eqb o owner (sym (same_some owner o is)))))
        (λ _ old. or_right ((n == number) && (o == owner)) (s.subpools n o) (w.seen_is_there t n o old));
  }

  -- the task may not own a subpool of the number: it would no longer see it
  pub sight_rows : (task number owner : ℕ) → is_task s task ≡ true → s.subpools number owner ≡ true → s.subpools number task ≡ false →
      RowsAreSound (with_sight s task number owner)
  sight_rows task number owner there at none = record {
    owner_is_task = w.owner_is_task;
    owner_sees = λ n t is. elim (cases_Bool ((t == task) && (n == number))) [
      | inl own ↦
          let parts = and_parts (t == task) (n == number) own in
          absurd (both_ways (s.subpools number task) none
          (subst (λ k. s.subpools k task ≡ true) (eqb-true n number parts.1) (subst (λ k. s.subpools n k ≡ true) (eqb-true t task parts.0) is)))
      | inr other ↦ cond-false ((t == task) && (n == number)) (Some owner) (s.sight t n) other ∙ w.owner_sees n t is
    ];
    is_private = w.is_private;
    seer_is_task = λ t n o e. chosen ((t == task) && (n == number)) (Some owner) (s.sight t n) (Some o) (is_task s t ≡ true) e
        (λ own _. ap (is_task s) (eqb-true t task (and_parts (t == task) (n == number) own).0) ∙ there)
        (λ _ old. w.seer_is_task t n o old);
    seen_is_there = λ t n o e. chosen ((t == task) && (n == number)) (Some owner) (s.sight t n) (Some o) (s.subpools n o ≡ true) e
        (λ own is. subst (λ k. s.subpools k o ≡ true) (sym (eqb-true n number (and_parts (t == task) (n == number) own).1))
        (subst (λ k. s.subpools number k ≡ true) (same_some owner o is) at))
        (λ _ old. w.seen_is_there t n o old);
  }

-- The subpool that is shared: whose it is.
abbrev pub owner_at : State → ℕ → ℕ
owner_at s number = unwrap_or (s.sight s.current number) s.current

pub owner_seen : (s : State) (number owner : ℕ) → s.sight s.current number ≡ Some owner → owner_at s number ≡ owner
owner_seen s number owner at = ap (λ o. unwrap_or o s.current) at

pub owner_own : (s : State) (number : ℕ) → s.sight s.current number ≡ None → owner_at s number ≡ s.current
owner_own s number none = ap (λ o. unwrap_or o s.current) none

-- what holds if the task sees one, and if a new one is its own
pub own_by : (s : State) (number : ℕ) (P : State → Type 0) → (sees_one s number ≡ true → P s) → (sees_one s number ≡ false → P (with_subpool s number s.current)) →
    P (with_own s number)
own_by s number P sees none = cond_both (sees_one s number) s (with_subpool s number s.current) P sees none

pub own_rows : (s : State) (number : ℕ) → RowsAreSound s → is_task s s.current ≡ true → number ≤ 127 → RowsAreSound (with_own s number)
own_rows s number w there low = own_by s number RowsAreSound (λ _. w) (λ _. subpool_rows s w number s.current there low)

pub own_is_there : (s : State) (number : ℕ) → RowsAreSound s → (with_own s number).subpools number (owner_at s number) ≡ true
own_is_there s number w =
    own_by s number (λ (u : State). u.subpools number (owner_at s number) ≡ true)
    (λ sees.
    let (owner, at) = some_there (s.sight s.current number) sees in
    subst (λ o. s.subpools number o ≡ true) (sym (owner_seen s number owner at)) (w.seen_is_there s.current number owner at))
    (λ none. or_left ((number == number) && (owner_at s number == s.current)) (s.subpools number (owner_at s number))
    (and_from (number == number) (owner_at s number == s.current) (eq-eqb number number refl)
    (eq-eqb (owner_at s number) s.current (owner_own s number (none_there (s.sight s.current number) none)))))

-- another task gets no further subpool
pub own_of_others : (s : State) (number n task : ℕ) → task ≢ s.current → s.subpools n task ≡ false → (with_own s number).subpools n task ≡ false
own_of_others s number n task other none =
    own_by s number (λ (u : State). u.subpools n task ≡ false) (λ _. none)
    (λ _. or_from ((n == number) && (task == s.current)) (s.subpools n task) (and_right (n == number) (task == s.current) (ne_eqb task s.current other)) none)

pub own_parents : (s : State) (number : ℕ) → (with_own s number).parents ≡ s.parents
own_parents s number = own_by s number (λ (u : State). u.parents ≡ s.parents) (λ _. refl) (λ _. refl)

pub own_current : (s : State) (number : ℕ) → (with_own s number).current ≡ s.current
own_current s number = own_by s number (λ (u : State). u.current ≡ s.current) (λ _. refl) (λ _. refl)

pub own_grows : (s : State) (number n owner : ℕ) → s.subpools n owner ≡ true → (with_own s number).subpools n owner ≡ true
own_grows s number n owner at =
    own_by s number (λ (u : State). u.subpools n owner ≡ true) (λ _. at)
    (λ _. or_right ((n == number) && (owner == s.current)) (s.subpools n owner) at)

-- at other numbers all is as it was
pub own_other_sight : (s : State) (number task n : ℕ) → (n == number) ≡ false → (with_own s number).sight task n ≡ s.sight task n
own_other_sight s number task n other =
    own_by s number (λ (u : State). u.sight task n ≡ s.sight task n) (λ _. refl)
    (λ _. cond-false ((task == s.current) && (n == number)) (Some s.current) (s.sight task n) (and_right (task == s.current) (n == number) other))

pub own_other_subpools : (s : State) (number n owner : ℕ) → (n == number) ≡ false → (with_own s number).subpools n owner ≡ s.subpools n owner
own_other_subpools s number n owner other =
    own_by s number (λ (u : State). u.subpools n owner ≡ s.subpools n owner) (λ _. refl)
    (λ _. ap (λ b. b || s.subpools n owner) (and_left (n == number) (owner == s.current) other))

-- A share changes only subpools and sight.
pub share_alone : (s : State) (task number : ℕ) →
    with_share s task number ≡ record s { subpools = (with_share s task number).subpools; sight = (with_share s task number).sight }
share_alone s task number =
    own_by s number
    (λ (u : State). with_sight u task number (owner_at s number)
    ≡ record s { subpools = (with_sight u task number (owner_at s number)).subpools; sight = (with_sight u task number (owner_at s number)).sight })
    (λ _. refl) (λ _. refl)

pub share_rows : (s : State) (task number : ℕ) → RowsAreSound s → is_task s s.current ≡ true → is_task s task ≡ true → number ≤ 127 →
    task ≢ s.current → s.subpools number task ≡ false → RowsAreSound (with_share s task number)
share_rows s task number w now there low other none =
    sight_rows (with_own s number) (own_rows s number w now low) task number (owner_at s number)
    (ap (λ (parents : ℕ → Option ℕ). is_some (parents task)) (own_parents s number) ∙ there)
    (own_is_there s number w) (own_of_others s number number task other none)

pub share_other_sight : (s : State) (task number t n : ℕ) → (n == number) ≡ false → (with_share s task number).sight t n ≡ s.sight t n
share_other_sight s task number t n other =
    cond-false ((t == task) && (n == number)) (Some (owner_at s number)) ((with_own s number).sight t n) (and_right (t == task) (n == number) other)
    ∙ own_other_sight s number t n other
