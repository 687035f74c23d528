-- A machine that moves along its history.
use Rattle.std.proofs.Common.{◌≡◌, ℕ, zero, suc, ◌+◌, ◌≤◌, ◌↔◌, List, [], ◌∷◌, ◌++◌, length, drop, reverse, Result, Ok, Err, OnOk, OnErr, IfErr, IsOk, sym, ◌∙◌, ap, subst, refl, arith, inl, inr, true, true≢false}
use Rattle.std.proofs.lemmas.Bool.{cases_lt}
use Rattle.std.proofs.lemmas.List.{length-map, length-reverse}
use Rattle.vsm_model.specs.declared.limits.Settings.{Settings}
use Rattle.std.specs.List.{AllByRecursion}
use Rattle.vsm_model.specs.Standing.{Keeps, Back, Forward}
use Rattle.vsm_machine.specs.Meaning.{settings_of}
use Rattle.vsm_machine.specs.NameTable.{rows_of}
use Rattle.step_history.specs.Log.{Log}
use Rattle.step_history.specs.Trail.{trail_of, trail_back, past_count, later_count}
use Rattle.step_history.specs.Walk.{Moment, moment, Times, StepsBack, StepsForward, DiscardsAll}
use Rattle.step_history.specs.declared.too_far.TooFar.{TooFar}
use Rattle.step_history.specs.declared.too_far.TooFarAhead.{TooFarAhead}
use Rattle.vsm_machine.specs.Machine.{statement_step}
use Rattle.vsm_machine.specs.NameSteps.{back_defines_none, back_undefines_none, defines_none, undefines_none}
use Rattle.vsm_machine.specs.Changes.{named_of, shown, HasSameMemory, Swaps, Discards, machine_fits, machine_states, machine_laws, DefineNone, UndefineNone}
use Rattle.bench_core.specs.Stands.{bench_at, answer_to_back, answer_to_forward}
use Rattle.vsm_machine.specs.declared.machine.Machine.{Machine}
use Rattle.vsm_machine.specs.declared.machine.MachineChange.{MachineChange}
use Rattle.bench_core.specs.declared.bench.Bench.{Bench}
use Rattle.bench_core.proofs.Trails.{moves_back_as, moves_forward_as}

all_front : {C : Type 0} (P : C → Type 0) (xs ys : List C) → AllByRecursion P (xs ++ ys) → AllByRecursion P xs
all_front P [] ys h = tt
all_front P (x ∷ xs) ys h = (h.0, all_front P xs ys h.1)

all_last : {C : Type 0} (P : C → Type 0) (xs : List C) (y : C) → AllByRecursion P (xs ++ y ∷ []) → P y
all_last P [] y h = h.0
all_last P (x ∷ xs) y h = all_last P xs y h.1

pub all_push : {C : Type 0} (P : C → Type 0) (xs : List C) (y : C) → AllByRecursion P xs → P y → AllByRecursion P (xs ++ y ∷ [])
all_push P [] y h e = (e, tt)
all_push P (x ∷ xs) y h e = (h.0, all_push P xs y h.1 e)

pub all_dropped : {C : Type 0} (P : C → Type 0) (n : ℕ) (xs : List C) → AllByRecursion P xs → AllByRecursion P (drop n xs)
all_dropped P zero xs h = h
all_dropped P (suc n) [] h = tt
all_dropped P (suc n) (x ∷ xs) h = all_dropped P n xs h.1

-- a step that is turned takes back what it did
pub swap_undefines_none : (m n : Machine) (c d : MachineChange) → Swaps m c n d → defines_none c.name ≡ true → undefines_none d.name ≡ true
swap_undefines_none m n c d w h = back_undefines_none m.names n.names (rows_of m.names) c.name d.name w.inverse_step h

pub swap_defines_none : (m n : Machine) (c d : MachineChange) → Swaps m c n d → undefines_none c.name ≡ true → defines_none d.name ≡ true
swap_defines_none m n c d w h = back_defines_none m.names n.names (rows_of m.names) c.name d.name w.inverse_step h

-- the kept changes take statements back, and the undone ones make them again
pub record Directed (kept undone : List MachineChange) : Type 0 where
  pub kept_define_none : DefineNone kept
  pub undone_undefine_none : UndefineNone undone

abbrev pub Goes : Moment Machine MachineChange → Moment Machine MachineChange → Type 0
Goes p q = (settings_of q.state.storage ≡ settings_of p.state.storage) × Directed q.kept q.undone

-- a step leaves the settings as they were, and the changes that are kept and undone as such
step_back : (p q : Moment Machine MachineChange) → StepsBack Swaps p q → Directed p.kept p.undone → Goes p q
step_back p q step h =
    let c = step.change in
    let d = step.inverse in
    let kept : DefineNone (q.kept ++ c ∷ []) = subst DefineNone step.last h.kept_define_none in
    let none = all_last (λ x. defines_none x.name ≡ true) q.kept c kept in (
      step.swapped.settings,
      record {
        kept_define_none = all_front (λ x. defines_none x.name ≡ true) q.kept (c ∷ []) kept;
        undone_undefine_none = subst UndefineNone (sym step.first) (swap_undefines_none p.state q.state c d step.swapped none, h.undone_undefine_none);
      },
    )

step_forward : (p q : Moment Machine MachineChange) → StepsForward Swaps p q → Directed p.kept p.undone → Goes p q
step_forward p q step h =
    let c = step.change in
    let d = step.inverse in
    let undone : UndefineNone (c ∷ q.undone) = subst UndefineNone step.first h.undone_undefine_none in
    let defined = swap_defines_none p.state q.state c d step.swapped undone.0 in (
      step.swapped.settings,
      record {
        kept_define_none = subst DefineNone (sym step.last) (all_push (λ x. defines_none x.name ≡ true) p.kept d h.kept_define_none defined);
        undone_undefine_none = undone.1;
      },
    )

all_back : (n : ℕ) (p q : Moment Machine MachineChange) → Times (StepsBack Swaps) n p q → Directed p.kept p.undone → Goes p q
all_back zero p q e h = subst (Goes p) e (refl, h)
all_back (suc n) p q (m, steps, step) h =
    let before = all_back n p m steps h in
    let then = step_back m q step before.1 in
    (then.0 ∙ before.0, then.1)

all_forward : (n : ℕ) (p q : Moment Machine MachineChange) → Times (StepsForward Swaps) n p q → Directed p.kept p.undone → Goes p q
all_forward zero p q e h = subst (Goes p) e (refl, h)
all_forward (suc n) p q (m, steps, step) h =
    let before = all_forward n p m steps h in
    let then = step_forward m q step before.1 in
    (then.0 ∙ before.0, then.1)

-- after steps, or a refusal of them: the settings, and the direction of the changes
abbrev pub Stays : Log MachineChange → Machine → Machine → Type 0
Stays new s t = (settings_of t.storage ≡ settings_of s.storage) × Directed new.kept new.undone

module _ (n : ℕ) (old new : Log MachineChange) (s t : Machine) (h : Directed old.kept old.undone) where
  unmoved : (new ≡ old) × (t ≡ s) → Stays new s t
  unmoved same = (ap (λ (m : Machine). settings_of m.storage) same.1, subst (λ (l : Log MachineChange). Directed l.kept l.undone) (sym same.0) h)

  pub back_stays : (r : Result (Unit {0}) TooFar) →
      OnOk r (Times (StepsBack Swaps) n (moment old.kept s old.undone) (moment new.kept t new.undone)) → OnErr r ((new ≡ old) × (t ≡ s)) → Stays new s t
  back_stays (Ok u) steps same = all_back n _ _ steps h
  back_stays (Err e) steps same = unmoved same

  pub forward_stays : (r : Result (Unit {0}) TooFarAhead) →
      OnOk r (Times (StepsForward Swaps) n (moment old.kept s old.undone) (moment new.kept t new.undone)) → OnErr r ((new ≡ old) × (t ≡ s)) → Stays new s t
  forward_stays (Ok u) steps same = all_forward n _ _ steps h
  forward_stays (Err e) steps same = unmoved same

-- after steps, or a refusal of them: the memory

memory_same : (s : Machine) → HasSameMemory s s
memory_same s = record {
  storage = record {
    as_many = refl;
    spare = refl;
    frames = record { spare = refl; made = refl };
    tables = record { tables = λ page. refl; segments = λ page. refl };
  };
  names = refl;
}

memory_then : (s t u : Machine) (c d : MachineChange) → HasSameMemory s t → Swaps t c u d → HasSameMemory s u
memory_then s t u c d k w = let one = k.storage in let two = w.storage in record {
  storage = record {
    as_many = two.as_many ∙ one.as_many;
    spare = two.spare ∙ one.spare;
    frames = record { spare = two.frames.spare ∙ one.frames.spare; made = two.frames.made ∙ one.frames.made };
    tables = record {
      tables = λ page. two.tables.tables page ∙ one.tables.tables page;
      segments = λ page. two.tables.segments page ∙ one.tables.segments page;
    };
  };
  names = w.same ∙ k.names;
}

memory_back : (n : ℕ) (p q : Moment Machine MachineChange) → Times (StepsBack Swaps) n p q → HasSameMemory p.state q.state
memory_back zero p q e = subst (λ (z : Moment Machine MachineChange). HasSameMemory p.state z.state) e (memory_same p.state)
memory_back (suc n) p q (m, steps, step) = memory_then p.state m.state q.state step.change step.inverse (memory_back n p m steps) step.swapped

memory_forward : (n : ℕ) (p q : Moment Machine MachineChange) → Times (StepsForward Swaps) n p q → HasSameMemory p.state q.state
memory_forward zero p q e = subst (λ (z : Moment Machine MachineChange). HasSameMemory p.state z.state) e (memory_same p.state)
memory_forward (suc n) p q (m, steps, step) = memory_then p.state m.state q.state step.change step.inverse (memory_forward n p m steps) step.swapped

module _ (n : ℕ) (old new : Log MachineChange) (s t : Machine) where
  stays_same : t ≡ s → HasSameMemory s t
  stays_same same = subst (HasSameMemory s) (sym same) (memory_same s)

  pub back_memory : (r : Result (Unit {0}) TooFar) →
      OnOk r (Times (StepsBack Swaps) n (moment old.kept s old.undone) (moment new.kept t new.undone)) → OnErr r ((new ≡ old) × (t ≡ s)) → HasSameMemory s t
  back_memory (Ok u) steps same = memory_back n _ _ steps
  back_memory (Err e) steps same = stays_same same.1

  pub forward_memory : (r : Result (Unit {0}) TooFarAhead) →
      OnOk r (Times (StepsForward Swaps) n (moment old.kept s old.undone) (moment new.kept t new.undone)) → OnErr r ((new ≡ old) × (t ≡ s)) → HasSameMemory s t
  forward_memory (Ok u) steps same = memory_forward n _ _ steps
  forward_memory (Err e) steps same = stays_same same.1

-- discarded changes leave the settings as they were
pub discards_settings : (cs : List MachineChange) (s t : Machine) → DiscardsAll Discards cs s t → settings_of t.storage ≡ settings_of s.storage
discards_settings [] s t e = ap (λ (m : Machine). settings_of m.storage) e
discards_settings (c ∷ cs) s t (m, all, one) = one.settings ∙ discards_settings cs s m all

pub past_is : (ks us : List MachineChange) (s : Machine) → machine_fits ks s us → length (bench_at ks s us).past ≡ length ks
past_is ks us s f =
    length-map (reverse (trail_of shown machine_states ks s us).past) named_of
    ∙ length-reverse (trail_of shown machine_states ks s us).past ∙ past_count machine_laws ks us s f

pub later_is : (ks us : List MachineChange) (s : Machine) → machine_fits ks s us → length (bench_at ks s us).later ≡ length us
later_is ks us s f = length-map (trail_of shown machine_states ks s us).later named_of ∙ later_count machine_laws ks us s f

module _ (settings : Settings) (n : ℕ) (old new : Log MachineChange) (s t : Machine) where
  pub back_keeps : (r : Result (Unit {0}) TooFar) → machine_fits old.kept s old.undone → machine_fits new.kept t new.undone →
      machine_states new.kept t new.undone ≡ machine_states old.kept s old.undone → (IsOk r ↔ (n ≤ length old.kept)) →
      OnOk r (length new.kept + n ≡ length old.kept) → IfErr r (λ e. e.kept ≡ length old.kept) → OnErr r ((new ≡ old) × (t ≡ s)) →
      Keeps (statement_step settings) settings.history (bench_at old.kept s old.undone) (Back n) (answer_to_back r) (bench_at new.kept t new.undone)
  back_keeps (Ok u) f g states accepted steps err same =
      let count = past_is old.kept old.undone s f in (
        omega (arith, count, steps),
        moves_back_as named_of n (trail_of shown machine_states old.kept s old.undone) (trail_of shown machine_states new.kept t new.undone)
            (trail_back machine_laws n old.kept old.undone new.kept new.undone s t f g states steps),
      )
  back_keeps (Err e) f g states accepted steps err same =
      let count = past_is old.kept old.undone s f in (
        elim (cases_lt (length old.kept) n) [
          | inl less ↦ omega (arith, count, less)
          | inr more ↦ absurd (true≢false (sym (accepted.1 more)))
        ],
        err ∙ sym count,
        λ i. bench_at (same.0 i).kept (same.1 i) (same.0 i).undone,
      )

  pub forward_keeps : (r : Result (Unit {0}) TooFarAhead) → machine_fits old.kept s old.undone → machine_fits new.kept t new.undone →
      machine_states new.kept t new.undone ≡ machine_states old.kept s old.undone → (IsOk r ↔ (n ≤ length old.undone)) →
      OnOk r (length old.kept + n ≡ length new.kept) → IfErr r (λ e. e.undone ≡ length old.undone) → OnErr r ((new ≡ old) × (t ≡ s)) →
      Keeps (statement_step settings) settings.history (bench_at old.kept s old.undone) (Forward n) (answer_to_forward r) (bench_at new.kept t new.undone)
  forward_keeps (Ok u) f g states accepted steps err same =
      let count = later_is old.kept old.undone s f in
      let few : n ≤ length old.undone = accepted.0 refl in (
        omega (arith, count, few),
        moves_forward_as named_of n (trail_of shown machine_states old.kept s old.undone) (trail_of shown machine_states new.kept t new.undone)
            (trail_back machine_laws n new.kept new.undone old.kept old.undone t s g f (sym states) steps),
      )
  forward_keeps (Err e) f g states accepted steps err same =
      let count = later_is old.kept old.undone s f in (
        elim (cases_lt (length old.undone) n) [
          | inl less ↦ omega (arith, count, less)
          | inr more ↦ absurd (true≢false (sym (accepted.1 more)))
        ],
        err ∙ sym count,
        λ i. bench_at (same.0 i).kept (same.1 i) (same.0 i).undone,
      )

-- the changes of a bench
pub directed_of : (b : Bench) → Directed b.history.kept b.history.undone
directed_of b = record { kept_define_none = b.kept_define_none; undone_undefine_none = b.undone_undefine_none }
