-- The end of tasks leaves pages, sight and tasks sound.
use Rattle.std.proofs.Common.{◌≡◌, ℕ, zero, suc, ◌/◌, ◌<◌, ◌^◌, Bool, true, false, not, ◌||◌, ◌==◌, if◌then◌else◌, Option, Some, None, is_some, refl, sym, ◌∙◌, ap, subst, arith, inl, inr, true≢false}
use Rattle.std.proofs.lemmas.Bool.{cond-false, and_from, and_parts, or_cases, or_left, or_right, eqb-true, cases_Bool, both_ways, not-true, or_from, or_parts}
use Rattle.vsm_model.specs.declared.Subpool.{Subpool}
use Rattle.vsm_model.specs.declared.limits.Settings.{Settings}
use Rattle.vsm_model.specs.Search.{holds}
use Rattle.vsm_model.specs.State.{State, is_task}
use Rattle.vsm_model.specs.Ending.{climbs, without_tasks}
use Rattle.vsm_model.specs.WellFormed.{PagesAreSound, SightIsSound, TasksAreSound}
use Rattle.service_laws.proofs.Options.{none_some}

there_still : {A : Type 0} (b : Bool) (o : Option A) → is_some (if b then None else o) ≡ true → (b ≡ false) × (is_some o ≡ true)
there_still true o e = absurd (true≢false (sym e))
there_still false o e = (refl, e)

same_still : {A : Type 0} (b : Bool) (o : Option A) (x : A) → (if b then None else o) ≡ Some x → (b ≡ false) × (o ≡ Some x)
same_still true o x e = absurd (none_some x e)
same_still false o x e = (refl, e)

module _ (s : State) (these : ℕ → Bool) (closed : (task parent : ℕ) → s.parents task ≡ Some parent → these parent ≡ true → these task ≡ true) where
  -- all that is below a task that ends ends
  ends_below : (n top task : ℕ) → climbs s.parents n top task ≡ true → these top ≡ true → these task ≡ true
  ends_below zero top task e ends = subst (λ t. these t ≡ true) (sym (eqb-true task top e)) ends
  ends_below (suc n) top task e ends =
      elim (or_cases (task == top) (holds (climbs s.parents n top) (s.parents task)) e) [
        | inl is ↦ subst (λ t. these t ≡ true) (sym (eqb-true task top is)) ends
        | inr up ↦ elim (s.parents task) as (λ o. s.parents task ≡ o → holds (climbs s.parents n top) o ≡ true → these task ≡ true) [
          | None ↦ λ at none. absurd (true≢false (sym none))
          | Some p ↦ λ at later. closed task p at (ends_below n top p later ends)
        ] refl up
      ]

  -- the parent of a task that stays stays
  parent_stays : (task p : ℕ) → s.parents task ≡ Some p → these task ≡ false → these p ≡ false
  parent_stays task p at stays =
      elim (cases_Bool (these p)) [
        | inl ends ↦ absurd (both_ways (these task) stays (closed task p at ends))
        | inr is ↦ is
      ]

  -- a task that stays climbs as before
  stays_below : (n top task : ℕ) → climbs s.parents n top task ≡ true → these task ≡ false → climbs (without_tasks s these).parents n top task ≡ true
  stays_below zero top task e stays = e
  stays_below (suc n) top task e stays =
      elim (or_cases (task == top) (holds (climbs s.parents n top) (s.parents task)) e) [
        | inl is ↦ or_left (task == top) _ is
        | inr up ↦ or_right (task == top) _ (subst (λ o. holds (climbs (without_tasks s these).parents n top) o ≡ true) (sym (cond-false (these task) None (s.parents task) stays))
            (elim (s.parents task) as (λ o. s.parents task ≡ o → holds (climbs s.parents n top) o ≡ true → holds (climbs (without_tasks s these).parents n top) o ≡ true) [
              | None ↦ λ at none. none
              | Some p ↦ λ at later. stays_below n top p later (parent_stays task p at stays)
            ] refl up))
      ]

  is_there : (task : ℕ) → these task ≡ false → is_task s task ≡ true → is_task (without_tasks s these) task ≡ true
  is_there task stays there = ap is_some (cond-false (these task) None (s.parents task) stays) ∙ there

  sees_still : (task number owner : ℕ) → s.sight task number ≡ Some owner → these task ≡ false → these owner ≡ false →
      (without_tasks s these).sight task number ≡ Some owner
  sees_still task number owner at stays too =
      cond-false (these task || holds these (s.sight task number)) None (s.sight task number) (or_from (these task) _ stays (ap (holds these) at ∙ too)) ∙ at

  owns_still : (number owner : ℕ) → s.subpools number owner ≡ true → these owner ≡ false → (without_tasks s these).subpools number owner ≡ true
  owns_still number owner there stays = and_from (not (these owner)) (s.subpools number owner) (ap not stays) there

  -- what is then seen was seen, by a task that stays, of a task that stays
  saw : (task number owner : ℕ) → (without_tasks s these).sight task number ≡ Some owner →
      (s.sight task number ≡ Some owner) × (these task ≡ false) × (these owner ≡ false)
  saw task number owner e =
      let still = same_still (these task || holds these (s.sight task number)) (s.sight task number) owner e in
      let both = or_parts (these task) (holds these (s.sight task number)) still.0 in
      (still.1, both.0, sym (ap (holds these) still.1) ∙ both.1)

  pub sight_sound : SightIsSound s → SightIsSound (without_tasks s these)
  sight_sound w = record {
    owner_is_task = λ number owner there.
        let parts = and_parts (not (these owner)) (s.subpools number owner) there in
        is_there owner (not-true (these owner) parts.0) (w.owner_is_task number owner parts.1);
    owner_sees = λ number owner there.
        let parts = and_parts (not (these owner)) (s.subpools number owner) there in
        let stays = not-true (these owner) parts.0 in
        sees_still owner number owner (w.owner_sees number owner parts.1) stays stays;
    is_private = λ number owner there. w.is_private number owner (and_parts (not (these owner)) (s.subpools number owner) there).1;
    seer_is_task = λ task number owner e. let was = saw task number owner e in is_there task was.1 (w.seer_is_task task number owner was.0);
    seen_is_there = λ task number owner e. let was = saw task number owner e in owns_still number owner (w.seen_is_there task number owner was.0) was.2;
    sees_zero = λ task there.
        let still = there_still (these task) (s.parents task) there in
        let (owner, at, above) = w.sees_zero task still.1 in
        let stays : these owner ≡ false =
        elim (cases_Bool (these owner)) [
          | inl ends ↦ absurd (both_ways (these task) still.0 (ends_below 64 owner task above ends))
          | inr is ↦ is
        ] in
        (owner, sees_still task 0 owner at still.0 stays, stays_below 64 owner task above still.0);
  }

  pub tasks_sound : these 1 ≡ false → these s.current ≡ false → TasksAreSound s → TasksAreSound (without_tasks s these)
  tasks_sound first now w = record {
    root = cond-false (these 1) None (s.parents 1) first ∙ w.root;
    below_root = λ task there. let still = there_still (these task) (s.parents task) there in stays_below 64 1 task (w.below_root task still.1) still.0;
    current_is_task = is_there s.current now w.current_is_task;
    numbered = λ task there. w.numbered task (there_still (these task) (s.parents task) there).1;
    are_words = λ task register. below (these task) (s.words task register) (w.are_words task register);
    no_task = λ task register none. gone (these task) (s.parents task) (s.words task register) none (λ is. w.no_task task register is);
    no_register = λ task register past. none_of (these task) (s.words task register) (w.no_register task register past);
  } where
    below : (b : Bool) (word : ℕ) → word < 2 ^ 32 → (if b then 0 else word) < 2 ^ 32
    below true word h = omega arith
    below false word h = h

    none_of : (b : Bool) (word : ℕ) → word ≡ 0 → (if b then 0 else word) ≡ 0
    none_of true word h = refl
    none_of false word h = h

    gone : (b : Bool) (o : Option ℕ) (word : ℕ) → is_some (if b then None else o) ≡ false → (is_some o ≡ false → word ≡ 0) → (if b then 0 else word) ≡ 0
    gone true o word e h = refl
    gone false o word e h = h e

  -- the pages of the tasks that stay
  these_pools : Subpool → Bool
  these_pools p = these p.owner

  pub pages_sound : (settings : Settings) → PagesAreSound settings s → PagesAreSound settings (without_tasks s these)
  unfolding these_pools
  pages_sound settings w = record {
    in_region = λ k p e. w.in_region k p (same_still (holds these_pools (s.pages k)) (s.pages k) p e).1;
    has_subpool = λ k p e.
        let still = same_still (holds these_pools (s.pages k)) (s.pages k) p e in
        owns_still p.number p.owner (w.has_subpool k p still.1) (sym (ap (holds these_pools) still.1) ∙ still.0);
    has_taken = λ k p e.
        let still = same_still (holds these_pools (s.pages k)) (s.pages k) p e in
        let (d, at, taken) = w.has_taken k p still.1 in
        (d, at, and_from (not (holds these_pools (s.pages (d / 512)))) (s.taken d) (ap (λ j. not (holds these_pools (s.pages j))) at ∙ ap not still.0) taken);
    in_page = λ d taken.
        let parts = and_parts (not (holds these_pools (s.pages (d / 512)))) (s.taken d) taken in
        ap is_some (cond-false (holds these_pools (s.pages (d / 512))) None (s.pages (d / 512)) (not-true _ parts.0)) ∙ w.in_page d parts.1;
    has_bytes = λ a. alike (holds these_pools (s.pages (a / 4096))) (s.bytes a) (s.pages (a / 4096)) (w.has_bytes a);
    are_bytes = λ a byte e. w.are_bytes a byte (same_still (holds these_pools (s.pages (a / 4096))) (s.bytes a) byte e).1;
  } where
    alike : (b : Bool) (byte : Option ℕ) (page : Option Subpool) → is_some byte ≡ is_some page →
        is_some {T = ℕ} (if b then None else byte) ≡ is_some {T = Subpool} (if b then None else page)
    alike true byte page h = refl
    alike false byte page h = h
