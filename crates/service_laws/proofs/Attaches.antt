-- ATTACH leaves a well-formed state well-formed.
use Rattle.std.proofs.Common.{◌≡◌, ◌≢◌, ℕ, ◌<◌, ◌≤◌, true, false, not, ◌==◌, ◌++◌, Option, Some, None, List, [], ◌∷◌, is_some, refl, sym, ◌∙◌, ap, subst, arith, true≢false}
use Rattle.std.specs.Prelude.{unwrap_or, is_none}
use Rattle.std.specs.List.{AllByRecursion, list_any}
use Rattle.std.proofs.lemmas.Bool.{or_left, or_right, eq-eqb, ne_eqb, not-true, not-false, false_from_ne_true}
use Rattle.vsm_model.specs.declared.causes.Cause.TheVariants.{NotAssigned, BadList, NotOwner, TooManyTasks}
use Rattle.vsm_model.specs.declared.limits.Settings.{Settings}
use Rattle.vsm_model.specs.declared.services.Attach.{Attach}
use Rattle.vsm_model.specs.Search.{is_in, IsLeastAmong}
use Rattle.vsm_model.specs.State.{State, is_task}
use Rattle.vsm_model.specs.Subpools.{with_own}
use Rattle.vsm_model.specs.Causes.{Causes, first_cause}
use Rattle.vsm_model.specs.Passing.{numbers_in, is_bad_list, is_anothers, with_gift, with_gifts, with_share, with_shares}
use Rattle.vsm_model.specs.Tasks.{attach_causes, attached, free_number, with_task, with_zero}
use Rattle.vsm_model.specs.Ending.{climbs}
use Rattle.vsm_model.specs.WellFormed.{PagesAreSound, SightIsSound, CellPoolsAreSound, IsWellFormed}
use Rattle.vsm_model.proofs.Chosen.{past}
use Rattle.vsm_model.proofs.Least.{least_among}
use Rattle.vsm_model.proofs.Registered.{registers_leave_well_formed}
use Rattle.service_laws.specs.WellFormedStays.{AttachLeavesWellFormed}
use Rattle.service_laws.proofs.TaskTables.{left_part, right_part}
use Rattle.service_laws.proofs.Numbers.{IsPrivate, AreApart, good_numbers, not_in_both, in_all}
use Rattle.service_laws.proofs.Grown.{StorageIsSound, pages_grown, cell_pools_grown}
use Rattle.service_laws.proofs.Gifts.{a_gift_leaves_sight_sound}
use Rattle.service_laws.proofs.GivenStorage.{pages_given, cell_pools_given}
use Rattle.service_laws.proofs.SightRows.{rows_of, own_parents, own_current, own_grows, own_of_others, share_alone, share_rows, share_other_sight}
use Rattle.service_laws.proofs.Passed.{gifts_current, gifts_parents, gifts_other_subpools, zero_current, zero_parents, zero_other_subpools}
use Rattle.service_laws.proofs.Began.{there_still, new_is_there, owns_none, is_not_current, began_sound}
use Rattle.service_laws.proofs.Attached.{attach_leaves_tasks_sound}
use Rattle.service_laws.proofs.Accepted.{attach_accepted}

gift_sound : (settings : Settings) (s : State) (old new number : ℕ) → is_task s old ≡ true → is_task s new ≡ true → IsPrivate number → StorageIsSound settings s →
    StorageIsSound settings (with_gift s old new number)
gift_sound settings s old new number old_there new_there bounds w = record {
  pages = pages_given s old new number settings w.pages;
  sight = a_gift_leaves_sight_sound s old new number old_there new_there bounds.0 bounds.1 w.sight;
  cell_pools = cell_pools_given s old new number w.cell_pools;
}

gifts_sound : (settings : Settings) (numbers : List ℕ) (s : State) (task : ℕ) → AllByRecursion IsPrivate numbers → is_task s s.current ≡ true → is_task s task ≡ true →
    StorageIsSound settings s → StorageIsSound settings (with_gifts s task numbers)
gifts_sound settings [] s task bounds now there w = w
gifts_sound settings (number ∷ numbers) s task bounds now there w =
    gifts_sound settings numbers (with_gift s s.current task number) task bounds.1 now there (gift_sound settings s s.current task number now there bounds.0 w)

module _ (s : State) (task number : ℕ) (now : is_task s s.current ≡ true) (there : is_task s task ≡ true) (other : task ≢ s.current) (bounds : IsPrivate number) (none : s.subpools number task ≡ false) where
  share_sight_sound : SightIsSound s → SightIsSound (with_share s task number)
  share_sight_sound w =
      let rows = share_rows s task number (rows_of s w) now there bounds.1 other none in
      record {
        owner_is_task = rows.owner_is_task;
        owner_sees = rows.owner_sees;
        is_private = rows.is_private;
        seer_is_task = rows.seer_is_task;
        seen_is_there = rows.seen_is_there;
        sees_zero = λ t at.
            let was : is_task s t ≡ true = sym (ap (λ (parents : ℕ → Option ℕ). is_some (parents t)) (own_parents s number)) ∙ at in
            let (owner, seen, above) = w.sees_zero t was in (
              owner,
              share_other_sight s task number t 0 not_zero ∙ seen,
              ap (λ (parents : ℕ → Option ℕ). climbs parents 64 owner t) (own_parents s number) ∙ above,
            );
      }
    where
      not_zero : (0 == number) ≡ false
      not_zero = let low = bounds.0 in ne_eqb 0 number (λ is. absurd (omega (arith, is, low)))

  share_sound : (settings : Settings) → StorageIsSound settings s → StorageIsSound settings (with_share s task number)
  share_sound settings w = record {
    pages = subst (PagesAreSound settings) (sym (share_alone s task number))
        (pages_grown s s.parents (with_share s task number).subpools (with_share s task number).sight (own_grows s number) settings w.pages);
    sight = share_sight_sound w.sight;
    cell_pools = subst CellPoolsAreSound (sym (share_alone s task number))
        (cell_pools_grown s s.parents (with_share s task number).subpools (with_share s task number).sight (own_grows s number) w.cell_pools);
  }

-- the new task may not own a subpool of one of the numbers
shares_sound : (settings : Settings) (numbers : List ℕ) (s : State) (task : ℕ) → AllByRecursion IsPrivate numbers →
    ((n : ℕ) → is_in numbers n ≡ true → s.subpools n task ≡ false) → task ≢ s.current → is_task s s.current ≡ true → is_task s task ≡ true →
    StorageIsSound settings s → StorageIsSound settings (with_shares s task numbers)
shares_sound settings [] s task bounds nones other now there w = w
shares_sound settings (number ∷ numbers) s task bounds nones other now there w =
    shares_sound settings numbers (with_share s task number) task bounds.1
    (λ n e. own_of_others s number n task other (nones n (or_right (number == n) (is_in numbers n) e)))
    (λ is. other (is ∙ own_current s number))
    (ap (λ (parents : ℕ → Option ℕ). is_some (parents (with_own s number).current)) (own_parents s number) ∙ ap (is_task s) (own_current s number) ∙ now)
    (ap (λ (parents : ℕ → Option ℕ). is_some (parents task)) (own_parents s number) ∙ there)
    (share_sound s task number now there other bounds.0 (nones number (or_left (number == number) (is_in numbers number) (eq-eqb number number refl))) settings w)

-- What holds of an ATTACH without a cause.
pub record CanAttach (s : State) (a : Attach) : Type 0 where
  pub given_is_read : is_none (numbers_in s a.given) ≡ false
  pub shared_is_read : is_none (numbers_in s a.shared) ≡ false
  pub good : is_bad_list (unwrap_or (numbers_in s a.given) [] ++ unwrap_or (numbers_in s a.shared) []) ≡ false
  pub owns : list_any (is_anothers s) (unwrap_or (numbers_in s a.given) []) ≡ false
  pub room : is_none (free_number s) ≡ false

pub attach_passes : (s : State) (a : Attach) → first_cause (attach_causes s a) ≡ None → CanAttach s a
attach_passes s a none =
    let given = numbers_in s a.given in
    let shared = numbers_in s a.shared in
    let last : Causes = (is_none (free_number s), TooManyTasks) ∷ [] in
    let owned : Causes = (list_any (is_anothers s) (unwrap_or given []), NotOwner) ∷ last in
    let good : Causes = (is_bad_list (unwrap_or given [] ++ unwrap_or shared []), BadList) ∷ owned in
    let read : Causes = (is_none shared, NotAssigned) ∷ good in
    let one = past (is_none given) NotAssigned read none in
    let two = past (is_none shared) NotAssigned good one.1 in
    let three = past (is_bad_list (unwrap_or given [] ++ unwrap_or shared [])) BadList owned two.1 in
    let four = past (list_any (is_anothers s) (unwrap_or given [])) NotOwner last three.1 in
    let five = past (is_none (free_number s)) TooManyTasks [] four.1 in
    record { given_is_read = one.0; shared_is_read = two.0; good = three.0; owns = four.0; room = five.0 }

-- the number of the new task, and that each less one has a task
number_of : (s : State) (o : Option ℕ) → IsLeastAmong (λ t. not (is_task s t)) 1 64 o → is_none o ≡ false →
    (1 ≤ unwrap_or o 0) × (unwrap_or o 0 ≤ 64) × (is_task s (unwrap_or o 0) ≡ false)
number_of s None h some = absurd (true≢false some)
number_of s (Some new) h some = let below = h.2 in (h.1, omega (arith, below), not-true (is_task s new) h.0)

pub new_number : (s : State) (a : Attach) → CanAttach s a →
    (1 ≤ unwrap_or (free_number s) 0) × (unwrap_or (free_number s) 0 ≤ 64) × (is_task s (unwrap_or (free_number s) 0) ≡ false)
new_number s a can = number_of s (free_number s) (least_among (λ t. not (is_task s t)) 1 64) can.room

least_of : (s : State) (o : Option ℕ) → IsLeastAmong (λ t. not (is_task s t)) 1 64 o → is_none o ≡ false →
    (n : ℕ) → 1 ≤ n → n < unwrap_or o 0 → is_task s n ≡ true
least_of s None h some n low below = absurd (true≢false some)
least_of s (Some new) h some n low below = not-false (is_task s n) (h.3 n low below)

pub least_number : (s : State) (a : Attach) → CanAttach s a → (n : ℕ) → 1 ≤ n → n < unwrap_or (free_number s) 0 → is_task s n ≡ true
least_number s a can = least_of s (free_number s) (least_among (λ t. not (is_task s t)) 1 64) can.room

module _ (settings : Settings) (s : State) (w : IsWellFormed settings s) (a : Attach) (can : CanAttach s a) where
  abbrev new : ℕ
  new = unwrap_or (free_number s) 0

  abbrev given : List ℕ
  given = unwrap_or (numbers_in s a.given) []

  abbrev shared : List ℕ
  shared = unwrap_or (numbers_in s a.shared) []

  abbrev began : State
  began = with_zero (with_task s new) new a.shares_zero

  abbrev passed_on : State
  passed_on = with_gifts began new given

  pub good : AllByRecursion IsPrivate (given ++ shared) × AreApart (given ++ shared)
  good = good_numbers (given ++ shared) can.good

  pub fresh : (1 ≤ new) × (new ≤ 64) × (is_task s new ≡ false)
  fresh = new_number s a can

  pub new_is_other : new ≢ s.current
  new_is_other = is_not_current settings s w new fresh.0 fresh.1 fresh.2

  began_tasks : (task : ℕ) → is_task (with_task s new) task ≡ true → is_task began task ≡ true
  began_tasks task there = ap (λ (parents : ℕ → Option ℕ). is_some (parents task)) (zero_parents (with_task s new) new a.shares_zero) ∙ there

  began_now : is_task began began.current ≡ true
  began_now =
      ap (is_task began) (zero_current (with_task s new) new a.shares_zero)
      ∙ began_tasks s.current (there_still settings s w new fresh.0 fresh.1 fresh.2 s.current w.tasks.current_is_task)

  began_new : is_task began new ≡ true
  began_new = began_tasks new (new_is_there settings s w new fresh.0 fresh.1 fresh.2)

  passed_on_sound : StorageIsSound settings passed_on
  passed_on_sound =
      gifts_sound settings given began new (left_part IsPrivate given shared good.0) began_now began_new
      (began_sound settings s w new fresh.0 fresh.1 fresh.2 a.shares_zero)

  -- a number that is shared is neither given nor zero, so the new task owns no subpool of it
  owns_no_shared : (n : ℕ) → is_in shared n ≡ true → passed_on.subpools n new ≡ false
  owns_no_shared n e =
      let low = (in_all IsPrivate shared (right_part IsPrivate given shared good.0) n e).0 in
      let apart : is_in given n ≡ false = false_from_ne_true (is_in given n) (λ is. not_in_both given shared n good.1 is e) in
      let not_zero : (n == 0) ≡ false = ne_eqb n 0 (λ is. absurd (omega (arith, is, low))) in
      gifts_other_subpools given began new n new apart
      ∙ zero_other_subpools (with_task s new) new a.shares_zero n new not_zero
      ∙ owns_none settings s w new fresh.0 fresh.1 fresh.2 n

  passed_on_tasks : (task : ℕ) → is_task began task ≡ true → is_task passed_on task ≡ true
  passed_on_tasks task there = ap (λ (parents : ℕ → Option ℕ). is_some (parents task)) (gifts_parents given began new) ∙ there

  storage_sound : StorageIsSound settings (with_shares passed_on new shared)
  storage_sound =
      shares_sound settings shared passed_on new (right_part IsPrivate given shared good.0) owns_no_shared
      (λ is. new_is_other (is ∙ gifts_current given began new ∙ zero_current (with_task s new) new a.shares_zero))
      (ap (is_task passed_on) (gifts_current given began new) ∙ passed_on_tasks began.current began_now)
      (passed_on_tasks new began_new) passed_on_sound

pub attached_is_well_formed : (settings : Settings) (s : State) (a : Attach) → IsWellFormed settings s → first_cause (attach_causes s a) ≡ None →
    IsWellFormed settings (attached s a).0
attached_is_well_formed settings s a w none =
    let storage = storage_sound settings s w a (attach_passes s a none) in
    record { pages = storage.pages; sight = storage.sight; tasks = attach_leaves_tasks_sound s a w.tasks none; cell_pools = storage.cell_pools }

pub attach_leaves_well_formed : AttachLeavesWellFormed
attach_leaves_well_formed settings names_full s t a reply w e =
    let (none, is, replied) = attach_accepted settings names_full s t reply a e in
    let high = (new_number s a (attach_passes s a none)).1 in
    subst (IsWellFormed settings) is
    (registers_leave_well_formed settings ((15, 0) ∷ (1, unwrap_or (free_number s) 0) ∷ []) (attached s a).0
    (omega arith, omega arith, (omega arith, omega (arith, high), tt)) (attached_is_well_formed settings s a w none))
