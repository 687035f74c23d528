-- What an ATTACH leaves.
use Rattle.std.proofs.Common.{◌≡◌, ◌≢◌, ◌⊎◌, ℕ, true, false, not, ◌&&◌, ◌||◌, ◌==◌, ◌++◌, if◌then◌else◌, Option, Some, List, [], ◌∷◌, refl, sym, ◌∙◌, ap, subst, arith, inl, inr, true≢false}
use Rattle.std.specs.Prelude.{unwrap_or}
use Rattle.std.specs.Option.{option_map}
use Rattle.std.proofs.lemmas.Bool.{cond-true, cond-false, and_from, and_left, and_right, or_left, eqb-true, eq-eqb, ne_eqb, both_ways, not-false, false_from_ne_true}
use Rattle.vsm_model.specs.declared.Subpool.{Subpool}
use Rattle.vsm_model.specs.declared.limits.Settings.{Settings}
use Rattle.vsm_model.specs.declared.services.Attach.{Attach}
use Rattle.vsm_model.specs.Search.{is_in, holds}
use Rattle.vsm_model.specs.CellPools.{CellPool, CellPools, cell_pool_in}
use Rattle.vsm_model.specs.State.{State, is_task}
use Rattle.vsm_model.specs.Subpools.{with_subpool}
use Rattle.vsm_model.specs.Registers.{with_registers}
use Rattle.vsm_model.specs.Passing.{numbers_in, is_anothers, with_gifts, with_shares}
use Rattle.vsm_model.specs.Tasks.{free_number, with_task, with_zero}
use Rattle.vsm_model.specs.WellFormed.{IsWellFormed}
use Rattle.service_laws.specs.Attached.{IsGiven, IsShared, HasItsOwn, IsAttached, AttachMakesATask}
use Rattle.service_laws.proofs.Numbers.{IsPrivate, in_left, in_right, in_all, not_in_both, apart_left, apart_right, none_any, read, are_numbers}
use Rattle.service_laws.proofs.Passed
use Rattle.service_laws.proofs.Began.{owns_none}
use Rattle.service_laws.proofs.Attaches.{CanAttach, attach_passes, least_number, good, fresh, new_is_other}
use Rattle.service_laws.proofs.IsShared.{is_shared}
use Rattle.service_laws.proofs.IsGiven.{IsPassedOn, is_given, page_was, page_stays, pool_stays}
use Rattle.service_laws.proofs.Accepted.{attach_accepted}

module _ (settings : Settings) (s : State) (w : IsWellFormed settings s) (a : Attach) (can : CanAttach s a) where
  abbrev new : ℕ
  new = unwrap_or (free_number s) 0

  abbrev given : List ℕ
  given = unwrap_or (numbers_in s a.given) []

  abbrev shared : List ℕ
  shared = unwrap_or (numbers_in s a.shared) []

  abbrev began : State
  began = with_zero (with_task s new) new a.shares_zero

  abbrev passed_on : State
  passed_on = with_gifts began new given

  abbrev after : State
  after = with_shares passed_on new shared

  abbrev t : State
  t = with_registers after ((15, 0) ∷ (1, new) ∷ [])

  apart : new ≢ s.current
  apart = new_is_other settings s w a can

  was_none : is_task s new ≡ false
  was_none = (fresh settings s w a can).2

  owned_none : (number : ℕ) → s.subpools number new ≡ false
  owned_none number = owns_none settings s w new (fresh settings s w a can).0 (fresh settings s w a can).1 was_none number

  not_shared : (n : ℕ) → is_in given n ≡ true → is_in shared n ≡ false
  not_shared n is = false_from_ne_true (is_in shared n) (λ too. not_in_both given shared n (good settings s w a can).1 is too)

  not_given : (n : ℕ) → is_in shared n ≡ true → is_in given n ≡ false
  not_given n is = false_from_ne_true (is_in given n) (λ too. not_in_both given shared n (good settings s w a can).1 too is)

  not_zero : (n : ℕ) → is_in (given ++ shared) n ≡ true → (n == 0) ≡ false
  not_zero n is =
      let low = (in_all IsPrivate (given ++ shared) (good settings s w a can).0 n is).0 in
      ne_eqb n 0 (λ zero. absurd (omega (arith, zero, low)))

  zero_not_given : is_in given 0 ≡ false
  zero_not_given = false_from_ne_true (is_in given 0) (λ is. true≢false (not_zero 0 (in_left given shared 0 is)))

  zero_not_shared : is_in shared 0 ≡ false
  zero_not_shared = false_from_ne_true (is_in shared 0) (λ is. true≢false (not_zero 0 (in_right given shared 0 is)))

  began_current : began.current ≡ s.current
  began_current = Passed.zero_current (with_task s new) new a.shares_zero

  passed_current : passed_on.current ≡ s.current
  passed_current = Passed.gifts_current given began new ∙ began_current

  after_current : after.current ≡ s.current
  after_current = Passed.shares_current shared passed_on new ∙ passed_current

  after_parents : after.parents ≡ (with_task s new).parents
  after_parents =
      Passed.shares_parents shared passed_on new ∙ Passed.gifts_parents given began new ∙ Passed.zero_parents (with_task s new) new a.shares_zero

  zeroed : Passed.SameStorage (with_task s new) began
  zeroed = Passed.zero_storage (with_task s new) new a.shares_zero

  joined : Passed.SameStorage passed_on after
  joined = Passed.shares_storage shared passed_on new

  words_are : (task register : ℕ) →
      t.words task register
      ≡ (if (task == s.current) && (register == 1) then new else if (task == s.current) && (register == 15) then 0 else s.words task register)
  words_are task register =
      λ i. if (task == after_current i) && (register == 1) then new
      else if (task == after_current i) && (register == 15) then 0 else (joined.words ∙ Passed.gifts_words given began new ∙ zeroed.words) i task register

  neither : (task register : ℕ) → ((task == s.current) && (register == 1)) ≡ false → ((task == s.current) && (register == 15)) ≡ false →
      t.words task register ≡ s.words task register
  neither task register one fifteen =
      words_are task register
      ∙ cond-false ((task == s.current) && (register == 1)) new (if (task == s.current) && (register == 15) then 0 else s.words task register) one
      ∙ cond-false ((task == s.current) && (register == 15)) 0 (s.words task register) fifteen

  others_words : (task register : ℕ) → (task ≢ s.current) ⊎ ((register ≢ 15) × (register ≢ 1)) → t.words task register ≡ s.words task register
  others_words task register (inl other) =
      let not_in_it = ne_eqb task s.current other in
      neither task register (and_left (task == s.current) (register == 1) not_in_it) (and_left (task == s.current) (register == 15) not_in_it)
  others_words task register (inr other) =
      neither task register (and_right (task == s.current) (register == 1) (ne_eqb register 1 other.1))
      (and_right (task == s.current) (register == 15) (ne_eqb register 15 other.0))

  is_current : (s.current == s.current) ≡ true
  is_current = eq-eqb s.current s.current refl

  passed : IsPassedOn s t new given
  passed = record {
    current = after_current;
    apart = apart;
    had_no_page = λ k number at. both_ways (s.subpools number new) (owned_none number) (w.pages.has_subpool k (record { number = number; owner = new }) at);
    pages = λ k.
        ap (λ (pages : ℕ → Option Subpool). pages k) joined.pages
        ∙ Passed.gifts_pages given began new k (λ is. apart (is ∙ began_current))
        ∙ (λ i. option_map (Passed.handed_over given (began_current i) new) (zeroed.pages i k));
    cell_pools = λ name.
        ap (λ (table : CellPools). cell_pool_in table name) joined.cell_pools
        ∙ Passed.gifts_cell_pools given began new name (λ is. apart (is ∙ began_current))
        ∙ (λ i. option_map (λ (pool : CellPool). record pool { subpool = Passed.handed_over given (began_current i) new pool.subpool })
        (cell_pool_in (zeroed.cell_pools i) name));
  }

  owns : (n : ℕ) → is_in given n ≡ true → (owner : ℕ) → s.sight s.current n ≡ Some owner → owner ≡ s.current
  owns n is owner at =
      let not_others : is_anothers s n ≡ false = none_any (is_anothers s) given n can.owns is in
      eqb-true owner s.current (not-false (owner == s.current) (sym (ap (holds (λ o. not (o == s.current))) at) ∙ not_others))

  each_given : (n : ℕ) → is_in given n ≡ true → IsGiven s t new n
  each_given n is =
      let other = not_zero n (in_left given shared n is) in
      let alone = apart_left given shared (good settings s w a can).1 in
      is_given s t new given passed n is (owns n is)
      (λ task.
      Passed.shares_other_sight shared passed_on new task n (not_shared n is)
      ∙ Passed.gifts_sight given began new n task alone is
      ∙ (λ i. Passed.gift_row (λ u. Passed.zero_other_sight (with_task s new) new a.shares_zero u n other i) (began_current i) new task))
      (λ owner.
      Passed.shares_other_subpools shared passed_on new n owner (not_shared n is)
      ∙ Passed.gifts_subpools given began new n owner alone is
      ∙ (λ i. Passed.gift_pools (λ u. Passed.zero_other_subpools (with_task s new) new a.shares_zero n u other i) (began_current i) new owner))

  -- the row of a number that isn't given
  kept_sight : (n task : ℕ) → (n == 0) ≡ false → is_in given n ≡ false → passed_on.sight task n ≡ s.sight task n
  kept_sight n task other not_in_it =
      Passed.gifts_other_sight given began new task n not_in_it ∙ Passed.zero_other_sight (with_task s new) new a.shares_zero task n other

  kept_subpools : (n owner : ℕ) → (n == 0) ≡ false → is_in given n ≡ false → passed_on.subpools n owner ≡ s.subpools n owner
  kept_subpools n owner other not_in_it =
      Passed.gifts_other_subpools given began new n owner not_in_it ∙ Passed.zero_other_subpools (with_task s new) new a.shares_zero n owner other

  each_shared : (n : ℕ) → is_in shared n ≡ true → IsShared s t new n
  each_shared n is =
      let other = not_zero n (in_right given shared n is) in
      let alone = apart_right given shared (good settings s w a can).1 in
      is_shared s t new n
      (λ task.
      Passed.shares_sight shared passed_on new n task alone is
      ∙ (λ i. Passed.share_row (λ u. kept_sight n u other (not_given n is) i) (passed_current i) new task))
      (λ owner.
      Passed.shares_subpools shared passed_on new n owner alone is
      ∙ (λ i. Passed.share_pools (λ u. kept_sight n u other (not_given n is) i) (λ u. kept_subpools n u other (not_given n is) i) (passed_current i) owner))
      w.sight apart

  zero_sight : (task : ℕ) → t.sight task 0 ≡ began.sight task 0
  zero_sight task =
      Passed.shares_other_sight shared passed_on new task 0 zero_not_shared ∙ Passed.gifts_other_sight given began new task 0 zero_not_given

  zero_subpools : (owner : ℕ) → t.subpools 0 owner ≡ began.subpools 0 owner
  zero_subpools owner =
      Passed.shares_other_subpools shared passed_on new 0 owner zero_not_shared ∙ Passed.gifts_other_subpools given began new 0 owner zero_not_given

  zero_shared : a.shares_zero ≡ true → IsShared s t new 0
  zero_shared is =
      is_shared s t new 0
      (λ task. zero_sight task ∙ ap (λ b. (with_zero (with_task s new) new b).sight task 0) is ∙ Passed.share_sight_at (with_task s new) new 0 task)
      (λ owner. zero_subpools owner ∙ ap (λ b. (with_zero (with_task s new) new b).subpools 0 owner) is ∙ Passed.share_subpools_at (with_task s new) new 0 owner)
      w.sight apart

  zero_own : a.shares_zero ≡ false → HasItsOwn s t new 0
  zero_own is =
      let sight : (task : ℕ) → t.sight task 0 ≡ (with_subpool (with_task s new) 0 new).sight task 0 =
      λ task. zero_sight task ∙ ap (λ b. (with_zero (with_task s new) new b).sight task 0) is in
      let subpools : (owner : ℕ) → t.subpools 0 owner ≡ (with_subpool (with_task s new) 0 new).subpools 0 owner =
      λ owner. zero_subpools owner ∙ ap (λ b. (with_zero (with_task s new) new b).subpools 0 owner) is in
      record {
        owned = subpools new ∙ or_left ((0 == 0) && (new == new)) (s.subpools 0 new) (and_from (0 == 0) (new == new) refl (eq-eqb new new refl));
        seen = sight new ∙ cond-true ((new == new) && (0 == 0)) (Some new) (s.sight new 0) (and_from (new == new) (0 == 0) (eq-eqb new new refl) refl);
        no_page = λ k e. both_ways (is_in given 0) zero_not_given (page_was s t new given passed k 0 e).0;
        other_sight = λ other apart_from_it.
            sight other ∙ cond-false ((other == new) && (0 == 0)) (Some new) (s.sight other 0) (and_left (other == new) (0 == 0) (ne_eqb other new apart_from_it));
        other_owners = λ owner apart_from_it.
            subpools owner ∙ ap (λ b. b || s.subpools 0 owner) (and_right (0 == 0) (owner == new) (ne_eqb owner new apart_from_it));
      }

  stays_put : (p : Subpool) → (is_in given p.number ≡ false) ⊎ (p.owner ≢ s.current) → (is_in given p.number && (p.owner == s.current)) ≡ false
  stays_put p (inl not_in_it) = and_left (is_in given p.number) (p.owner == s.current) not_in_it
  stays_put p (inr other) = and_right (is_in given p.number) (p.owner == s.current) (ne_eqb p.owner s.current other)

  not_null : (n : ℕ) → n ≢ 0 → (n == 0) ≡ false
  not_null n other = ne_eqb n 0 other

  is_attached : IsAttached s t a new
  is_attached = record {
    in_range = ((fresh settings s w a can).0, (fresh settings s w a can).1);
    was_none = was_none;
    is_least = least_number s a can;
    parent = ap (λ (parents : ℕ → Option ℕ). parents new) after_parents ∙ cond-true (new == new) (Some s.current) (s.parents new) (eq-eqb new new refl);
    other_tasks = λ other apart_from_it.
        ap (λ (parents : ℕ → Option ℕ). parents other) after_parents
        ∙ cond-false (other == new) (Some s.current) (s.parents other) (ne_eqb other new apart_from_it);
    current = after_current;
    no_words = λ register. others_words new register (inl apart) ∙ w.tasks.no_task new register was_none;
    register_15 =
        words_are s.current 15
        ∙ cond-false ((s.current == s.current) && (15 == 1)) new (if (s.current == s.current) && (15 == 15) then 0 else s.words s.current 15)
        (and_right (s.current == s.current) (15 == 1) refl)
        ∙ cond-true ((s.current == s.current) && (15 == 15)) 0 (s.words s.current 15) (and_from (s.current == s.current) (15 == 15) is_current refl);
    register_1 =
        words_are s.current 1
        ∙ cond-true ((s.current == s.current) && (1 == 1)) new (if (s.current == s.current) && (1 == 15) then 0 else s.words s.current 1)
        (and_from (s.current == s.current) (1 == 1) is_current refl);
    other_registers = others_words;
    given = given;
    are_given = read (numbers_in s a.given) can.given_is_read;
    shared = shared;
    are_shared = read (numbers_in s a.shared) can.shared_is_read;
    are_numbers = are_numbers (given ++ shared) can.good;
    each_given = each_given;
    each_shared = each_shared;
    zero_shared = zero_shared;
    zero_own = zero_own;
    other_sight = λ number other some not_in_it too.
        Passed.shares_other_sight shared passed_on new other number too ∙ kept_sight number other (not_null number some) not_in_it;
    other_subpools = λ number owner some not_in_it too.
        Passed.shares_other_subpools shared passed_on new number owner too ∙ kept_subpools number owner (not_null number some) not_in_it;
    doublewords = joined.taken ∙ Passed.gifts_taken given began new ∙ zeroed.taken;
    bytes = joined.bytes ∙ Passed.gifts_bytes given began new ∙ zeroed.bytes;
    other_pages = λ k p at stays. page_stays s t new given passed k p at (stays_put p stays);
    no_new_page = λ k none. passed.pages k ∙ ap (option_map (Passed.handed_over given s.current new)) none;
    other_cell_pools = λ name pool at stays. pool_stays s t new given passed name pool at (stays_put pool.subpool stays);
    no_new_cell_pool = λ name none.
        passed.cell_pools name
        ∙ ap (option_map (λ (pool : CellPool). record pool { subpool = Passed.handed_over given s.current new pool.subpool })) none;
  }

pub attach_makes_a_task : AttachMakesATask
attach_makes_a_task settings names_full s t a reply w e =
    let (none, is, replied) = attach_accepted settings names_full s t reply a e in (
      unwrap_or (free_number s) 0,
      subst (λ (u : State). IsAttached s u a (unwrap_or (free_number s) 0)) is (is_attached settings s w a (attach_passes s a none)),
      sym replied,
    )
