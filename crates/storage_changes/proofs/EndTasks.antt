-- Tasks that end one by one, each after its subtasks, with registers of zeros.
use Rattle.std.proofs.Common.{◌≡◌, ◌≢◌, ℕ, zero, suc, ◌+◌, ◌-◌, ◌*◌, ◌/◌, ◌<◌, Bool, true, false, ◌&&◌, ◌||◌, ◌==◌, if◌then◌else◌, List, [], ◌∷◌, slice_index_or, Option, Some, None, IsSome, is_some, refl, sym, ◌∙◌, ap, arith, inl, inr, true≢false}
use Rattle.std.specs.Prelude.{map, unwrap_or, nat_le, nat_lt}
use Rattle.std.specs.List.{range_with_len, flat_map, list_any}
use Rattle.std.proofs.lemmas.Bool.{cond-true, cond-false, and_left, and_from, or_left, or_right, or_cases, or_parts, eqb-true, eq-eqb, ne_eqb, cases_Bool, cases_lt, le-leb, lt-ltb, both_ways, false_from_ne_true}
use Rattle.run_set.specs.Runs.{inside}
use Rattle.vsm_model.specs.Search.{holds, is_in}
use Rattle.vsm_model.specs.Ending.{climbs}
use Rattle.vsm_model.specs.WellFormed.{TasksAreSound}
use Rattle.storage_changes.specs.declared.record.Record.TheVariants.{Task}
use Rattle.storage_changes.specs.Meaning.{model_of}
use Rattle.storage_changes.specs.State.{StorageState}
use Rattle.service_laws.proofs.Ends.{comes}
use Rattle.service_laws.proofs.Options.{none_some, held}
use Rattle.storage_changes.specs.Ending.{cleared_quarter, ended_records, AreSubtasksFirst}
use Rattle.storage_changes.proofs.EndLists.{or_nothing}
use Rattle.subpool_set.proofs.SharedLemmas.{any_of_range}
use Rattle.storage_changes.proofs.EndEach.{Each, each_to}
use Rattle.storage_changes.proofs.EndWalk.{LeadsOn, leads_nowhere, leads_first, leads_then}

abbrev pub Parents : Type 0
Parents = ℕ → Option ℕ

abbrev pub Words : Type 0
Words = ℕ → ℕ → ℕ

-- a state with other tasks and registers
abbrev pub having : StorageState → Parents → Words → StorageState
having m parents words = record m { tasks = record m.tasks { parents = parents; words = words } }

-- whether a register is in a quarter
abbrev pub in_quarter : ℕ → ℕ → Bool
in_quarter quarter register = inside register (record { start = 4 * quarter; len = 4 })

-- the word of a register of a quarter whose words are zeros
abbrev pub four_zeros : List ℕ
four_zeros = 0 ∷ 0 ∷ 0 ∷ 0 ∷ []

abbrev pub zero_word : ℕ → ℕ → ℕ
zero_word quarter register = slice_index_or four_zeros (register - 4 * quarter) 0

-- quarters of a task's registers become zeros
abbrev pub cleared : Words → ℕ → List ℕ → Words
cleared words task [] = words
cleared words task (q ∷ qs) = cleared (λ t k. if (t == task) && in_quarter q k then zero_word q k else words t k) task qs

all_zeros : (i : ℕ) → slice_index_or four_zeros i 0 ≡ 0
all_zeros zero = refl
all_zeros (suc zero) = refl
all_zeros (suc (suc zero)) = refl
all_zeros (suc (suc (suc zero))) = refl
all_zeros (suc (suc (suc (suc i)))) = refl

zero_still : (b : Bool) (other word : ℕ) → other ≡ 0 → word ≡ 0 → (if b then other else word) ≡ 0
zero_still true other word z e = z
zero_still false other word z e = e

cleared_zero : (words : Words) (task k : ℕ) (qs : List ℕ) → words task k ≡ 0 → cleared words task qs task k ≡ 0
cleared_zero words task k [] e = e
cleared_zero words task k (q ∷ qs) e =
    cleared_zero (λ t j. if (t == task) && in_quarter q j then zero_word q j else words t j) task k qs
    (zero_still ((task == task) && in_quarter q k) (zero_word q k) (words task k) (all_zeros (k - 4 * q)) e)

its_quarter : (q k : ℕ) → q ≡ k / 4 → in_quarter q k ≡ true
its_quarter q k is =
    and_from (nat_le (4 * q) k) (nat_lt k (4 * q + 4)) (le-leb (4 * q) k (omega (arith, is))) (lt-ltb k (4 * q + 4) (omega (arith, is)))

cleared_in : (words : Words) (task k : ℕ) (qs : List ℕ) → list_any (λ q. q == k / 4) qs ≡ true → cleared words task qs task k ≡ 0
cleared_in words task k [] e = absurd (true≢false (sym e))
cleared_in words task k (q ∷ qs) e =
    let next : Words = λ t j. if (t == task) && in_quarter q j then zero_word q j else words t j in
    elim (or_cases (q == k / 4) (list_any (λ q. q == k / 4) qs) e) [
      | inl is ↦ cleared_zero next task k qs
          (cond-true ((task == task) && in_quarter q k) (zero_word q k) (words task k)
          (and_from (task == task) (in_quarter q k) (eq-eqb task task refl) (its_quarter q k (eqb-true q (k / 4) is)))
          ∙ all_zeros (k - 4 * q))
      | inr later ↦ cleared_in next task k qs later
    ]

cleared_out : (words : Words) (task t k : ℕ) (qs : List ℕ) → (t == task) ≡ false → cleared words task qs t k ≡ words t k
cleared_out words task t k [] other = refl
cleared_out words task t k (q ∷ qs) other =
    cleared_out (λ u j. if (u == task) && in_quarter q j then zero_word q j else words u j) task t k qs other
    ∙ cond-false ((t == task) && in_quarter q k) (zero_word q k) (words t k) (and_left (t == task) (in_quarter q k) other)

-- the records of its registers lead there
clearing_leads : (m : StorageState) (parents : Parents) (words : Words) (task : ℕ) (qs : List ℕ) → IsSome (parents task) → Each (λ q. q < 4) qs
    → LeadsOn (having m parents words) (map (cleared_quarter task) qs) (having m parents (cleared words task qs))
clearing_leads m parents words task [] there low = leads_nowhere (having m parents words)
clearing_leads m parents words task (q ∷ qs) there low =
    let next : Words = λ t k. if (t == task) && in_quarter q k then zero_word q k else words t k in
    let below : q < 4 = low.0 in
    leads_first (having m parents words) (having m parents next) (having m parents (cleared next task qs)) (cleared_quarter task q) (map (cleared_quarter task) qs)
    (λ w rests. (
      record { task = there; first = omega (arith, below); four = refl },
      record { state = refl; none_brought = rests.none_brought; spare = rests.spare },
    ))
    (clearing_leads m parents next task qs there low.1)

-- These have ended, and all below them.
pub record HaveGone (m : StorageState) (gone : ℕ → Bool) (parents : Parents) (words : Words) : Type 0 where
  pub no_task : (t : ℕ) → gone t ≡ true → parents t ≡ None
  pub tasks : (t : ℕ) → gone t ≡ false → parents t ≡ m.tasks.parents t
  pub zeros : (t r : ℕ) → gone t ≡ true → words t r ≡ 0
  pub same_words : (t r : ℕ) → gone t ≡ false → words t r ≡ m.tasks.words t r

-- Where they lead to: all of the list have also ended.
pub record AllGo (m n : StorageState) (gone tasks : List ℕ) (parents : Parents) (words : Words) : Type 0 where
  pub after_parents : Parents
  pub after_words : Words
  pub have_gone : HaveGone m (λ t. is_in gone t || is_in tasks t) after_parents after_words
  pub leads : LeadsOn (having n parents words) (flat_map (ended_records m) tasks) (having n after_parents after_words)

or_move : (a b c : Bool) → ((a || b) || c) ≡ (b || (a || c))
or_move true true c = refl
or_move true false c = refl
or_move false b c = refl

some_value : (o : Option ℕ) → is_some o ≡ true → o ≡ Some (unwrap_or o 0)
some_value None e = absurd (true≢false (sym e))
some_value (Some x) e = refl

module _ (m : StorageState) (w : TasksAreSound (model_of m)) where
  -- a task other than the first one has a parent that is a task
  parent_there : (task : ℕ) → task ≢ 1 → is_some (m.tasks.parents task) ≡ true → is_some (m.tasks.parents (unwrap_or (m.tasks.parents task) 0)) ≡ true
  parent_there task later there =
      elim (or_cases (task == 1) (holds (climbs m.tasks.parents 63 1) (m.tasks.parents task)) (w.below_root task there)) [
        | inl is ↦ absurd (later (eqb-true task 1 is))
        | inr up ↦
            let (p, at, climbs_up) = held (climbs m.tasks.parents 63 1) (m.tasks.parents task) up in
            ap (λ o. is_some (m.tasks.parents (unwrap_or o 0))) at ∙ comes (model_of m) w 63 p climbs_up
      ]

  module _ (n : StorageState) (task : ℕ) (tasks gone : List ℕ) (parents : Parents) (words : Words) (have : HaveGone m (is_in gone) parents words)
      (closed : (t subtask : ℕ) → is_in gone t ≡ true → m.tasks.parents subtask ≡ Some t → is_in gone subtask ≡ true)
      (order : AreSubtasksFirst m.tasks.parents gone (task ∷ tasks)) (there : is_some (m.tasks.parents task) ≡ true) (later : task ≢ 1)
      (idle : n.tasks.current ≢ task) where
    abbrev parent : ℕ
    parent = unwrap_or (m.tasks.parents task) 0

    has_parent : m.tasks.parents task ≡ Some parent
    has_parent = some_value (m.tasks.parents task) there

    still : parents task ≡ Some parent
    still = have.tasks task order.0 ∙ has_parent

    parent_stays : is_in gone parent ≡ false
    parent_stays = false_from_ne_true (is_in gone parent) (λ ends. both_ways (is_in gone task) order.0 (closed parent task ends has_parent))

    abbrev zeros : Words
    zeros = cleared words task (range_with_len 0 4)

    are_zeros : (r : ℕ) → zeros task r ≡ 0
    are_zeros r =
        elim (cases_lt r 16) [
          | inl low ↦ cleared_in words task r (range_with_len 0 4) (any_of_range (λ k. k == r / 4) (r / 4) 4 0 (eq-eqb (r / 4) (r / 4) refl) (omega arith) (omega (arith, low)))
          | inr high ↦ cleared_zero words task r (range_with_len 0 4) (have.same_words task r order.0 ∙ w.no_register task r high)
        ]

    abbrev fewer : Parents
    fewer t = if t == task then None else parents t

    childless : (t : ℕ) → parents t ≢ Some task
    childless t at =
        elim (cases_Bool (is_in gone t)) [
          | inl ends ↦ none_some task (sym (have.no_task t ends) ∙ at)
          | inr stays ↦ both_ways (is_in gone t) stays (order.1 t (sym (have.tasks t stays) ∙ at))
        ]

    outside : parent ≢ task
    outside same = both_ways (is_in gone task) order.0 (order.1 task (has_parent ∙ ap Some same))

    one_leads : LeadsOn (having n parents words) (ended_records m task) (having n fewer zeros)
    one_leads =
        leads_then (having n parents words) (having n parents zeros) (having n fewer zeros) (map (cleared_quarter task) (range_with_len 0 4))
        (Task (record { task = task; parent = parent; present = false }) ∷ [])
        (clearing_leads n parents words task (range_with_len 0 4) (ap is_some still) (each_to 4 0 4 (omega arith)))
        (leads_first (having n parents zeros) (having n fewer zeros) (having n fewer zeros) (Task (record { task = task; parent = parent; present = false })) []
        (λ v rests. (
          record {
            range = w.numbered task there;
            other = still;
            parent = ap is_some (have.tasks parent parent_stays) ∙ parent_there task later there;
            outside = outside;
            childless = childless;
            idle = idle;
            later = later;
            zeros = are_zeros;
            room = omega arith;
          },
          record { state = refl; none_brought = rests.none_brought; spare = let some = rests.spare in omega (arith, some) },
        ))
        (leads_nowhere (having n fewer zeros)))

    -- then it has ended too
    turned_test : (t : ℕ) → (task == t) ≡ false → (t == task) ≡ false
    turned_test t other = ne_eqb t task (λ same. both_ways (task == t) other (eq-eqb task t (sym same)))

    have_one : HaveGone m (is_in (task ∷ gone)) fewer zeros
    have_one = record {
      no_task = λ t ends. elim (or_cases (task == t) (is_in gone t) ends) [
        | inl is ↦ cond-true (t == task) None (parents t) (eq-eqb t task (sym (eqb-true task t is)))
        | inr old ↦ none_of (t == task) (parents t) (have.no_task t old)
      ];
      tasks = λ t stays.
          let both = or_parts (task == t) (is_in gone t) stays in
          cond-false (t == task) None (parents t) (turned_test t both.0) ∙ have.tasks t both.1;
      zeros = λ t r ends. elim (cases_Bool (task == t)) [
        | inl is ↦ ap (λ u. zeros u r) (sym (eqb-true task t is)) ∙ are_zeros r
        | inr other ↦ elim (or_cases (task == t) (is_in gone t) ends) [
          | inl is ↦ absurd (both_ways (task == t) other is)
          | inr old ↦ cleared_out words task t r (range_with_len 0 4) (turned_test t other) ∙ have.zeros t r old
        ]
      ];
      same_words = λ t r stays.
          let both = or_parts (task == t) (is_in gone t) stays in
          cleared_out words task t r (range_with_len 0 4) (turned_test t both.0) ∙ have.same_words t r both.1;
    } where
      none_of : (b : Bool) (o : Option ℕ) → o ≡ None → (if b then None else o) ≡ None
      none_of true o e = refl
      none_of false o e = e

    closed_one : (t subtask : ℕ) → is_in (task ∷ gone) t ≡ true → m.tasks.parents subtask ≡ Some t → is_in (task ∷ gone) subtask ≡ true
    closed_one t subtask ends at =
        or_right (task == subtask) (is_in gone subtask)
        (elim (or_cases (task == t) (is_in gone t) ends) [
          | inl is ↦ order.1 subtask (at ∙ ap Some (sym (eqb-true task t is)))
          | inr old ↦ closed t subtask old at
        ])

  same_gone : (f g : ℕ → Bool) (parents : Parents) (words : Words) → ((t : ℕ) → f t ≡ g t) → HaveGone m f parents words → HaveGone m g parents words
  same_gone f g parents words e have = record {
    no_task = λ t ends. have.no_task t (e t ∙ ends);
    tasks = λ t stays. have.tasks t (e t ∙ stays);
    zeros = λ t r ends. have.zeros t r (e t ∙ ends);
    same_words = λ t r stays. have.same_words t r (e t ∙ stays);
  }

  -- all of them
  pub ends_go : (n : StorageState) (tasks gone : List ℕ) (parents : Parents) (words : Words) → HaveGone m (is_in gone) parents words
      → ((t subtask : ℕ) → is_in gone t ≡ true → m.tasks.parents subtask ≡ Some t → is_in gone subtask ≡ true)
      → AreSubtasksFirst m.tasks.parents gone tasks
      → ((t : ℕ) → is_in tasks t ≡ true → (is_some (m.tasks.parents t) ≡ true) × (t ≢ 1) × (n.tasks.current ≢ t))
      → AllGo m n gone tasks parents words
  ends_go n [] gone parents words have closed order are = record {
    after_parents = parents;
    after_words = words;
    have_gone = same_gone (is_in gone) (λ t. is_in gone t || false) parents words (λ t. sym (or_nothing (is_in gone t))) have;
    leads = leads_nowhere (having n parents words);
  }
  ends_go n (task ∷ tasks) gone parents words have closed order are =
      let it = are task (or_left (task == task) (is_in tasks task) (eq-eqb task task refl)) in
      let next_parents = fewer n task tasks gone parents words have closed order it.0 it.1 it.2 in
      let next_words = zeros n task tasks gone parents words have closed order it.0 it.1 it.2 in
      let rest = ends_go n tasks (task ∷ gone) next_parents next_words (have_one n task tasks gone parents words have closed order it.0 it.1 it.2)
      (closed_one n task tasks gone parents words have closed order it.0 it.1 it.2) order.2 (λ t own. are t (or_right (task == t) (is_in tasks t) own)) in
      record {
        after_parents = rest.after_parents;
        after_words = rest.after_words;
        have_gone =
            same_gone (λ t. is_in (task ∷ gone) t || is_in tasks t) (λ t. is_in gone t || is_in (task ∷ tasks) t) rest.after_parents rest.after_words
            (λ t. or_move (task == t) (is_in gone t) (is_in tasks t)) rest.have_gone;
        leads =
            leads_then (having n parents words) (having n next_parents next_words) (having n rest.after_parents rest.after_words) (ended_records m task)
            (flat_map (ended_records m) tasks) (one_leads n task tasks gone parents words have closed order it.0 it.1 it.2) rest.leads;
      }
