-- A task is attached, with its subpools.
use Rattle.std.proofs.Common.{◌≡◌, ◌≢◌, ℕ, ◌+◌, ◌-◌, ◌*◌, ◌≤◌, Bool, true, false, not, ◌||◌, ◌==◌, if◌then◌else◌, Option, Some, None, IsSome, is_some, List, [], ◌∷◌, ◌++◌, length, refl, sym, ◌∙◌, ap, subst, arith, inl, inr, true≢false}
use Rattle.std.specs.Prelude.{◌/◌}
use Rattle.std.specs.List.{flat_map}
use Rattle.std.proofs.lemmas.Bool.{cond-false, eqb-true, ne_eqb, both_ways, false_from_ne_true, not-true, or_cases}
use Rattle.run_set.specs.Runs.{inside}
use Rattle.vsm_model.specs.declared.limits.Settings.{Settings}
use Rattle.vsm_model.specs.Ending.{climbs}
use Rattle.vsm_model.specs.Passing.{is_anothers, is_bad_list, with_gift, with_gifts, with_share, with_shares}
use Rattle.vsm_model.specs.Search.{holds, is_in, IsLeastAmong}
use Rattle.vsm_model.specs.State.{State, is_task}
use Rattle.vsm_model.specs.Tasks.{with_zero}
use Rattle.vsm_model.proofs.Least.{least_among}
use Rattle.storage_changes.specs.TableLaws.{PoolsAreFound, AllRowsChange}
use Rattle.storage_changes.specs.NamedPools.{AreNamed}
use Rattle.storage_changes.specs.declared.record.Record.{Record}
use Rattle.storage_changes.specs.declared.record.Record.TheVariants.{Task}
use Rattle.storage_changes.specs.Changes.{change_parking, no_pages}
use Rattle.storage_changes.specs.Meaning.{model_of, IsSound}
use Rattle.storage_changes.specs.State.{StorageState, Tasks}
use Rattle.storage_changes.specs.StorageActions.{register_records}
use Rattle.storage_changes.specs.Leads.{AreRegisters}
use Rattle.storage_changes.proofs.ActionCases.{none_from}
use Rattle.storage_changes.proofs.Goes.{at, Goes, goes_on, goes_step}
use Rattle.storage_changes.proofs.Rows.{Stands, with_rows, rows_go, same_rows, leads_to, stands_of, task_is_there, none_fresh, none_brought, fresh_of}
use Rattle.service_laws.proofs.Numbers.{IsPrivate, AreApart, good_numbers, apart_left, apart_right, all_in, in_all, in_left, in_right, not_in_both, none_any}
use Rattle.service_laws.proofs.Options.{same_some}
use Rattle.storage_changes.specs.Attaching.{attach_records, attach_blanks, gift_records, made, share_records, sharing_records, zero_records, with_attached}
use Rattle.storage_changes.specs.TaskLaws.{AttachingLeads}
use Rattle.storage_changes.proofs.AttachNumbers.{AreTwo, gift_steps, sharing_steps}
use Rattle.storage_changes.proofs.AttachOpen.{IsOpen, open_of, open_on, made_steps}
use Rattle.storage_changes.proofs.AttachSteps.{AreSameAt, Steps, same_here, same_on, steps_as, steps_on, all_steps}

module _ (settings : Settings) (m : StorageState) (task : ℕ) (sound : IsSound settings m) (found : PoolsAreFound) (change : AllRowsChange)
    (named : AreNamed m.subpools.cells) (range : (1 ≤ task) × (task ≤ 64)) (free : is_task (model_of m) task ≡ false) where
  abbrev s : State
  s = model_of m

  not_there : m.tasks.parents task ≡ None
  not_there = none_from (m.tasks.parents task) free

  apart : task ≢ m.tasks.current
  apart is = both_ways (is_task s task) free (ap (is_task s) is ∙ sound.well_formed.tasks.current_is_task)

  -- no task has a parent that doesn't exist
  childless : (other : ℕ) → m.tasks.parents other ≢ Some task
  childless other e =
      elim (or_cases (other == 1) (holds (climbs m.tasks.parents 63 1) (m.tasks.parents other)) (sound.well_formed.tasks.below_root other (ap is_some e))) [
        | inl is ↦
            let zero_is : 0 ≡ task = same_some 0 task (sym sound.well_formed.tasks.root ∙ ap m.tasks.parents (sym (eqb-true other 1 is)) ∙ e) in
            absurd (omega (arith, zero_is, range.0))
        | inr up ↦
            elim (or_cases (task == 1) (holds (climbs m.tasks.parents 62 1) (m.tasks.parents task))
            (subst (λ o. holds (climbs m.tasks.parents 63 1) o ≡ true) e up)) [
              | inl is ↦ both_ways (is_task s task) free (ap (is_task s) (eqb-true task 1 is) ∙ ap is_some sound.well_formed.tasks.root)
              | inr further ↦ true≢false (sym further ∙ ap (holds (climbs m.tasks.parents 62 1)) not_there)
            ]
      ]

  -- the storage with that task
  abbrev began : StorageState
  began = record m { tasks = record m.tasks { parents = λ t. if t == task then Some m.tasks.current else m.tasks.parents t } }

  abbrev task_record : Record
  task_record = Task (record { task = task; parent = m.tasks.current; present = true })

  task_goes : (b g : ℕ → Option ℕ) (spare left : ℕ) → left + 4 ≤ spare → Goes (at m b g spare) (task_record ∷ []) began b g left
  task_goes b g spare left less =
      goes_step m began b g b g spare (spare - 4) left task_record
      (record {
        range = range;
        other = not_there;
        parent = task_is_there settings m sound;
        outside = λ is. apart (sym is);
        childless = childless;
        idle = λ is. apart (sym is);
        later = λ is. both_ways (is_task s task) free (ap (is_task s) is ∙ ap is_some sound.well_formed.tasks.root);
        zeros = λ register. sound.well_formed.tasks.no_task task register free;
        room = omega (arith, less);
      })
      refl (omega (arith, less))

  -- the tasks of a storage that has the same
  two : (tasks : Tasks) → tasks ≡ began.tasks → AreTwo tasks task
  two tasks same =
      let P : Tasks → Type 0 = λ t. AreTwo t task in
      subst P (sym same)
      (record { range = range; current = sound.well_formed.tasks.numbered m.tasks.current sound.well_formed.tasks.current_is_task; apart = apart })

  there : (tasks : Tasks) → tasks ≡ began.tasks → IsSome (tasks.parents tasks.current)
  there tasks same =
      let P : Tasks → Type 0 = λ t. IsSome (t.parents t.current) in
      subst P (sym same)
      (ap is_some (cond-false (m.tasks.current == task) (Some m.tasks.current) (m.tasks.parents m.tasks.current) (ne_eqb m.tasks.current task (λ is. apart (sym is))))
      ∙ task_is_there settings m sound)

  module _ (n : StorageState) (x : ℕ) (stands : Stands settings n.subpools n.unassigned) (names : AreNamed n.subpools.cells) (tasks : n.tasks ≡ began.tasks)
      (same : AreSameAt m.subpools n.subpools x) (low : x ≤ 127) where
    now : n.tasks.current ≡ m.tasks.current
    now = ap (λ (t : Tasks). t.current) tasks

    sees : n.subpools.sight n.tasks.current x ≡ m.subpools.sight m.tasks.current x
    sees = ap (λ t. n.subpools.sight t x) now ∙ same.sight m.tasks.current

    opened : IsOpen n.subpools task x
    opened = open_on m.subpools n.subpools task x same (open_of found settings m sound named task free x)

    one_gift : is_anothers s x ≡ false → Steps settings n (gift_records m task x) (with_gift (model_of n) n.tasks.current task x) 2 (λ k. x == k)
    one_gift own =
        gift_steps settings n task x stands names (two n.tasks tasks) low opened change
        (m.subpools.sight m.tasks.current x) sees
        (ap (λ current. holds (λ owner. not (owner == current)) (m.subpools.sight m.tasks.current x)) now ∙ own)

    one_share : Steps settings n (share_records m task x) (with_share (model_of n) task x) 2 (λ k. x == k)
    one_share =
        let P : ℕ → Type 0 = λ current. Steps settings n (sharing_records current task x (m.subpools.sight m.tasks.current x)) (with_share (model_of n) task x) 2 (λ k. x == k) in
        subst P now
        (sharing_steps settings n task x stands names (two n.tasks tasks) low opened change
        (m.subpools.sight m.tasks.current x) sees)

  zero_steps : (shares_zero : Bool) → Steps settings began (zero_records m task shares_zero) (with_zero (model_of began) task shares_zero) 2 (λ k. 0 == k)
  zero_steps true = one_share began 0 (stands_of settings m sound) named refl (same_here m.subpools 0) (omega arith)
  zero_steps false =
      let here = open_of found settings m sound named task free 0 in
      steps_as settings began (made 0 task ∷ []) (with_zero (model_of began) task false) (with_zero (model_of began) task false) 1 2 (λ k. 0 == k) (λ k. 0 == k)
      (made_steps settings began 0 (stands_of settings m sound) named task (omega arith) here task range here.unseen) refl (omega arith) (λ k e. e)

  -- all that follows the task's record
  module _ (shares_zero : Bool) (gifts shares : List ℕ) (good : is_bad_list (gifts ++ shares) ≡ false) (owned : (x : ℕ) → is_in gifts x ≡ true → is_anothers s x ≡ false) where
    private : (x : ℕ) → is_in (gifts ++ shares) x ≡ true → IsPrivate x
    private = in_all IsPrivate (gifts ++ shares) (good_numbers (gifts ++ shares) good).0

    all_apart : AreApart (gifts ++ shares)
    all_apart = (good_numbers (gifts ++ shares) good).1

    abbrev IsOwn : ℕ → Type 0
    IsOwn x = (x ≤ 127) × (is_anothers s x ≡ false)

    abbrev IsLow : ℕ → Type 0
    IsLow x = x ≤ 127

    abbrev zero_first : Steps settings began (zero_records m task shares_zero) (with_zero (model_of began) task shares_zero) 2 (λ k. 0 == k)
    zero_first = zero_steps shares_zero

    -- of a number above 0 all is as it was after the records of subpool 0
    behind_zero : (x : ℕ) → is_in (gifts ++ shares) x ≡ true → AreSameAt m.subpools zero_first.after.subpools x
    behind_zero x is = zero_first.others x (false_from_ne_true (0 == x) (λ e. let zero_is = eqb-true 0 x e in let some = (private x is).0 in absurd (omega (arith, zero_is, some))))

    gifts_next : Steps settings zero_first.after (flat_map (gift_records m task) gifts) (with_gifts (model_of zero_first.after) task gifts) (2 * length gifts) (is_in gifts)
    gifts_next =
        all_steps settings began (gift_records m task) (λ t x. with_gift t t.current task x) IsOwn (λ n x stands names tasks same own. one_gift n x stands names tasks same own.0 own.1)
        (λ t xs. with_gifts t task xs) (λ t. refl) (λ t x xs. refl) gifts zero_first.after zero_first.stands zero_first.named zero_first.tasks (apart_left gifts shares all_apart)
        (all_in IsOwn gifts (λ x is. ((private x (in_left gifts shares x is)).1, owned x is)))
        (λ x is. behind_zero x (in_left gifts shares x is))

    shares_last : Steps settings gifts_next.after (flat_map (share_records m task) shares) (with_shares (model_of gifts_next.after) task shares) (2 * length shares) (is_in shares)
    shares_last =
        all_steps settings began (share_records m task) (λ t x. with_share t task x) IsLow (λ n x stands names tasks same low. one_share n x stands names tasks same low)
        (λ t xs. with_shares t task xs) (λ t. refl) (λ t x xs. refl) shares gifts_next.after gifts_next.stands gifts_next.named (gifts_next.tasks ∙ zero_first.tasks) (apart_right gifts shares all_apart)
        (all_in IsLow shares (λ x is. (private x (in_right gifts shares x is)).1))
        (λ x is. same_on m.subpools zero_first.after.subpools gifts_next.after.subpools x (behind_zero x (in_right gifts shares x is))
        (gifts_next.others x (false_from_ne_true (is_in gifts x) (λ also. not_in_both gifts shares x all_apart also is))))

    abbrev behind : List Record
    behind = zero_records m task shares_zero ++ flat_map (gift_records m task) gifts ++ flat_map (share_records m task) shares

    abbrev touched : ℕ → Bool
    touched k = ((0 == k) || is_in gifts k) || is_in shares k

    pub all_behind : Steps settings began behind (with_attached s task shares_zero gifts shares) (2 + 2 * length gifts + 2 * length shares) touched
    all_behind =
        let cost : ℕ = 2 + 2 * length gifts + 2 * length shares in
        let given : State = with_gifts (model_of zero_first.after) task gifts in
        let last : State = with_shares (model_of gifts_next.after) task shares in
        steps_as settings began behind last (with_attached s task shares_zero gifts shares) cost cost touched touched
        (steps_on settings began (zero_records m task shares_zero ++ flat_map (gift_records m task) gifts) (flat_map (share_records m task) shares) given last
        (2 + 2 * length gifts) (2 * length shares) (λ k. (0 == k) || is_in gifts k) (is_in shares)
        (steps_on settings began (zero_records m task shares_zero) (flat_map (gift_records m task) gifts) (with_zero (model_of began) task shares_zero) given
        2 (2 * length gifts) (λ k. 0 == k) (is_in gifts) zero_first gifts_next) shares_last)
        (ap (λ t. with_shares t task shares) (gifts_next.leads ∙ ap (λ t. with_gifts t task gifts) zero_first.leads)) (omega arith) (λ k e. e)

    -- and registers are set
    module _ (rows : List (ℕ × ℕ)) (are : AreRegisters rows) where
      abbrev n : StorageState
      n = all_behind.after

      registers_go : (b g : ℕ → Option ℕ) (spare : ℕ) → 1 ≤ spare → Goes (at n b g spare) (register_records m rows) (with_rows n rows) b g 1
      registers_go b g spare less =
          let P : List Record → Type 0 = λ rs. Goes (at n b g spare) rs (with_rows n rows) b g 1 in
          let current : n.tasks.current ≡ m.tasks.current = ap (λ (t : Tasks). t.current) all_behind.tasks in
          let same = same_rows m n rows current (λ r. ap (λ (t : Tasks). t.words m.tasks.current r) all_behind.tasks) in
          subst P same (rows_go n b g spare 1 rows (there n.tasks all_behind.tasks) are less)

      pub all_go : (b g : ℕ → Option ℕ) → Goes (at m b g (attach_blanks gifts shares)) (attach_records m task shares_zero gifts shares ++ register_records m rows) (with_rows n rows) b g 1
      all_go b g =
          let left : ℕ = 3 + 2 * (length gifts + length shares) in
          goes_on (at m b g (attach_blanks gifts shares)) (attach_records m task shares_zero gifts shares) (register_records m rows) n (with_rows n rows) b g b g 1 1
          (goes_on (at m b g (attach_blanks gifts shares)) (task_record ∷ []) behind began n b g b g left 1 (task_goes b g (attach_blanks gifts shares) left (omega arith))
          (λ spare less. all_behind.goes b g spare 1 (omega arith) (omega (arith, less))))
          (registers_go b g)

pub attaching_leads : PoolsAreFound → AllRowsChange → AttachingLeads
attaching_leads found change settings m task shares_zero gifts shares rows sound named can are formed =
    let s : State = model_of m in
    let least = subst (IsLeastAmong (λ t. not (is_task s t)) 1 64) can.number (least_among (λ t. not (is_task s t)) 1 64) in
    let below = least.2 in
    let range : (1 ≤ task) × (task ≤ 64) = (least.1, omega (arith, below)) in
    let free = not-true (is_task s task) least.0 in
    let owned : (x : ℕ) → is_in gifts x ≡ true → is_anothers s x ≡ false = λ x is. none_any (is_anothers s) gifts x can.owned is in
    let steps = all_behind settings m task sound found change named range free shares_zero gifts shares can.good owned in
    let d = change_parking [] (attach_records m task shares_zero gifts shares ++ register_records m rows) (attach_blanks gifts shares) in
    let go = all_go settings m task sound found change named range free shares_zero gifts shares can.good owned rows are d.frames (λ a. None) in
    leads_to settings m steps.after d rows (with_attached s task shares_zero gifts shares) go.fits (ap (λ v. v.state) go.there)
    (λ a. ap (λ v. v.brought a) go.there ∙ none_brought a) (λ a. fresh_of m no_pages a (inside (a / 4096) no_pages) refl (none_fresh m (a / 4096)))
    steps.stands steps.leads formed
