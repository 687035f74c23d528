-- The end of tasks: their records lead to its effect.
use Rattle.std.proofs.Common.{◌≡◌, ◌≢◌, ℕ, Bool, true, false, not, ◌&&◌, ◌||◌, ◌==◌, if◌then◌else◌, List, [], ◌∷◌, ◌++◌, Option, Some, None, is_some, refl, sym, ◌∙◌, ap, subst, true≢false}
use Rattle.std.specs.Prelude.{◌/◌}
use Rattle.std.specs.List.{flat_map}
use Rattle.run_set.specs.Runs.{inside}
use Rattle.std.proofs.lemmas.Bool.{cond-true, both_ways, eqb-true, false_from_ne_true}
use Rattle.vsm_model.specs.declared.limits.Settings.{Settings}
use Rattle.vsm_model.specs.Ending.{without_tasks}
use Rattle.vsm_model.specs.Regions.{settings_valid}
use Rattle.vsm_model.specs.Registers.{with_registers}
use Rattle.vsm_model.specs.Search.{holds, is_in}
use Rattle.vsm_model.specs.State.{State}
use Rattle.vsm_model.specs.WellFormed.{IsWellFormed}
use Rattle.storage_changes.specs.TableLaws.{PoolsAreFound, RowsOfTheOthersStay}
use Rattle.storage_changes.specs.NamedPools.{AreNamed}
use Rattle.subpool_storage.specs.Subpools.{is_there}
use Rattle.storage_changes.specs.declared.record.Record.{Record}
use Rattle.storage_changes.specs.declared.record.Record.TheVariants.{Turn}
use Rattle.storage_changes.specs.State.{StorageState}
use Rattle.storage_changes.specs.Changes.{Change, change_parking, outset}
use Rattle.storage_changes.specs.Meaning.{model_of, IsSound}
use Rattle.storage_changes.specs.StorageActions.{register_records, run_of}
use Rattle.storage_changes.specs.Leads.{Leads, AreRegisters}
use Rattle.storage_changes.proofs.Rows.{with_rows, same_rows, task_is_there, leads_to, none_fresh, fresh_of}
use Rattle.storage_changes.specs.Ending.{owned_by_these, released_records, rows_unseen, unshared_records, removed_records, ended_records}
use Rattle.storage_changes.specs.Ending.{end_records, end_blanks, with_turn, CanEnd}
use Rattle.storage_changes.specs.TaskLaws.{EndingLeads}
use Rattle.storage_changes.proofs.EndModel.{pages_lead, taken_lead, stands}
use Rattle.storage_changes.proofs.EndParked.{gone, released, released_go}
use Rattle.storage_changes.proofs.EndRows.{rows_are_shared, rows_are_apart, unshared_sight, last_sight, owned_are_alone, sight_leads}
use Rattle.storage_changes.proofs.EndSight.{seeing, unshared_lead, removed_lead}
use Rattle.storage_changes.proofs.EndSubpools.{owned_are_apart}
use Rattle.storage_changes.proofs.EndTasks.{having, AllGo, ends_go}
use Rattle.storage_changes.proofs.EndWalk.{Comes, LeadsOn, leads_first, comes_on, rows_then}

-- what is known of tables: each cell pool is found in one, and what it becomes if some of them are deleted
abbrev TableLaws : Type 0
TableLaws = PoolsAreFound × RowsOfTheOthersStay

module _ (settings : Settings) (m : StorageState) (ended : List ℕ) (next : ℕ) (set : List (ℕ × ℕ)) (valid : settings_valid settings ≡ true)
    (sound : IsSound settings m) (laws : TableLaws) (named : AreNamed m.subpools.cells) (can : CanEnd (model_of m) ended next) (are : AreRegisters set) where
  -- at the turn of the next task
  abbrev turned : StorageState
  turned = with_turn (released settings m sound valid laws.0 named ended) next

  -- when none sees what the tasks owned,
  abbrev unshared_state : StorageState
  unshared_state = seeing turned (unshared_sight settings m sound ended)

  -- when no subpool of theirs exists,
  abbrev removed_state : StorageState
  removed_state = seeing turned (last_sight settings m sound ended)

  ends : (t : ℕ) → is_in ended t ≡ true → (is_some (m.tasks.parents t) ≡ true) × (t ≢ 1) × (next ≢ t)
  ends t own = (
    can.tasks t own,
    λ same. both_ways (is_in ended 1) can.later (sym (ap (is_in ended) same) ∙ own),
    λ same. both_ways (is_in ended next) can.stays (ap (is_in ended) same ∙ own),
  )

  all_go : AllGo m removed_state [] ended m.tasks.parents m.tasks.words
  all_go =
      ends_go m sound.well_formed.tasks removed_state ended [] m.tasks.parents m.tasks.words
      (record {
        no_task = λ t e. absurd (true≢false (sym e));
        tasks = λ t e. refl;
        zeros = λ t r e. absurd (true≢false (sym e));
        same_words = λ t r e. refl;
      })
      (λ t subtask e. absurd (true≢false (sym e))) can.order ends

  -- and when they have ended
  abbrev last : StorageState
  last = having removed_state all_go.after_parents all_go.after_words

  unshared_leads : LeadsOn turned (unshared_records m.subpools ended) unshared_state
  unshared_leads = unshared_lead turned m.subpools.sight (rows_unseen m.subpools ended) (rows_are_shared settings m sound ended) (rows_are_apart settings m sound ended)

  removed_leads : LeadsOn unshared_state (removed_records m.subpools ended) removed_state
  removed_leads =
      removed_lead turned (unshared_sight settings m sound ended) (owned_by_these m.subpools ended)
      (owned_are_alone settings m sound ended turned
      (λ p k own. cond-true (is_in ended p.owner) false (m.subpools.pages p k) own)
      (λ p d own. cond-true (is_in ended p.owner) false (m.subpools.free p d) own))
      (owned_are_apart m.subpools ended)

  turn_leads : LeadsOn (released settings m sound valid laws.0 named ended) (Turn (record { task = next }) ∷ unshared_records m.subpools ended) unshared_state
  turn_leads =
      leads_first (released settings m sound valid laws.0 named ended) turned unshared_state (Turn (record { task = next })) (unshared_records m.subpools ended)
      (λ w rests. (
        record { task = can.turn; current = task_is_there settings m sound },
        record { state = refl; none_brought = rests.none_brought; spare = rests.spare },
      ))
      unshared_leads

  abbrev change : Change
  change =
      change_parking (owned_by_these m.subpools ended) (end_records m ended next ++ register_records (with_turn m next) set) (end_blanks m ended)

  -- what moves over, and the turn with the rows of sight; then the subpools; then the tasks
  abbrev first : List Record
  first = released_records m.subpools ended ++ Turn (record { task = next }) ∷ unshared_records m.subpools ended

  first_comes : Comes (outset m change) first unshared_state
  first_comes =
      comes_on (outset m change) (released_records m.subpools ended) (Turn (record { task = next }) ∷ unshared_records m.subpools ended)
      (released settings m sound valid laws.0 named ended) unshared_state (released_go settings m sound valid laws.0 named ended change.records) turn_leads

  removed_comes : Comes (outset m change) (first ++ removed_records m.subpools ended) removed_state
  removed_comes = comes_on (outset m change) first (removed_records m.subpools ended) unshared_state removed_state first_comes removed_leads

  ended_comes : Comes (outset m change) (end_records m ended next) last
  ended_comes =
      comes_on (outset m change) (first ++ removed_records m.subpools ended) (flat_map (ended_records m) ended) removed_state last removed_comes all_go.leads

  all_comes : Comes (outset m change) change.records (with_rows last set)
  all_comes =
      let P : List Record → Type 0 = λ rs. Comes (outset m change) (end_records m ended next ++ rs) (with_rows last set) in
      let same = same_rows (with_turn m next) last set refl (λ r. all_go.have_gone.same_words next r can.stays) in
      subst P same (rows_then (outset m change) (end_records m ended next) last set (ap is_some (all_go.have_gone.tasks next can.stays) ∙ can.turn) are ended_comes)

  -- on the plain machine
  abbrev plain : State
  plain = without_tasks (record (model_of m) { current = next }) (is_in ended)

  parents_lead : (t : ℕ) → all_go.after_parents t ≡ (if is_in ended t then None else m.tasks.parents t)
  parents_lead t = go (is_in ended t) refl where
    go : (b : Bool) → is_in ended t ≡ b → all_go.after_parents t ≡ (if b then None else m.tasks.parents t)
    go true own = all_go.have_gone.no_task t own
    go false other = all_go.have_gone.tasks t other

  words_lead : (t r : ℕ) → all_go.after_words t r ≡ (if is_in ended t then 0 else m.tasks.words t r)
  words_lead t r = go (is_in ended t) refl where
    go : (b : Bool) → is_in ended t ≡ b → all_go.after_words t r ≡ (if b then 0 else m.tasks.words t r)
    go true own = all_go.have_gone.zeros t r own
    go false other = all_go.have_gone.same_words t r other

  subpools_lead : (number owner : ℕ) → is_there last.subpools (record { number = number; owner = owner })
      ≡ (not (is_in ended owner) && is_there m.subpools (record { number = number; owner = owner }))
  subpools_lead number owner =
      ap (holds (λ o. o == owner)) (sight_leads settings m sound ended owner number) ∙ go (is_in ended owner) (m.subpools.sight owner number) refl where
        own : (x : ℕ) (c : Bool) → is_in ended x ≡ c → is_in ended owner ≡ false → holds (λ o. o == owner) (if c then None else Some x) ≡ (x == owner)
        own x true gone_too stays = sym (false_from_ne_true (x == owner) (λ same. true≢false (sym gone_too ∙ ap (is_in ended) (eqb-true x owner same) ∙ stays)))
        own x false kept stays = refl

        go : (b : Bool) (o : Option ℕ) → is_in ended owner ≡ b
            → holds (λ o. o == owner) (if b || holds (is_in ended) o then None else o) ≡ (not b && holds (λ o. o == owner) o)
        go true o ends = refl
        go false None stays = refl
        go false (Some x) stays = own x (is_in ended x) refl stays

  model_leads : model_of last ≡ plain
  model_leads = λ i. record plain {
    parents = λ t. parents_lead t i;
    words = λ t r. words_lead t r i;
    subpools = λ number owner. subpools_lead number owner i;
    sight = λ t n. sight_leads settings m sound ended t n i;
    pages = λ k. pages_lead settings m sound (gone settings m sound valid laws.0 named ended) m.subpools.sight k i;
    taken = λ d. taken_lead settings m sound (gone settings m sound valid laws.0 named ended) m.subpools.sight d i;
    cell_pools = laws.1 m.subpools.cells (λ q. is_in ended q.settings.subpool.owner) (λ row. is_in ended row.subpool.owner) named (λ q. refl) i;
  }

  leads_there : IsWellFormed settings (with_registers plain set) → Leads settings m change (with_registers plain set)
  leads_there formed =
      leads_to settings m last change set plain all_comes.fits all_comes.rests.state all_comes.rests.none_brought
      (λ a. fresh_of m (run_of 0 0) a (inside (a / 4096) (run_of 0 0)) refl (none_fresh m (a / 4096)))
      (stands settings m sound (gone settings m sound valid laws.0 named ended) (last_sight settings m sound ended)) model_leads formed

pub ending_leads : PoolsAreFound → RowsOfTheOthersStay → EndingLeads
ending_leads found stay settings m ended next set valid sound named can are formed =
    leads_there settings m ended next set valid sound (found, stay) named can are formed
