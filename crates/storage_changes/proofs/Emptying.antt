-- A subpool that loses all its pages, its free storage and its cell pools.
use Rattle.std.proofs.Common.{◌≡◌, ℕ, ◌<◌, ◌≤◌, Bool, true, false, not, ◌&&◌, if◌then◌else◌, List, Option, Some, None, is_some, inl, inr, refl, sym, ◌∙◌, ap, arith, subst, true≢false}
use Rattle.std.specs.Prelude.{◌^◌, ◌/◌}
use Rattle.std.proofs.lemmas.Bool.{cond-false, and_right, and_from, false_from_ne_true}
use Rattle.run_set.specs.Runs.{inside, contains, AreRunsOf}
use Rattle.vsm_model.specs.declared.Subpool.{Subpool}
use Rattle.vsm_model.specs.declared.limits.Settings.{Settings}
use Rattle.vsm_model.specs.Regions.{in_a_region, settings_valid}
use Rattle.vsm_model.specs.Search.{holds}
use Rattle.vsm_model.specs.Subpools.{same_subpool}
use Rattle.vsm_model.specs.Releasing.{without_storage}
use Rattle.vsm_model.specs.Registers.{with_registers}
use Rattle.vsm_model.specs.WellFormed.{IsWellFormed}
use Rattle.subpool_storage.specs.Extents.{extents}
use Rattle.subpool_storage.specs.Subpools.{is_there, no_subpools, with_own, with_storage_of, HasPool}
use Rattle.cell_pool.specs.Pools.{Pool}
use Rattle.storage_changes.specs.NamedPools.{AreNamed}
use Rattle.storage_changes.specs.TableLaws.{RowsOfTheOthersStay}
use Rattle.subpool_storage.proofs.ExtentLemmas.{extents_are_runs}
use Rattle.service_laws.proofs.Places.{page_is_low}
use Rattle.storage_changes.specs.declared.record.Record.{Record}
use Rattle.storage_changes.specs.State.{StorageState}
use Rattle.storage_changes.specs.Walk.{Walk}
use Rattle.storage_changes.specs.Steps.{walk, queues_step}
use Rattle.storage_changes.specs.Fits.{QueuesFits, FitInTurn}
use Rattle.storage_changes.specs.Changes.{Change, change_from, unassigned_records, outset, arrival}
use Rattle.storage_changes.specs.Meaning.{first_of, all_subpools, model_of, subpool_of, is_taken, IsSound}
use Rattle.storage_changes.proofs.Cases.{same-is, same-self}
use Rattle.storage_changes.proofs.MeaningLemmas.{named_pages_are_there}
use Rattle.storage_changes.specs.StorageActions.{run_of, register_records}
use Rattle.storage_changes.specs.Leads.{Leads, AreRegisters}
use Rattle.storage_changes.specs.StorageLaws.{EmptyingLeads}
use Rattle.storage_changes.proofs.ActionCases.{belongs_is, same_answers, none_some}
use Rattle.storage_changes.proofs.StorageCells.{rows_stay, can_exchange}
use Rattle.storage_changes.proofs.Owned.{own_is_there}
use Rattle.storage_changes.proofs.Goes.{walk_on, fits_on}
use Rattle.storage_changes.proofs.Rows.{with_rows, rows_fit, rows_walk, Stands, task_is_there, leads_to, none_fresh, none_brought, fresh_of}
use Rattle.storage_changes.proofs.StorageUnassigned.{without_pages_in, CanLeave, Leave, runs_leave}

-- an empty subpool has its place
abbrev pub without_queues : StorageState → Subpool → StorageState
without_queues m p = record m { subpools = with_storage_of m.subpools (with_own no_subpools p true) p }

-- and its pages are unassigned
abbrev pub without_subpool : StorageState → Subpool → StorageState
without_subpool m p = without_pages_in (without_queues m p) (m.subpools.pages p)

kept_where : (b x : Bool) → (if b then false else x) ≡ true → (b ≡ false) × (x ≡ true)
kept_where true x e = absurd (true≢false (sym e))
kept_where false x e = (refl, e)

module _ (settings : Settings) (m : StorageState) (p : Subpool) (sound : IsSound settings m) where
  abbrev after : StorageState
  after = without_subpool m p

  -- a subpool that still has a page is another one, and had it before
  kept : (q : Subpool) (k : ℕ) → after.subpools.pages q k ≡ true → (same_subpool q p ≡ false) × (m.subpools.pages q k ≡ true)
  kept q k e = kept_where (same_subpool q p) (m.subpools.pages q k) e

  not_its : (q : Subpool) (k : ℕ) → after.subpools.pages q k ≡ true → m.subpools.pages p k ≡ false
  not_its q k e =
      let at = kept q k e in
      false_from_ne_true (m.subpools.pages p k)
      (λ own. true≢false (sym (ap (λ r. same_subpool r p) (sound.apart q p k at.1 own) ∙ same-self p) ∙ at.0))

  -- its pages belong to nobody, and the others are named as before
  named_in : (k : ℕ) → m.subpools.pages p k ≡ true → subpool_of after.subpools k ≡ None
  named_in k own = go (subpool_of after.subpools k) refl where
    go : (o : Option Subpool) → subpool_of after.subpools k ≡ o → o ≡ None
    go None e = refl
    go (Some q) e = absurd (true≢false (sym own ∙ not_its q k ((named_pages_are_there after.subpools k).0 q e)))

  pages_stay : (q : Subpool) (k : ℕ) (b : Bool) → same_subpool q p ≡ b → m.subpools.pages p k ≡ false
      → (if b then false else m.subpools.pages q k) ≡ m.subpools.pages q k
  pages_stay q k true same other = sym (ap (λ r. m.subpools.pages r k) (same-is q p same) ∙ other)
  pages_stay q k false not_same other = refl

  named_out : (k : ℕ) → m.subpools.pages p k ≡ false → subpool_of after.subpools k ≡ subpool_of m.subpools k
  named_out k other = ap (λ (passes : Subpool → Bool). first_of passes all_subpools) (λ i q. pages_stay q k (same_subpool q p) refl other i)

  pages_lead : (k : ℕ) (b : Bool) → m.subpools.pages p k ≡ b → subpool_of after.subpools k ≡ (if b then None else subpool_of m.subpools k)
  pages_lead k true own = named_in k own
  pages_lead k false other = named_out k other

  its : (k : ℕ) → holds (same_subpool p) (subpool_of m.subpools k) ≡ m.subpools.pages p k
  its k = same_answers (holds (same_subpool p) (subpool_of m.subpools k)) (m.subpools.pages p k)
      (λ e. (named_pages_are_there m.subpools k).0 p (belongs_is p (subpool_of m.subpools k) e))
      (λ own. ap (holds (same_subpool p)) (sound.named p k own) ∙ same-self p)

  -- the free storage of the others stays
  free_stays : (q : Subpool) (d : ℕ) (b : Bool) → same_subpool q p ≡ b → m.subpools.pages p (d / 512) ≡ false
      → (if b then false else m.subpools.free q d) ≡ m.subpools.free q d
  free_stays q d true same other =
      sym (false_from_ne_true (m.subpools.free q d) (λ e. true≢false (sym (sound.free q d e) ∙ ap (λ r. m.subpools.pages r (d / 512)) (same-is q p same) ∙ other)))
  free_stays q d false not_same other = refl

  taken_stays : (d : ℕ) (o : Option Subpool) → m.subpools.pages p (d / 512) ≡ false → is_taken after.subpools o d ≡ is_taken m.subpools o d
  taken_stays d None other = refl
  taken_stays d (Some q) other = ap not (free_stays q d (same_subpool q p) refl other)

  taken_lead : (d : ℕ) (b : Bool) → m.subpools.pages p (d / 512) ≡ b
      → is_taken after.subpools (subpool_of after.subpools (d / 512)) d ≡ (not b && is_taken m.subpools (subpool_of m.subpools (d / 512)) d)
  taken_lead d true own = ap (λ o. is_taken after.subpools o d) (named_in (d / 512) own)
  taken_lead d false other =
      ap (λ o. is_taken after.subpools o d) (named_out (d / 512) other) ∙ taken_stays d (subpool_of m.subpools (d / 512)) other

  emptied_leads : RowsOfTheOthersStay → AreNamed m.subpools.cells → model_of after ≡ without_storage (model_of m) (same_subpool p)
  emptied_leads stay names = λ i. record (model_of m) {
    pages = λ k. (pages_lead k (m.subpools.pages p k) refl ∙ ap (λ b. if b then None else subpool_of m.subpools k) (sym (its k))) i;
    taken = λ d. (taken_lead d (m.subpools.pages p (d / 512)) refl
        ∙ ap (λ b. not b && is_taken m.subpools (subpool_of m.subpools (d / 512)) d) (sym (its (d / 512)))) i;
    bytes = λ a. ap (λ b. if b then None else m.bytes a) (sym (its (a / 4096))) i;
    cell_pools = rows_stay stay m.subpools.cells p names i;
  }

  -- `Stands` holds
  rest_at : (k : ℕ) (b : Bool) → m.subpools.pages p k ≡ b
      → (if b then true else m.unassigned k) ≡ (in_a_region settings k && not (is_some (subpool_of after.subpools k)))
  rest_at k true own =
      sym (and_from (in_a_region settings k) (not (is_some (subpool_of after.subpools k)))
      (sound.well_formed.pages.in_region k p (sound.named p k own)) (ap (λ o. not (is_some o)) (named_in k own)))
  rest_at k false other = sound.rest k ∙ ap (λ o. in_a_region settings k && not (is_some o)) (sym (named_out k other))

  free_at : (q : Subpool) (d : ℕ) → after.subpools.free q d ≡ true → after.subpools.pages q (d / 512) ≡ true
  free_at q d e =
      let at = kept_where (same_subpool q p) (m.subpools.free q d) e in
      cond-false (same_subpool q p) false (m.subpools.pages q (d / 512)) at.0 ∙ sound.free q d at.1

  stands : Stands settings after.subpools after.unassigned
  stands = record {
    apart = λ q r k e f. sound.apart q r k (kept q k e).1 (kept r k f).1;
    named = λ q k e. named_out k (not_its q k e) ∙ sound.named q k (kept q k e).1;
    rest = λ k. rest_at k (m.subpools.pages p k) refl;
    free = free_at;
  }

  -- its pages lie in the regions, which end before 2^20
  pub below : settings_valid settings ≡ true → (k : ℕ) → m.subpools.pages p k ≡ true → k < 2 ^ 20
  below valid k own =
      let low = page_is_low settings k valid (sound.well_formed.pages.in_region k p (sound.named p k own)) in
      omega (arith, low)

  pub none_beyond : settings_valid settings ≡ true → (k : ℕ) → 2 ^ 20 ≤ k → m.subpools.pages p k ≡ false
  none_beyond valid k high =
      false_from_ne_true (m.subpools.pages p k) (λ own. let low = below valid k own in absurd (omega (arith, low, high)))

  module _ (rows : List (ℕ × ℕ)) (valid : settings_valid settings ≡ true) (stay : RowsOfTheOthersStay) (names : AreNamed m.subpools.cells)
      (there : is_there m.subpools p ≡ true) (are : AreRegisters rows) (runs : AreRunsOf (extents m.subpools p) (m.subpools.pages p)) where
    abbrev change : Change
    change = change_from m.subpools (Some p) (register_records m rows) 1 (run_of 0 0)

    abbrev leaving : List Record
    leaving = unassigned_records (extents m.subpools p)

    -- after the first record
    abbrev emptied : Walk
    emptied = queues_step (outset m change) (record { subpool = p })

    had : (k : ℕ) → contains k (extents m.subpools p) ≡ true → m.subpools.pages p k ≡ true
    had k own = sym (runs.holds k) ∙ own

    can_leave : CanLeave emptied (extents m.subpools p)
    can_leave = record {
      assigned = λ k own. sound.rest k
          ∙ and_right (in_a_region settings k) (not (is_some (subpool_of m.subpools k))) (ap (λ o. not (is_some o)) (sound.named p k (had k own)));
      high = λ k own. below valid k (had k own);
      there = λ a own. sound.well_formed.pages.has_bytes a ∙ ap is_some (sound.named p (a / 4096) (had (a / 4096) own));
      not_given = λ a own. refl;
      none_brought = none_brought;
    }

    leave : Leave emptied (extents m.subpools p)
    leave = runs_leave 0 emptied (extents m.subpools p) runs.spaced can_leave (omega arith)

    -- after the runs
    abbrev unassigned : Walk
    unassigned = walk emptied leaving

    abbrev settled : Walk
    settled = record unassigned { state = after }

    is_settled : unassigned ≡ settled
    is_settled = ap (λ (s : StorageState). record unassigned { state = s })
        (leave.state ∙ ap (λ (set : ℕ → Bool). without_pages_in (without_queues m p) set) (λ i k. runs.holds k i))

    rows_then : FitInTurn unassigned (register_records m rows)
    rows_then =
        let P : Walk → Type 0 = λ w. FitInTurn w (register_records m rows) in
        subst P (sym is_settled) (rows_fit settled rows (task_is_there settings m sound) are)

    -- no cell pool is parked yet
    was : (id : ℕ) (x : Pool) → HasPool m.subpools (with_own no_subpools p true) id x → m.subpools.cells id ≡ Some x
    was id x (inl at) = at
    was id x (inr at) = absurd (none_some x at)

    fits_first : QueuesFits (outset m change) (record { subpool = p })
    fits_first = record {
      there = there;
      parked = own_is_there no_subpools p;
      apart = λ id some. refl;
      names = can_exchange m.subpools.cells m.subpools (with_own no_subpools p true) p names was;
    }

    fits : FitInTurn (outset m change) change.records
    fits = (fits_first, fits_on emptied leaving (register_records m rows) leave.fits rows_then)

    arrives : arrival m change ≡ record settled { state = with_rows after rows }
    arrives =
        walk_on emptied leaving (register_records m rows) ∙ ap (λ (w : Walk). walk w (register_records m rows)) is_settled
        ∙ rows_walk settled rows

    emptied_and_set_leads : IsWellFormed settings (with_registers (without_storage (model_of m) (same_subpool p)) rows)
        → Leads settings m change (with_registers (without_storage (model_of m) (same_subpool p)) rows)
    emptied_and_set_leads formed =
        leads_to settings m after change rows (without_storage (model_of m) (same_subpool p)) fits (ap (λ w. w.state) arrives)
        (λ a. ap (λ w. w.brought a) arrives ∙ leave.none_brought a)
        (λ a. fresh_of m (run_of 0 0) a (inside (a / 4096) (run_of 0 0)) refl (none_fresh m (a / 4096)))
        stands (emptied_leads stay names) formed

pub emptying_leads : RowsOfTheOthersStay → EmptyingLeads
emptying_leads stay settings m p rows valid sound names there are =
    emptied_and_set_leads settings m p sound rows valid stay names there are
    (extents_are_runs m.subpools p (λ k high. none_beyond settings m p sound valid k (omega (arith, high))))
