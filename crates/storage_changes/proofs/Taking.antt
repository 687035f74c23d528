-- An area of free storage that is taken.
use Rattle.std.proofs.Common.{◌≡◌, ℕ, zero, suc, ◌+◌, ◌<◌, ◌≤◌, Bool, true, false, ◌&&◌, if◌then◌else◌, [], ◌∷◌, map, Option, Some, None, IsSome, refl, sym, ◌∙◌, arith, true≢false}
use Rattle.std.specs.Prelude.{◌/◌, ◌^◌}
use Rattle.std.proofs.lemmas.List.Elements.{All-cons, All-nil}
use Rattle.run_set.specs.Runs.{inside}
use Rattle.vsm_model.specs.declared.Subpool.{Subpool}
use Rattle.vsm_model.specs.declared.limits.Settings.{Settings}
use Rattle.vsm_model.specs.Subpools.{same_subpool}
use Rattle.subpool_storage.specs.Subpools.{is_there}
use Rattle.vsm_model.specs.Obtaining.{with_taken}
use Rattle.storage_changes.specs.State.{StorageState}
use Rattle.storage_changes.specs.Meaning.{model_of, subpool_of, IsSound}
use Rattle.storage_changes.proofs.MeaningLemmas.{areas_are_taken}
use Rattle.storage_changes.specs.StorageActions.{run_of, obtain_record, obtained_records, register_record, register_records}
use Rattle.storage_changes.specs.Steps.{area_spare}
use Rattle.storage_changes.specs.Changes.{change_of}
use Rattle.storage_changes.specs.StorageLaws.{TakingLeads}
use Rattle.storage_changes.proofs.ActionCases.{in_inside}
use Rattle.storage_changes.proofs.Goes.{at, Goes, goes_on, goes_step}
use Rattle.storage_changes.proofs.Owned.{new_has_none_free}
use Rattle.storage_changes.proofs.Rows.{with_rows, with_word, Stands, each_goes, rows_go, task_is_there, leads_with_rows, none_fresh, none_brought}
use Rattle.storage_changes.proofs.Records.{freed, area_goes}

module _ (settings : Settings) (m : StorageState) (p : Subpool) (d count : ℕ) (sound : IsSound settings m) (free : (k : ℕ) → inside k (run_of d count) ≡ true → m.subpools.free p k ≡ true) where
  abbrev pub n : StorageState
  n = freed m p d count false

  -- a doubleword of the area lies in a page of the subpool
  here : (k : ℕ) → inside k (run_of d count) ≡ true → subpool_of m.subpools (k / 512) ≡ Some p
  here k own = sound.named p (k / 512) (sound.free p k (free k own))

  pub taken_leads : model_of n ≡ with_taken (model_of m) d count
  taken_leads = areas_are_taken m p (run_of d count) here

  freed_in_page : (q : Subpool) (k : ℕ) (b : Bool) → (if b then false else m.subpools.free q k) ≡ true → m.subpools.pages q (k / 512) ≡ true
  freed_in_page q k true e = absurd (true≢false (sym e))
  freed_in_page q k false e = sound.free q k e

  pub taken_stands : Stands settings n.subpools n.unassigned
  taken_stands = record {
    apart = sound.apart;
    named = sound.named;
    rest = sound.rest;
    free = λ q k e. freed_in_page q k (same_subpool q p && inside k (run_of d count)) e;
  }

-- A record of an area and a register costs one blank element at most.
obtain_goes :
    (m : StorageState) (b g : ℕ → Option ℕ) (s left : ℕ) (p : Subpool) (d count : ℕ) (row : ℕ × ℕ) → is_there m.subpools p ≡ true → IsSome (m.tasks.parents m.tasks.current)
    → row.0 < 16 → d + count ≤ 2 ^ 29 → ((k : ℕ) → inside k (run_of d count) ≡ true → m.subpools.free p k ≡ true) → 0 < count → 1 ≤ left → left + 1 ≤ s
    → Goes (at m b g s) (obtain_record m.tasks.current p d count row ∷ []) (with_word (freed m p d count false) row.0 row.1) b g left
obtain_goes m b g s left p d zero row there task low high free some more less = absurd (omega (arith, some))
obtain_goes m b g s left p d (suc n) row there task low high free some more less =
    let area = area_goes m b g s left p d (suc n) false there high free more (omega (arith, less)) in
    goes_step m (with_word (freed m p d (suc n) false) row.0 row.1) b g b g s (area_spare (at m b g s) (record { subpool = p; area = run_of d (suc n); free = false })) left
    (obtain_record m.tasks.current p d (suc n) row)
    (area.fits.0, record { task = task; register = low })
    refl area.spare

pub taking_leads : TakingLeads
taking_leads settings m p true d count code address rows sound own are some high free formed =
    let taken = new_has_none_free settings m sound p own.2 d in
    absurd (true≢false (sym (free d (in_inside d count d (omega arith) (omega (arith, some)))) ∙ taken))
taking_leads settings m p false d count code address rows sound there are some high free formed =
    let records = obtained_records m p d count code address rows in
    let change = change_of records 2 (run_of 0 0) in
    let task = task_is_there settings m sound in
    let below : (ℕ × ℕ) → Type 0 = λ row. row.0 < 16 in
    let coded = with_word m code.0 code.1 in
    let n = with_word (freed coded p d count false) address.0 address.1 in
    leads_with_rows settings m (freed m p d count false) records 2 (run_of 0 0) change.frames (λ a. None) 1 (code ∷ address ∷ rows) (with_taken (model_of m) d count)
    (goes_on (at m change.frames (λ a. None) 2) (register_records m (code ∷ [])) (obtain_record m.tasks.current p d count address ∷ map (register_record m.tasks.current) rows)
    coded (with_rows n rows) change.frames (λ a. None) change.frames (λ a. None) 2 1
    (rows_go m change.frames (λ a. None) 2 2 (code ∷ []) task (All-cons below code [] (are 0 code (omega arith)) (All-nil below)) (omega arith))
    (λ s less. goes_on (at coded change.frames (λ a. None) s) (obtain_record m.tasks.current p d count address ∷ []) (map (register_record m.tasks.current) rows)
    n (with_rows n rows) change.frames (λ a. None) change.frames (λ a. None) 1 1
    (obtain_goes coded change.frames (λ a. None) s 1 p d count address there task (are 1 address (omega arith)) high free some (omega arith) (omega (arith, less)))
    (λ t enough. each_goes n change.frames (λ a. None) t 1 rows task (λ j row below. are (suc (suc j)) row (omega (arith, below))) enough)))
    none_brought (none_fresh m) (taken_stands settings m p d count sound free) (taken_leads settings m p d count sound free) formed
