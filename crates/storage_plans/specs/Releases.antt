-- The part of a release that depends on where its area lies. Assembler Services Guide, "Virtual storage management",
-- "Subpool handling"; Assembler Services Reference, STORAGE, RELEASE, and FREEMAIN.
use Rattle.std.specs.Prelude.{◌≡◌, ℕ, ◌*◌, Bool, true, Option, None, List, [], ◌∷◌, ◌++◌}
use Rattle.run_set.specs.Runs.{Run, inside, NoneIn, IsGap}
use Rattle.run_set.specs.declared.run.Gap.{Gap}
use Rattle.vsm_model.specs.declared.Subpool.{Subpool}
use Rattle.vsm_model.specs.declared.causes.Cause.{Cause}
use Rattle.vsm_model.specs.declared.causes.Cause.TheVariants.{NotInSubpool, OverlapsFree, OverlapsCells}
use Rattle.vsm_model.specs.declared.limits.Settings.{Settings}
use Rattle.vsm_model.specs.declared.replies.Reply.TheVariants.{Returned}
use Rattle.vsm_model.specs.declared.services.Release.{Release}
use Rattle.vsm_model.specs.Causes.{Causes, first_cause}
use Rattle.vsm_model.specs.Releasing.{is_foreign, is_not_taken, overlaps_cells, release_causes}
use Rattle.vsm_model.specs.Search.{some_pass}
use Rattle.vsm_model.specs.State.{State}
use Rattle.storage_changes.specs.declared.record.Record.{Record}
use Rattle.storage_changes.specs.State.{StorageState}
use Rattle.storage_changes.specs.Meaning.{model_of}
use Rattle.storage_changes.specs.StorageActions.{emptied_pages, give_back_records, give_back_blanks}
use Rattle.storage_changes.specs.StorageActions.{register_records, run_of}
use Rattle.storage_plans.specs.declared.plan.StoragePlan.{StoragePlan}
use Rattle.storage_plans.specs.declared.release.GivenBack.{GivenBack}

-- the first cause that refuses a release
abbrev pub release_cause : Settings → StorageState → Release → Option Cause
release_cause settings m r = first_cause (release_causes settings (model_of m) r)

-- the last of a release's causes, those of an area of this many doublewords from this one on
abbrev pub area_causes : Settings → State → Subpool → ℕ → ℕ → Causes
area_causes settings s p d count =
    (some_pass (is_foreign settings s p) d count, NotInSubpool)
    ∷ (some_pass (is_not_taken s p) d count, OverlapsFree)
    ∷ (overlaps_cells s (8 * d) (8 * count), OverlapsCells)
    ∷ []

-- the first of these
abbrev pub area_cause : Settings → StorageState → Subpool → Run → Option Cause
area_cause settings m p area = first_cause (area_causes settings (model_of m) p area.start area.len)

-- the records that give an area back with the pages that it empties, and set the return code
abbrev pub given_back_records : StorageState → Subpool → ℕ → ℕ → List Record
given_back_records m p d count =
    let pages = emptied_pages m.subpools p d count in
    give_back_records p d count pages.start pages.len ++ register_records m ((15, 0) ∷ [])

-- a doubleword of the area is free
abbrev pub HasFree : (ℕ → Bool) → Run → Type 0
HasFree free area = (d : ℕ) × (inside d area ≡ true) × (free d ≡ true)

-- none is, and these are the free areas on both sides of it
pub record AreSides (free : ℕ → Bool) (area : Run) (sides : Gap) : Type 0 where
  pub taken : NoneIn free area
  pub gap : IsGap free area.start sides

-- The plan has these records.
pub record IsGivenBack (m : StorageState) (found : GivenBack) (plan : StoragePlan) : Type 0 where
  pub emptied : plan.emptied ≡ None
  pub records : plan.records.now.items ≡ given_back_records m found.subpool found.area.start found.area.len
  pub blanks : plan.blanks
      ≡ give_back_blanks (emptied_pages m.subpools found.subpool found.area.start found.area.len).len
  pub fresh : plan.fresh ≡ run_of 0 0
  pub reply : plan.reply ≡ Returned 0
