-- The free storage of a subpool once some areas are given back, from doubleword to doubleword. Assembler Services
-- Reference, CPOOL DELETE.
use Rattle.std.specs.Prelude.{◌≡◌, ℕ, ◌*◌, ◌/◌, ◌<◌, ◌≤◌, Bool, true, false, List, [], ◌∷◌}
use Rattle.run_set.specs.Runs.{Run}
use Rattle.vsm_model.specs.declared.Subpool.{Subpool}
use Rattle.vsm_model.specs.Regions.{doublewords}
use Rattle.cell_pool.specs.declared.settings.Extent.{Extent}
use Rattle.subpool_storage.specs.Subpools.{Subpools, with_free}
use Rattle.storage_changes.specs.declared.record.Record.{Record}
use Rattle.storage_changes.specs.StorageActions.{run_of, emptied_pages, give_back_records}

-- the doublewords of an extent whose cells have this size in bytes
abbrev pub area_of : ℕ → Extent → Run
area_of size x = run_of (x.start / 8) (doublewords (x.count * size))

-- the subpools once these areas are free storage of one of them, the first of them first
abbrev pub freed : Subpools → Subpool → List Run → Subpools
freed m p [] = m
freed m p (area ∷ areas) = freed (with_free m p area true) p areas

-- the records by which an area is given back with the pages that it empties
abbrev pub area_given_back : Subpools → Subpool → Run → List Record
area_given_back m p area =
    let pages = emptied_pages m p area.start area.len in
    give_back_records p area.start area.len pages.start pages.len

-- Each doubleword from one up to another is free; the other is the first one itself if that isn't free.
pub record IsFreeUpTo (free : ℕ → Bool) (first end : ℕ) : Type 0 where
  pub from : first ≤ end
  pub each : (d : ℕ) → first ≤ d → d < end → free d ≡ true
  pub none : end ≡ first → free first ≡ false
