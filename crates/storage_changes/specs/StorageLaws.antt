-- Each action's records lead to its effect on the plain machine.
use Rattle.std.specs.Prelude.{◌≡◌, ℕ, ◌+◌, ◌*◌, ◌/◌, ◌^◌, ◌<◌, ◌≤◌, Bool, true, false, List, length, ◌∷◌, ◌++◌, Some}
use Rattle.vsm_model.specs.declared.Subpool.{Subpool}
use Rattle.vsm_model.specs.declared.limits.Settings.{Settings}
use Rattle.vsm_model.specs.Regions.{among, pages_for, settings_valid}
use Rattle.vsm_model.specs.Obtaining.{with_taken, with_pages}
use Rattle.vsm_model.specs.Releasing.{without_area, without_storage}
use Rattle.vsm_model.specs.Subpools.{same_subpool}
use Rattle.storage_changes.specs.NamedPools.{AreNamed}
use Rattle.subpool_storage.specs.Subpools.{is_there}
use Rattle.vsm_model.specs.Bytes.{with_bytes, are_there}
use Rattle.vsm_model.specs.Registers.{with_registers}
use Rattle.vsm_model.specs.WellFormed.{IsWellFormed}
use Rattle.storage_changes.specs.State.{StorageState}
use Rattle.storage_changes.specs.Meaning.{model_of, IsSound}
use Rattle.storage_changes.specs.StorageActions.{run_of, own_records, take_fresh_records, obtained_records}
use Rattle.storage_changes.specs.StorageActions.{give_back_records, give_back_blanks, emptied_pages}
use Rattle.storage_changes.specs.StorageActions.{write_records, register_records}
use Rattle.storage_changes.specs.Changes.{change_of, change_from}
use Rattle.storage_changes.specs.Leads.{Leads, with_new, CanOwn, AreRegisters, AreIdle}

-- An area of the subpool's free storage is taken,
abbrev pub TakingLeads : Type 0
TakingLeads =
    (settings : Settings) (m : StorageState) (p : Subpool) (is_new : Bool) (d count : ℕ) (code address : ℕ × ℕ)
    (rows : List (ℕ × ℕ)) →
    IsSound settings m → CanOwn m p is_new → AreRegisters (code ∷ address ∷ rows) → 0 < count → d + count ≤ 2 ^ 29 →
    ((k : ℕ) → among d count k ≡ true → m.subpools.free p k ≡ true) →
    IsWellFormed settings
    (with_registers (with_taken (with_new (model_of m) p is_new) d count) (code ∷ address ∷ rows)) →
    Leads settings m
    (change_of (own_records p is_new ++ obtained_records m p d count code address rows) 2 (run_of 0 0))
    (with_registers (with_taken (with_new (model_of m) p is_new) d count) (code ∷ address ∷ rows))

-- or one at the first byte of unassigned pages;
abbrev pub TakingFreshLeads : Type 0
TakingFreshLeads =
    (settings : Settings) (m : StorageState) (p : Subpool) (is_new : Bool) (page count : ℕ) (rows : List (ℕ × ℕ)) →
    IsSound settings m → CanOwn m p is_new → AreRegisters rows → 0 < count → page + pages_for count ≤ 2 ^ 20 →
    ((k : ℕ) → among page (pages_for count) k ≡ true → m.unassigned k ≡ true) →
    IsWellFormed settings
    (with_registers
    (with_taken (with_pages (with_new (model_of m) p is_new) p page (pages_for count)) (512 * page) count) rows) →
    Leads settings m
    (change_of (own_records p is_new ++ take_fresh_records p page count ++ register_records m rows) 5
    (run_of page (pages_for count)))
    (with_registers
    (with_taken (with_pages (with_new (model_of m) p is_new) p page (pages_for count)) (512 * page) count) rows)

-- an area is given back, with each page that it empties;
abbrev pub GivingBackLeads : Type 0
GivingBackLeads =
    (settings : Settings) (m : StorageState) (p : Subpool) (d count page n : ℕ) (rows : List (ℕ × ℕ)) →
    IsSound settings m → AreRegisters rows → 0 < count → d + count ≤ 2 ^ 29 → page + n ≤ 2 ^ 20 →
    ((k : ℕ) → among d count k ≡ true → (m.subpools.pages p (k / 512) ≡ true) × (m.subpools.free p k ≡ false)) →
    AreIdle (model_of m) p d count (run_of page n) →
    IsWellFormed settings (with_registers (without_area (model_of m) p d count) rows) →
    Leads settings m
    (change_of (give_back_records p d count page n ++ register_records m rows) (give_back_blanks n) (run_of 0 0))
    (with_registers (without_area (model_of m) p d count) rows)

-- these pages are a run, for which only its first and its last page have to be looked at;
abbrev pub EmptiedPagesAreARun : Type 0
EmptiedPagesAreARun =
    (settings : Settings) (m : StorageState) (p : Subpool) (d count : ℕ) →
    IsSound settings m → 0 < count → d + count ≤ 2 ^ 29 →
    ((k : ℕ) → among d count k ≡ true → (m.subpools.pages p (k / 512) ≡ true) × (m.subpools.free p k ≡ false)) →
    AreIdle (model_of m) p d count (emptied_pages m.subpools p d count)
    × ((emptied_pages m.subpools p d count).start + (emptied_pages m.subpools p d count).len ≤ 2 ^ 20)

-- the pages, the free storage and the cell pools of a subpool are removed, with the doublewords that were taken there;
abbrev pub EmptyingLeads : Type 0
EmptyingLeads =
    (settings : Settings) (m : StorageState) (p : Subpool) (rows : List (ℕ × ℕ)) →
    settings_valid settings ≡ true → IsSound settings m → AreNamed m.subpools.cells →
    is_there m.subpools p ≡ true → AreRegisters rows →
    IsWellFormed settings (with_registers (without_storage (model_of m) (same_subpool p)) rows) →
    Leads settings m (change_from m.subpools (Some p) (register_records m rows) 1 (run_of 0 0))
    (with_registers (without_storage (model_of m) (same_subpool p)) rows)

-- bytes are written where some exist;
abbrev pub WritingLeads : Type 0
WritingLeads =
    (settings : Settings) (m : StorageState) (address : ℕ) (bytes : List ℕ) →
    IsSound settings m → are_there (model_of m) address (length bytes) ≡ true →
    IsWellFormed settings (with_bytes (model_of m) address bytes) →
    Leads settings m (change_of (write_records m address bytes) 0 (run_of 0 0)) (with_bytes (model_of m) address bytes)

-- and only registers are set.
abbrev pub SettingLeads : Type 0
SettingLeads =
    (settings : Settings) (m : StorageState) (rows : List (ℕ × ℕ)) →
    IsSound settings m → AreRegisters rows → IsWellFormed settings (with_registers (model_of m) rows) →
    Leads settings m (change_of (register_records m rows) 0 (run_of 0 0)) (with_registers (model_of m) rows)
