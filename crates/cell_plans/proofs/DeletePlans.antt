-- CPOOL DELETE, and its plan on the plain machine.
use Rattle.std.proofs.Common.{◌≡◌, ℕ, ◌+◌, ◌-◌, ◌*◌, ◌/◌, ◌<◌, Bool, true, false, not, Option, Some, None, IsSome, IfSome, is_some, List, [], ◌∷◌, ◌++◌, length, length-append, All, refl, sym, ◌∙◌, ap, subst, arith}
use Rattle.std.specs.Prelude.{Ok}
use Rattle.std.proofs.Math.Logic.{∥∥₁_elim, ∥∥₁_map}
use Rattle.std.proofs.Math.Nat.{mul-pos}
use Rattle.std.proofs.Props.{props}
use Rattle.std.proofs.lemmas.List.{length-map}
use Rattle.subpool_storage.specs.Subpools.{no_subpools}
use Rattle.vsm_model.specs.declared.causes.Cause.TheVariants.{NoCellPool}
use Rattle.vsm_model.specs.declared.limits.Settings.{Settings}
use Rattle.vsm_model.specs.declared.replies.Reply.TheVariants.{Returned}
use Rattle.vsm_model.specs.Causes.{first_cause}
use Rattle.vsm_model.specs.Cells.{deleted, sees_pool}
use Rattle.vsm_model.specs.Regions.{doublewords, settings_valid}
use Rattle.vsm_model.specs.Registers.{with_registers}
use Rattle.storage_changes.specs.StorageActions.{set_records}
use Rattle.vsm_model.specs.Services.{delete}
use Rattle.vsm_model.specs.Standing.{Accepted, Refused}
use Rattle.vsm_model.specs.State.{State}
use Rattle.vsm_model.specs.Step.{step, answered}
use Rattle.vsm_model.specs.WellFormed.{IsWellFormed, IsInSubpool, PoolIsSound}
use Rattle.vsm_model.proofs.Chosen.{Stepped}
use Rattle.service_laws.specs.CellKept.{DeleteLeavesWellFormed}
use Rattle.service_laws.proofs.CellLists.{cell_bounds}
use Rattle.service_laws.proofs.Pools.{sound_of}
use Rattle.service_laws.proofs.Spans.{all_unmapped, in-among}
use Rattle.service_laws.proofs.Words.{low_page}
use Rattle.cell_pool.specs.declared.settings.Extent.{Extent}
use Rattle.cell_pool.specs.Pools.{Pool}
use Rattle.storage_changes.specs.NamedPools.{AreNamed}
use Rattle.storage_changes.specs.PoolTable.{cell_pool_of, extent_of}
use Rattle.storage_changes.specs.declared.record.Record.{Record}
use Rattle.storage_changes.specs.declared.record.Record.TheVariants.{CellPool as CellPoolRow}
use Rattle.storage_changes.specs.Changes.{change_of, no_pages}
use Rattle.storage_changes.specs.Meaning.{model_of, IsSound}
use Rattle.storage_changes.specs.State.{StorageState}
use Rattle.storage_plans.specs.Plans.{IsAccepted}
use Rattle.storage_plans.proofs.Carried.{no_registers, register_and}
use Rattle.storage_changes.specs.CellLaws.{DeletingLeads}
use Rattle.cell_plans.specs.CellPlans.{cells_weight, pool_and_extents, deleting_change, delete_change, pool_given_back, extents_of_pool, CanBeDeleted, IsDeletePlanned}
use Rattle.cell_plans.specs.Seen.{IsSeen}
use Rattle.cell_plans.proofs.GivenAreas.{EndsLow}

-- what exists
pub found_pool : (o : Option Pool) → IsSome o → (p : Pool) × (o ≡ Some p)
found_pool (Some p) there = (p, refl)
found_pool None there = cc

-- an extent lies in pages of the regions
module _ (settings : Settings) (m : StorageState) (p : Pool) (valid : settings_valid settings ≡ true) (sound : IsSound settings m) (size : 0 < p.settings.size) where
  pub extent_ends_low : (x : Extent) → IsInSubpool (model_of m) (cell_pool_of p) (extent_of x) → EndsLow p.settings.size x
  extent_ends_low x its =
      let count : ℕ = doublewords (x.count * p.settings.size) in
      let bytes : 0 < x.count * p.settings.size = mul-pos its.has_cells size in
      let some : 0 < count = omega (arith, bytes) in
      let last : ℕ = x.start / 8 + count - 1 in
      let page = low_page settings (last / 512) valid (sound.well_formed.pages.in_region (last / 512) p.settings.subpool
      (its.in_pages last (in-among (x.start / 8) count last (omega (arith, some)) (omega (arith, some))))) in
      (some, omega (arith, page, some), omega (arith, page, some))

module _ (settings : Settings) (names_full : Bool) (m : StorageState) (name : List ℕ) where
  abbrev s : State
  s = model_of m

  pub not_seen : sees_pool s name ≡ false → step settings names_full s (delete name) ≡ Refused NoCellPool
  not_seen none = ap (λ b. answered settings s (delete name) (first_cause ((not b, NoCellPool) ∷ []))) none

  module _ (law : DeletingLeads) (stays : DeleteLeavesWellFormed) (named : AreNamed m.subpools.cells) (id : ℕ) (p : Pool) (its : IsSeen m name id p) where
    abbrev rows : List (ℕ × ℕ)
    rows = (15, 0) ∷ []

    abbrev after : List ℕ → State
    after n = with_registers (deleted s n).0 rows

    accepted : step settings names_full s (delete name) ≡ Accepted (after name) (Returned 0)
    accepted = ap (λ b. answered settings s (delete name) (first_cause ((not b, NoCellPool) ∷ []))) its.seen

    is_accepted : settings_valid settings ≡ true → IsSound settings m → IsAccepted settings names_full m (delete name) (deleting_change m (Some p)) (Returned 0)
    is_accepted valid sound =
        let formed = stays settings names_full s (after name) name (Returned 0) sound.well_formed accepted in
        let leads = law settings m p rows valid sound named (ap m.subpools.cells its.id_is ∙ its.there) (register_and 15 0 [] (omega arith) no_registers)
        (subst (λ n. IsWellFormed settings (after n)) (sym its.named) formed) in
        let outcome : State → Stepped = λ t. Accepted t (Returned 0) in
        record {
          accepted = accepted ∙ ap outcome (sym (leads.leads ∙ ap after its.named));
          fits = leads.fits;
          sound = leads.sound;
        }

    extents_end_low : settings_valid settings ≡ true → IsSound settings m → All (EndsLow p.settings.size) p.extents
    extents_end_low valid sound =
        let pool : PoolIsSound s (cell_pool_of p) = sound_of s name (cell_pool_of p) sound.well_formed.cell_pools its.row in
        let bounds = (cell_bounds p.settings.size p.settings.primary pool.bounds.0).0 in
        let all = all_unmapped (IsInSubpool s (cell_pool_of p)) extent_of p.extents pool.in_subpool in
        λ k d below. extent_ends_low settings m p valid sound (omega (arith, bounds)) _ (all k d below)

    can : settings_valid settings ≡ true → ∥ IsSound settings m ∥₁ → CanBeDeleted m (record { pool = id })
    can valid sound =
        let all : All (EndsLow p.settings.size) p.extents = ∥∥₁_elim sound (hlevel props) (λ h. extents_end_low valid h) in
        let P : Option Pool → Type 0 = λ o. IfSome o (λ q. All (EndsLow q.settings.size) q.extents) in
        record { there = ap is_some its.there; extents = subst P (sym its.there) all }

    weight_is : cells_weight m (delete name) ≡ 1 + extents_of_pool (m.subpools.cells id)
    weight_is =
        ap pool_and_extents its.row
        ∙ ap (λ (n : ℕ). 1 + n) (length-map p.extents extent_of)
        ∙ ap (λ (o : Option Pool). 1 + extents_of_pool o) (sym its.there)

    pub delete_planned : settings_valid settings ≡ true → ∥ IsSound settings m ∥₁ → IsDeletePlanned settings names_full m (delete name) (Ok (record { pool = id }))
    delete_planned valid sound =
        let P : Option Pool → Type 0 = λ o. IsAccepted settings names_full m (delete name) (deleting_change m o) (Returned 0) in
        (∥∥₁_map sound (λ h. subst P (sym its.there) (is_accepted valid h)), can valid sound, omega (arith, weight_is))

-- the record of the return code 0, if it has one
abbrev pub last : StorageState → ℕ → List Record
last x current = set_records current (x.tasks.words current) ((15, 0) ∷ [])

-- the records of its change, and how many blank elements it has
module _ (m u : StorageState) (same : u ≡ m) (id : ℕ) (p : Pool) (there : m.subpools.cells id ≡ Some p) (own : p.id ≡ id) where
  abbrev row : ℕ → Record
  row i = CellPoolRow (record { pool = i; present = false })

  abbrev back_in : StorageState → List Record
  back_in x = pool_given_back x.subpools (x.subpools.cells id)

  pub records_are : (v : StorageState) → v ≡ m → (current : ℕ) → current ≡ m.tasks.current → ((row id ∷ []) ++ back_in u) ++ last v current ≡ (delete_change m (record { pool = id })).records
  records_are v kept current now =
      (λ i. ((row (sym own i) ∷ []) ++ back_in (same i)) ++ last (kept i) (now i))
      ∙ ap (λ (o : Option Pool). ((row p.id ∷ []) ++ pool_given_back m.subpools o) ++ last m m.tasks.current) there
      ∙ ap (λ (o : Option Pool). (deleting_change m o).records) (sym there)

  pub blanks_are : (count : ℕ) → count ≡ extents_of_pool (u.subpools.cells id) → 4 * count + 1 ≡ (delete_change m (record { pool = id })).blanks
  blanks_are count so_many =
      ap (λ (n : ℕ). 4 * n + 1) (so_many ∙ ap (λ (x : StorageState). extents_of_pool (x.subpools.cells id)) same ∙ ap extents_of_pool there)
      ∙ ap (λ (o : Option Pool). (deleting_change m o).blanks) (sym there)

  pub all_counted : (v : StorageState) → v ≡ m → (current : ℕ) → current ≡ m.tasks.current
      → length (delete_change m (record { pool = id })).records ≡ 1 + length (back_in u) + length (last v current)
  all_counted v kept current now =
      omega (arith, ap length (sym (records_are v kept current now)), length-append ((row id ∷ []) ++ back_in u) (last v current), length-append (row id ∷ []) (back_in u))

-- a change that deletes a cell pool has no frame and has parked nothing
pub delete_is : (m : StorageState) (o : Option Pool) → record (change_of (deleting_change m o).records (deleting_change m o).blanks no_pages) { parked = no_subpools } ≡ deleting_change m o
delete_is m None = refl
delete_is m (Some p) = refl
