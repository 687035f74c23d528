-- GET and FREE leave a well-formed state well-formed.
use Rattle.std.proofs.Common.{◌≡◌, ◌≢◌, ℕ, zero, suc, ◌+◌, ◌<◌, ◌≤◌, ◌^◌, Bool, true, false, not, ◌&&◌, ◌||◌, ◌==◌, if◌then◌else◌, Some, None, List, [], ◌∷◌, ◌++◌, length, drop, slice_get, refl, sym, ◌∙◌, ap, subst, arith, inl, inr, true≢false}
use Rattle.std.specs.Prelude.{All, AllPairs, Contains, unwrap_or}
use Rattle.std.proofs.lemmas.Bool.{and_parts, or_parts, not-true, not-false, eqb-true, ne_eqb}
use Rattle.std.proofs.lemmas.List.{append-nil}
use Rattle.std.proofs.lemmas.List.Concat.{flat_map-append}
use Rattle.std.proofs.lemmas.List.Elements.{All-head, All-cons, All-append, All-weaker, All-contains_itself}
use Rattle.std.proofs.lemmas.List.Kept.{AllPairs-cons}
use Rattle.vsm_model.specs.declared.causes.Cause.{Cause}
use Rattle.vsm_model.specs.declared.causes.Cause.TheVariants.{NoCellPool, NotInUse, TooManyNames, NoStorage}
use Rattle.vsm_model.specs.declared.limits.Settings.{Settings}
use Rattle.vsm_model.specs.declared.replies.Reply.{Reply}
use Rattle.vsm_model.specs.declared.replies.Reply.TheVariants.{Cell}
use Rattle.vsm_model.specs.declared.services.Get.{Get}
use Rattle.vsm_model.specs.Search.{is_in}
use Rattle.vsm_model.specs.Regions.{regions_for, settings_valid}
use Rattle.vsm_model.specs.CellPools.{CellPool, CellExtent, cell_pool_in, cells_from, extent_cells, cells_of, extent_doublewords, with_extent}
use Rattle.vsm_model.specs.State.{State}
use Rattle.vsm_model.specs.Areas.{Place, is_nowhere, address_of}
use Rattle.vsm_model.specs.Services.{get, free}
use Rattle.vsm_model.specs.Registers.{registers_set}
use Rattle.vsm_model.specs.Cells.{pool_of, sees_pool, has_no_cell, extent_place, extent_at, with_extent_area, handed_out, got, get_causes, is_in_use, freed}
use Rattle.vsm_model.specs.Causes.{first_cause}
use Rattle.vsm_model.specs.WellFormed.{IsWellFormed, PoolIsSound}
use Rattle.vsm_model.proofs.Chosen.{past, no_cause, accepted_has_its_effect}
use Rattle.vsm_model.proofs.Registered.{AreWords, register_leaves_well_formed}
use Rattle.service_laws.specs.Extents.{AreaIsTaken}
use Rattle.service_laws.specs.CellKept.{GetLeavesWellFormed, FreeLeavesWellFormed}
use Rattle.service_laws.proofs.CellLists.{in_left, in_right, all_in, all_drop, pairs_drop, cell_bounds, cells_distinct}
use Rattle.service_laws.proofs.Placed.{place_from, in_regions, area_taken, area_alone, area_table}
use Rattle.service_laws.proofs.Words.{cell_is_word}
use Rattle.service_laws.proofs.Pools.{sound_of, cells_of_each, pool_is, freed_kept, grown, extended, extended_pages, extended_sound, extended_kept, have_cells}
use Rattle.service_laws.proofs.Answered.{left_well_formed, named_words, none_of}

-- the first of a list that isn't empty
pub first_of : (P : ℕ → Type 0) (xs : List ℕ) → (length xs == 0) ≡ false → All P xs → P (unwrap_or (slice_get xs 0) 0)
first_of P [] some h = absurd (true≢false some)
first_of P (x ∷ xs) some h = All-head P x xs h

pub empty_list : (xs : List ℕ) → (length xs == 0) ≡ true → xs ≡ []
empty_list [] e = refl
empty_list (x ∷ xs) e = let none = eqb-true (suc (length xs)) 0 e in absurd (omega (arith, none))

-- an extent's cells are in those of all extents
pub cells_grown : (pool : CellPool) (x : CellExtent) → cells_of (with_extent pool x) ≡ cells_of pool ++ extent_cells pool.size x
cells_grown pool x =
    flat_map-append (extent_cells pool.size) pool.extents (x ∷ [])
    ∙ ap (λ xs. cells_of pool ++ xs) (append-nil (extent_cells pool.size x))

-- What GET leaves: a well-formed state, and the address of a cell.
pub record IsGood (settings : Settings) (after : State × Reply) : Type 0 where
  pub state : IsWellFormed settings after.0
  pub cell : ℕ
  pub reply : after.1 ≡ Cell cell
  pub small : cell < 2 ^ 32

module _ (settings : Settings) (s : State) (valid : settings_valid settings ≡ true) (w : IsWellFormed settings s) (name : List ℕ)
    (found : cell_pool_in s.cell_pools name ≡ Some (pool_of s name)) where
  abbrev its : CellPool
  its = pool_of s name

  sound : PoolIsSound s its
  sound = sound_of s name its w.cell_pools found

  -- a cell that is free
  free_out : has_no_cell its ≡ false → IsGood settings (handed_out s name its)
  free_out some = record {
    state = freed_kept settings s w name its found (drop 1 its.free)
        (all_drop (λ cell. is_in (cells_of its) cell ≡ true) its.free sound.are_cells_of_it)
        (pairs_drop (λ cell other. cell ≢ other) its.free sound.distinct);
    cell = unwrap_or (slice_get its.free 0) 0;
    reply = refl;
    small = cell_is_word settings s its (unwrap_or (slice_get its.free 0) 0) valid w.pages sound
        (first_of (λ cell. is_in (cells_of its) cell ≡ true) its.free some sound.are_cells_of_it);
  }

  abbrev goes : Place
  goes = extent_place settings s its its.secondary

  abbrev new : CellExtent
  new = extent_at goes its.secondary

  -- one of another extent
  further_out : has_no_cell its ≡ true → is_nowhere goes ≡ false →
      IsGood settings (handed_out (with_extent_area s its its.secondary goes) name (with_extent its new))
  further_out none there =
      let bounds = cell_bounds its.size its.secondary sound.bounds.1 in
      let some : 1 ≤ its.secondary = bounds.2 in
      let size = bounds.0 in
      let count = extent_doublewords its its.secondary in
      let (r, one, clear) = place_from s its.subpool count (Contains (regions_for settings its.location)) (regions_for settings its.location)
      (All-contains_itself (regions_for settings its.location)) there in
      let u : State = with_extent_area s its its.secondary goes in
      let a : AreaIsTaken r s u its.subpool (address_of goes) count = area_taken s w.pages.in_page its.subpool count r goes clear in
      let alone = area_alone s its.subpool count goes in
      let same = area_table s its.subpool count goes in
      let region = in_regions settings its.location r one in
      let positive = have_cells s w.cell_pools in
      let whole = cells_of_each s name its w.cell_pools positive found in
      let all : List ℕ = its.free ++ extent_cells its.size new in
      let empty = empty_list its.free none in
      let in_new : (cell : ℕ) → is_in (cells_of its ++ extent_cells its.size new) cell ≡ true → is_in (cells_of (with_extent its new)) cell ≡ true =
      λ cell e. ap (λ xs. is_in xs cell) (cells_grown its new) ∙ e in
      let are_its : All (λ cell. is_in (cells_of (with_extent its new)) cell ≡ true) all =
      All-append (λ cell. is_in (cells_of (with_extent its new)) cell ≡ true) its.free (extent_cells its.size new)
      (All-weaker (λ cell. is_in (cells_of its) cell ≡ true) (λ cell. is_in (cells_of (with_extent its new)) cell ≡ true)
      (λ cell e. in_new cell (in_left (cells_of its) (extent_cells its.size new) cell e)) its.free sound.are_cells_of_it)
      (All-weaker (λ cell. is_in (extent_cells its.size new) cell ≡ true) (λ cell. is_in (cells_of (with_extent its new)) cell ≡ true)
      (λ cell e. in_new cell (in_right (cells_of its) (extent_cells its.size new) cell e)) (extent_cells its.size new) (all_in (extent_cells its.size new))) in
      let distinct : AllPairs (λ cell other. cell ≢ other) all =
      subst (λ xs. AllPairs (λ cell other. cell ≢ other) (xs ++ extent_cells its.size new)) (sym empty)
      (cells_distinct its.size (address_of goes) its.secondary (omega (arith, size))) in
      let some_cell : (length all == 0) ≡ false =
      subst (λ xs. (length (xs ++ extent_cells its.size new) == 0) ≡ false) (sym empty) (some_cells its.size (address_of goes) its.secondary some) in
      let left = all_drop (λ cell. is_in (cells_of (with_extent its new)) cell ≡ true) all are_its in
      let apart = pairs_drop (λ cell other. cell ≢ other) all distinct in
      record {
        state = extended_kept settings s u w positive alone same its sound whole r region (address_of goes) its.secondary some a name (drop 1 all) apart left found;
        cell = unwrap_or (slice_get all 0) 0;
        reply = refl;
        small = cell_is_word settings
            (extended settings s u w positive alone same its sound whole r region (address_of goes) its.secondary some a name (drop 1 all) apart left)
            (grown settings s u w positive alone same its sound whole r region (address_of goes) its.secondary some a (drop 1 all))
            (unwrap_or (slice_get all 0) 0) valid
            (extended_pages settings s u w positive alone same its sound whole r region (address_of goes) its.secondary some a name (drop 1 all) apart left)
            (extended_sound settings s u w positive alone same its sound whole r region (address_of goes) its.secondary some a name (drop 1 all) apart left)
            (first_of (λ cell. is_in (cells_of (with_extent its new)) cell ≡ true) all some_cell are_its);
      } where
        some_cells : (size first count : ℕ) → 1 ≤ count → (length (cells_from size first count) == 0) ≡ false
        some_cells size first zero some = absurd (omega (arith, some))
        some_cells size first (suc count) some = ne_eqb (suc (length (cells_from size (first + size) count))) 0 (λ none. omega (arith, none))

  either_out : (conditional : Bool) → (has_no_cell its && (conditional || is_nowhere goes)) ≡ false → IsGood settings (got settings s name)
  either_out conditional room =
      elim (has_no_cell its) as (λ b. has_no_cell its ≡ b → (b && (conditional || is_nowhere goes)) ≡ false →
      IsGood settings (if b then handed_out (with_extent_area s its its.secondary goes) name (with_extent its new) else handed_out s name its)) [
        | true ↦ λ none room. further_out none (or_parts conditional (is_nowhere goes) room).1
        | false ↦ λ some room. free_out some
      ] refl room

-- without a cause the cell pool exists, and has a cell or a place for some
pub get_may : (settings : Settings) (names_full : Bool) (s : State) (name : List ℕ) (g : Get) →
    first_cause (get_causes settings names_full s name g) ≡ None → (sees_pool s name ≡ true)
    × ((has_no_cell (pool_of s name) && (g.conditional || is_nowhere (extent_place settings s (pool_of s name) (pool_of s name).secondary))) ≡ false)
get_may settings names_full s name g none =
    let last : List (Bool × Cause) = (has_no_cell (pool_of s name) && (g.conditional || is_nowhere (extent_place settings s (pool_of s name) (pool_of s name).secondary)), NoStorage) ∷ [] in
    let first = past (not (sees_pool s name)) NoCellPool ((names_full, TooManyNames) ∷ last) none in
    let second = past names_full TooManyNames last first.1 in
    (not-false (sees_pool s name) first.0, (past _ NoStorage [] second.1).0)

pub get_leaves_well_formed : GetLeavesWellFormed
get_leaves_well_formed settings names_full s t name g reply valid low w e =
    elim (accepted_has_its_effect settings names_full s t (get name g) reply e) [
      | inl done ↦
          let may = get_may settings names_full s name g done.0 in
          let good = either_out settings s valid w name (pool_is s name may.0).0 g.conditional may.1 in
          left_well_formed settings (get name g) (got settings s name) t reply
          (subst (λ (r : Reply). AreWords (registers_set (get name g) r)) (sym good.reply)
          (omega arith, omega arith, (omega arith, good.small, named_words g.register good.cell low good.small)))
          good.state done.1
      | inr four ↦
          subst (IsWellFormed settings) (sym four.2)
          (register_leaves_well_formed s 15 4 settings (omega arith) (omega arith) w)
    ]

pub free_leaves_well_formed : FreeLeavesWellFormed
free_leaves_well_formed settings names_full s t name cell reply w e =
    let done = no_cause settings names_full s t (free name cell) reply refl e in
    let first = past (not (sees_pool s name)) NoCellPool ((not (is_in_use (pool_of s name) cell), NotInUse) ∷ []) done.0 in
    let second = past (not (is_in_use (pool_of s name) cell)) NotInUse [] first.1 in
    let used = and_parts (is_in (cells_of (pool_of s name)) cell) (not (is_in (pool_of s name).free cell)) (not-false (is_in_use (pool_of s name) cell) second.0) in
    let found = (pool_is s name (not-false (sees_pool s name) first.0)).0 in
    let its : CellPool = pool_of s name in
    let sound = sound_of s name its w.cell_pools found in
    left_well_formed settings (free name cell) (freed s name cell) t reply (omega arith, omega arith, tt)
    (freed_kept settings s w name its found (cell ∷ its.free)
    (All-cons (λ c. is_in (cells_of its) c ≡ true) cell its.free used.0 sound.are_cells_of_it)
    (AllPairs-cons (λ c d. c ≢ d) cell its.free (none_of its.free cell (not-true (is_in its.free cell) used.1)) sound.distinct)) done.1
