-- An area that is taken at its place.
use Rattle.std.proofs.Common.{◌≡◌, ℕ, ◌+◌, ◌<◌, ◌≤◌, Bool, true, false, not, if◌then◌else◌, ◌++◌, Option, Some, None, is_some, refl, sym, ◌∙◌, ap, arith, true≢false}
use Rattle.std.specs.Prelude.{◌*◌, ◌/◌, ◌^◌}
use Rattle.std.proofs.lemmas.Bool.{and_parts, not-true}
use Rattle.run_set.specs.Runs.{Run, inside}
use Rattle.vsm_model.specs.declared.Subpool.{Subpool}
use Rattle.vsm_model.specs.declared.limits.Settings.{Settings}
use Rattle.vsm_model.specs.Areas.{Place, Inside, Fresh, Nowhere, address_of}
use Rattle.vsm_model.specs.Obtaining.{with_area}
use Rattle.vsm_model.specs.Regions.{pages_for, in_a_region}
use Rattle.storage_changes.specs.Meaning.{model_of, subpool_of, is_taken, IsSound}
use Rattle.storage_changes.specs.State.{StorageState}
use Rattle.storage_changes.specs.StorageActions.{run_of, own_records, take_fresh_records}
use Rattle.storage_changes.specs.Leads.{CanOwn, with_new}
use Rattle.storage_changes.proofs.ActionCases.{in_inside, none_from}
use Rattle.storage_changes.proofs.Fresh.{all, fresh_go, none_left, stands as fresh_stands, fresh_leads}
use Rattle.storage_changes.proofs.Goes.{at, Goes, goes_on}
use Rattle.storage_changes.proofs.Owned.{new_has_none_free, place_of, made_is_there, own_records_go}
use Rattle.storage_changes.proofs.Records.{freed, owned, brought_then, given_then, area_goes}
use Rattle.storage_changes.proofs.Rows.{Stands, none_fresh, none_brought}
use Rattle.storage_changes.proofs.Taking.{taken_leads, taken_stands}
use Rattle.storage_changes.specs.CellActions.{area_records, area_blanks, area_pages, HasRoom}

-- what of a state an area's records change
pub record Parts : Type 0 where
  pub sight : ℕ → ℕ → Option ℕ
  pub pages : Subpool → ℕ → Bool
  pub free : Subpool → ℕ → Bool
  pub unassigned : ℕ → Bool
  pub bytes : ℕ → Option ℕ

abbrev pub parts_of : StorageState → Parts
parts_of n =
    record {
      sight = n.subpools.sight;
      pages = n.subpools.pages;
      free = n.subpools.free;
      unassigned = n.unassigned;
      bytes = n.bytes;
    }

-- the state once these are what they become
abbrev pub with_parts : StorageState → Parts → StorageState
with_parts m x =
    record m {
      subpools = record m.subpools { sight = x.sight; pages = x.pages; free = x.free };
      unassigned = x.unassigned;
      bytes = x.bytes;
    }

-- frames of zeros for these pages
abbrev pub zeros_for : Run → ℕ → Option ℕ
zeros_for fresh a = if inside (a / 4096) fresh then Some 0 else None

abbrev pub nothing : ℕ → Option ℕ
nothing a = None

-- The records make the subpool, if it is new, and take the area.
pub record Takes (settings : Settings) (m : StorageState) (p : Subpool) (is_new : Bool) (count : ℕ) (goes : Place) : Type 0 where
  pub parts : Parts
  pub brought : ℕ → Option ℕ
  pub given : ℕ → Option ℕ
  pub go : (s left : ℕ) → 1 ≤ left → left + area_blanks goes ≤ s + 1
      → Goes (at m (zeros_for (area_pages count goes)) nothing s) (own_records p is_new ++ area_records p count goes) (with_parts m parts) brought given left
  pub none : (a : ℕ) → brought a ≡ None
  pub fresh : (k : ℕ) → inside k (area_pages count goes) ≡ true → m.unassigned k ≡ true
  pub stands : Stands settings (with_parts m parts).subpools (with_parts m parts).unassigned
  pub leads : model_of (with_parts m parts) ≡ with_area (with_new (model_of m) p is_new) p count goes

pub takes : (settings : Settings) (m : StorageState) (p : Subpool) (is_new : Bool) (count : ℕ) (goes : Place) → IsSound settings m → CanOwn m p is_new → 0 < count
    → HasRoom m p count goes → Takes settings m p is_new count goes
takes settings m p true count (Inside d) sound own more room =
    let taken = new_has_none_free settings m sound p own.2 d in
    absurd (true≢false (sym (room.1 d (in_inside d count d (omega arith) (omega (arith, more)))) ∙ taken))
takes settings m p false count (Inside d) sound there more room = record {
  parts = parts_of (freed m p d count false);
  brought = zeros_for (run_of 0 0);
  given = nothing;
  go = λ s left some less. area_goes m (zeros_for (run_of 0 0)) nothing s left p d count false there room.0 room.1 some (omega (arith, less));
  none = none_brought;
  fresh = none_fresh m;
  stands = taken_stands settings m p d count sound room.1;
  leads = taken_leads settings m p d count sound room.1;
}
takes settings m p is_new count (Fresh page) sound own more room =
    let place = place_of settings m sound p is_new own in
    let there = made_is_there m p is_new own in
    let n = pages_for count in
    let zeros = zeros_for (run_of page n) in
    let made = owned m p is_new in
    let after = all settings m p is_new page count sound more place room.1 in
    let c = brought_then zeros page n in
    let h = given_then made nothing page n true in
    record {
      parts = parts_of after;
      brought = c;
      given = h;
      go = λ s left some less.
          goes_on (at m zeros nothing s) (own_records p is_new) (take_fresh_records p page count) made after zeros nothing c h (left + 3) left
          (own_records_go settings m sound zeros nothing s (left + 3) p is_new own (omega arith) (omega (arith, less)))
          (λ t enough. fresh_go settings m p is_new page count sound more place room.1 there room.0 t left some enough);
      none = λ a. none_left settings m p is_new page count sound more place room.1 there room.0 a (inside (a / 4096) (run_of page n));
      fresh = room.1;
      stands = fresh_stands settings m p is_new page count sound more place room.1;
      leads = fresh_leads settings m p page count sound more place room.1 is_new;
    }
takes settings m p is_new count Nowhere sound own more room = absurd room

module _ (settings : Settings) (m : StorageState) (p : Subpool) (count : ℕ) (sound : IsSound settings m) where
  free_is_untaken : (k : ℕ) → m.subpools.free p k ≡ true → (model_of m).taken k ≡ false
  free_is_untaken k free =
      ap (λ o. is_taken m.subpools o k) (sound.named p (k / 512) (sound.free p k free)) ∙ ap not free

  unassigned_is_untaken : (k : ℕ) → m.unassigned (k / 512) ≡ true → (model_of m).taken k ≡ false
  unassigned_is_untaken k rest =
      let o = subpool_of m.subpools (k / 512) in
      let nobody = not-true (is_some o) (and_parts (in_a_region settings (k / 512)) (not (is_some o)) (sym (sound.rest (k / 512)) ∙ rest)).1 in
      ap (λ x. is_taken m.subpools x k) (none_from o nobody)

  -- the doublewords of the area weren't taken
  pub untaken : (goes : Place) → HasRoom m p count goes → (k : ℕ) → address_of goes ≤ 8 * k → 8 * k < address_of goes + 8 * count → (model_of m).taken k ≡ false
  untaken (Inside d) room k low high = free_is_untaken k (room.1 k (in_inside d count k (omega (arith, low)) (omega (arith, high))))
  untaken (Fresh page) room k low high =
      unassigned_is_untaken k (room.1 (k / 512) (in_inside page (pages_for count) (k / 512) (omega (arith, low)) (omega (arith, high))))
  untaken Nowhere room k low high = absurd room

-- an area on the boundary of a doubleword, which ends within 32 bits
pub on_doubleword : (goes : Place) → (address_of goes / 8) * 8 ≡ address_of goes
on_doubleword (Inside d) = omega arith
on_doubleword (Fresh page) = omega arith
on_doubleword Nowhere = refl

pub below_line : (m : StorageState) (p : Subpool) (count : ℕ) (goes : Place) → HasRoom m p count goes → address_of goes + 8 * count ≤ 2 ^ 32
below_line m p count (Inside d) room = omega (arith, room.0)
below_line m p count (Fresh page) room = omega (arith, room.0)
below_line m p count Nowhere room = absurd room
