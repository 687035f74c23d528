-- The place of an accepted obtain's area, and when there is no room for it, by the storage before, without a search. An
-- extent of a cell pool is such an area, on the boundary of any doubleword.
-- Assembler Services Guide, "Virtual storage management", "Explicit requests for virtual storage".
use Rattle.std.specs.Prelude.{◌≡◌, ℕ, ◌+◌, ◌/◌, ◌%◌, ◌<◌, ◌≤◌, ◌⊎◌, Bool, true, false, Some, None, List, [], ◌∷◌}
use Rattle.vsm_model.specs.declared.Subpool.{Subpool}
use Rattle.vsm_model.specs.declared.limits.Settings.{Settings}
use Rattle.vsm_model.specs.declared.replies.Reply.TheVariants.{Obtained}
use Rattle.vsm_model.specs.declared.services.Obtain.{Obtain}
use Rattle.vsm_model.specs.Services.{obtain}
use Rattle.vsm_model.specs.Regions.{Region, within, pages_for, regions_for, side}
use Rattle.vsm_model.specs.State.{State}
use Rattle.vsm_model.specs.Subpools.{seen_or_own}
use Rattle.vsm_model.specs.Areas.{spacing}
use Rattle.vsm_model.specs.Standing.{Accepted}
use Rattle.vsm_model.specs.Step.{step}

-- The count doublewords from d on lie in the region and are free in the subpool, and d is on the boundary, which is a
-- number of doublewords.
abbrev pub AreFree : Region → State → Subpool → ℕ → ℕ → ℕ → Type 0
AreFree r s p count boundary d =
    (d % boundary ≡ 0)
    × ((k : ℕ) → d ≤ k → k < d + count →
    (within r (k / 512) ≡ true) × (s.pages (k / 512) ≡ Some p) × (s.taken k ≡ false))

-- the count pages from this one on lie in the region and aren't assigned
abbrev pub AreUnassigned : Region → State → ℕ → ℕ → Type 0
AreUnassigned r s count page =
    (k : ℕ) → page ≤ k → k < page + count → (within r k ≡ true) × (s.pages k ≡ None)

-- the number has the property, and none below it has
abbrev pub IsLowest : (ℕ → Type 0) → ℕ → Type 0
IsLowest has n = has n × ((k : ℕ) → has k → n ≤ k)

-- In a region the free storage of the subpool, if it has room for that many doublewords, is taken first, at the lowest
-- address; else unassigned pages, enough of them and the lowest, from their first byte on.
abbrev pub IsLowestIn : Region → State → Subpool → ℕ → ℕ → ℕ → Type 0
IsLowestIn r s p count boundary address =
    ((address % 8 ≡ 0) × IsLowest (AreFree r s p count boundary) (address / 8))
    ⊎ (((d : ℕ) → AreFree r s p count boundary d → ⊥)
    × (address % 4096 ≡ 0) × IsLowest (AreUnassigned r s (pages_for count)) (address / 4096))

-- Neither the free storage of the subpool nor the unassigned pages of the region have room for that many doublewords.
abbrev pub HasNoRoom : Region → State → Subpool → ℕ → ℕ → Type 0
HasNoRoom r s p count boundary =
    ((d : ℕ) → AreFree r s p count boundary d → ⊥) × ((page : ℕ) → AreUnassigned r s (pages_for count) page → ⊥)

-- The first of these regions that has room has the area.
abbrev pub IsLowestAddress : List Region → State → Subpool → ℕ → ℕ → ℕ → Type 0
IsLowestAddress [] s p count boundary address = ⊥
IsLowestAddress (r ∷ rs) s p count boundary address =
    IsLowestIn r s p count boundary address
    ⊎ (HasNoRoom r s p count boundary × IsLowestAddress rs s p count boundary address)

-- An accepted obtain takes the lowest address for the length that it's given, in the subpool that the task sees at the
-- number or is to have there: on either side of the line in the region above it, and in the one below only if that has
-- no room.
abbrev pub ObtainTakesTheLowestAddress : Type 0
ObtainTakesTheLowestAddress =
    (settings : Settings) (names_full : Bool) (s t : State) (o : Obtain) (address given : ℕ) →
    step settings names_full s (obtain o) ≡ Accepted t (Obtained address given) →
    IsLowestAddress (regions_for settings (side settings o.location)) s (seen_or_own s o.number) (given / 8)
    (spacing o.boundary) address
