-- What is searched for the place of an area that is requested.
use Rattle.std.specs.Prelude.{◌≡◌, ◌⊎◌, ◌↔◌, ℕ, ◌*◌, ◌-◌, ◌^◌, min}
use Rattle.std.specs.Prelude.{Bool, true, false, not, ◌&&◌, ◌==◌, nat_lt, Some, None}
use Rattle.vsm_model.specs.declared.causes.Cause.TheVariants.{NoStorage}
use Rattle.vsm_model.specs.declared.limits.Settings.{Settings}
use Rattle.vsm_model.specs.declared.services.Boundary.TheVariants.{Doubleword}
use Rattle.vsm_model.specs.declared.services.Lengths.TheVariants.{Fixed}
use Rattle.vsm_model.specs.declared.services.Location.{Location}
use Rattle.vsm_model.specs.declared.services.Obtain.{Obtain}
use Rattle.vsm_model.specs.Areas.{Place}
use Rattle.vsm_model.specs.Causes.{first_cause}
use Rattle.vsm_model.specs.Obtaining.{longest, obtain_causes}
use Rattle.vsm_model.specs.Services.{maximum, minimum}
use Rattle.vsm_model.specs.State.{State}
use Rattle.storage_plans.specs.Reasons.{reasons_place}
use Rattle.explain_reasons.specs.declared.places.LengthSides.{LengthSides}

-- The number can be asked for, and the lengths are in order.
abbrev pub asks_for_place : Obtain → Bool
asks_for_place o =
    not (nat_lt 127 o.number) && not (minimum o.lengths == 0) && not (nat_lt (maximum o.lengths) (minimum o.lengths))

-- The request for an extent of a number of cells of a size, up to the last length that can be asked for.
abbrev pub extent_asked : ℕ → ℕ → ℕ → Location → Obtain
extent_asked cells size number location =
    record {
      lengths = Fixed (min (cells * size) (2 ^ 32 - 1));
      number = number;
      boundary = Doubleword;
      location = location;
      register = None;
      conditional = false;
    }

-- the place that the sides lead to
abbrev pub sides_place : LengthSides → Place
sides_place r = reasons_place (r.first, r.second)

-- A request without a cause, or whose first cause is lack of storage, looks for a place; and it has none exactly if its
-- first cause is that.
abbrev pub NoPlaceIsWantOfStorage : Type 0
NoPlaceIsWantOfStorage =
    (settings : Settings) (names_full : Bool) (s : State) (o : Obtain)
    → (first_cause (obtain_causes settings names_full s o) ≡ None)
    ⊎ (first_cause (obtain_causes settings names_full s o) ≡ Some NoStorage)
    → (asks_for_place o ≡ true)
    × ((longest settings s o ≡ None) ↔ (first_cause (obtain_causes settings names_full s o) ≡ Some NoStorage))
