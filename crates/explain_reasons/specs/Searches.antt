-- What is looked for in an area.
use Rattle.std.specs.Prelude.{ℕ, ◌/◌, min, Bool, not, Option, Some, None}
use Rattle.vsm_model.specs.declared.Subpool.{Subpool}
use Rattle.vsm_model.specs.Search.{holds}
use Rattle.vsm_model.specs.State.{State}
use Rattle.vsm_model.specs.Subpools.{same_subpool}

-- the page of a doubleword isn't the subpool's
abbrev pub is_beside : State → Subpool → ℕ → Bool
is_beside s p d = not (holds (same_subpool p) (s.pages (d / 512)))

-- the lesser of two numbers, if both are there
abbrev pub lesser : Option ℕ → Option ℕ → Option ℕ
lesser (Some a) (Some b) = Some (min a b)
lesser (Some a) None = Some a
lesser None other = other
