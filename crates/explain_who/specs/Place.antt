-- The bytes from an address on, and the storage at the first of them.
use Rattle.std.specs.Prelude.{ℕ, suc, Bool, true, false, ◌&&◌, ◌==◌, nat_le, if◌then◌else◌}
use Rattle.std.specs.Prelude.{Option, Some, None, List, [], ◌∷◌}
use Rattle.std.specs.Str.{bytes_eq}
use Rattle.arrayvec.specs.ArrayVec.{ArrayVec}
use Rattle.vsm_model.specs.declared.Subpool.{Subpool}
use Rattle.explain_who.specs.Taken.{same_taken}
use Rattle.explain_who.specs.declared.place.Place.{Place}

abbrev pub same_bytes : Option (ArrayVec ℕ) → Option (ArrayVec ℕ) → Bool
same_bytes None None = true
same_bytes (Some a) (Some b) = bytes_eq a.items b.items
same_bytes _ _ = false

abbrev pub same_holder : Option Subpool → Option Subpool → Bool
same_holder None None = true
same_holder (Some a) (Some b) = (a.number == b.number) && (a.owner == b.owner)
same_holder _ _ = false

-- the storage of two places is the same: its subpool, and how it's taken
abbrev pub same_storage : Place → Place → Bool
same_storage a b = same_holder a.subpool b.subpool && same_taken a.taken b.taken

-- the number of bytes at the front that are equal in both
abbrev pub equal_front : List ℕ → List ℕ → ℕ
equal_front [] ys = 0
equal_front (x ∷ xs) [] = 0
equal_front (x ∷ xs) (y ∷ ys) = if x == y then suc (equal_front xs ys) else 0

abbrev pub equal_bytes : Option (ArrayVec ℕ) → Option (ArrayVec ℕ) → ℕ
equal_bytes (Some a) (Some b) = equal_front a.items b.items
equal_bytes _ _ = 0

-- how many bytes a line leaves out at the front: of more than 32, all before the first that differs
abbrev pub skipped : ℕ → Option (ArrayVec ℕ) → Option (ArrayVec ℕ) → ℕ
skipped count a b = if nat_le count 32 then 0 else equal_bytes a b
