-- Bytes that are put over others. Principles of Operation, "Storage", "Information formats".
use Rattle.std.specs.Prelude.{ℕ, ◌+◌, ◌-◌, List, length, slice_index_or, if◌then◌else◌}
use Rattle.vsm_model.specs.Regions.{among}

-- place k of the bytes that are held from `first` on, once these bytes are stored from the address on
abbrev pub put_at : List ℕ → ℕ → ℕ → List ℕ → ℕ → ℕ
put_at held first address bytes k =
    if among address (length bytes) (first + k) then slice_index_or bytes (first + k - address) 0
    else slice_index_or held k 0
