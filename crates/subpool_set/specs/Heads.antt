-- The elements of the queues whose heads are in rows. No public clause cites this module.
use Rattle.std.specs.Prelude.{◌≡◌, ℕ, ◌==◌, true, if◌then◌else◌, List, [], ◌∷◌, ◌++◌}
use Rattle.vsm_elements.specs.Store.{Store}
use Rattle.vsm_elements.specs.Ownership.{Apart}
use Rattle.row_table.specs.declared.row.Row.{Row}
use Rattle.row_table.specs.Rows.{word}
use Rattle.subpool_set.specs.QueueElements.{ids_of, StandApart}
use Rattle.subpool_set.specs.Kept.{queues_of}

-- the ids of the queues of a row: those of its subpool, if the row is its owner's
abbrev pub ids_in : Store → Row → List ℕ
ids_in s r = if word r.words 0 == word r.words 2 then ids_of s (queues_of r.words) else []

abbrev pub ids_in_all : Store → List Row → List ℕ
ids_in_all s [] = []
ids_in_all s (r ∷ rs) = ids_in s r ++ ids_in_all s rs

-- the queues of all rows are intact, each in elements of its own
abbrev pub AllStand : Store → List Row → Type 0
AllStand s [] = Unit {0}
AllStand s (r ∷ rs) =
    ((word r.words 0 == word r.words 2) ≡ true → StandApart s (queues_of r.words))
    × Apart (ids_in s r) (ids_in_all s rs) × AllStand s rs
