-- How far the extents of a pool reach. The words of its row say it in blocks of 256 bytes, above their low bytes: the
-- second one says the last block, and the first one how many blocks are after the first. They stay when an extent goes.
use Rattle.std.specs.Prelude.{◌≡◌, ℕ, ◌+◌, ◌-◌, ◌*◌, ◌/◌, ◌%◌, ◌≤◌, Bool, ◌&&◌, nat_lt, List, [], ◌∷◌}
use Rattle.list_table.specs.Entries.{word}
use Rattle.cell_pool.specs.declared.settings.Extent.{Extent}

-- the addresses of the first block, and of the one after the last
abbrev pub reach_start : List ℕ → ℕ
reach_start ws = 4294967040 - 256 * (word ws 0 / 256)

abbrev pub reach_end : List ℕ → ℕ
reach_end ws = 256 * (word ws 1 / 256) + 256

-- the cells of the extents are in these blocks
abbrev pub AreWithin : List ℕ → ℕ → List Extent → Type 0
AreWithin ws size [] = Unit {0}
AreWithin ws size (x ∷ xs) =
    (reach_start ws ≤ x.start) × (x.start + x.count * size ≤ reach_end ws) × AreWithin ws size xs

-- An area may overlap an extent that is in these blocks, and goes to the end of its last doubleword.
abbrev pub may_meet : List ℕ → ℕ → ℕ → Bool
may_meet ws start len = nat_lt start (reach_end ws + 7) && nat_lt (reach_start ws) (start + len)

-- The words say the same subpool as before, all blocks that they said, and those of one more extent.
pub record Widens (old new : List ℕ) (size : ℕ) (x : Extent) : Type 0 where
  pub number : word new 0 % 256 ≡ word old 0 % 256
  pub owner : word new 1 % 256 ≡ word old 1 % 256
  pub low : reach_start new ≤ reach_start old
  pub high : reach_end old ≤ reach_end new
  pub start : reach_start new ≤ x.start
  pub end : x.start + x.count * size ≤ reach_end new

-- the words once the subpool has another owner
abbrev pub owned_by : ℕ → List ℕ → List ℕ
owned_by owner ws = word ws 0 ∷ (256 * (word ws 1 / 256) + owner) ∷ []
