-- The extents of cell pools, which a map shows with their lengths.
-- Assembler Services Reference, CPOOL.
use Rattle.std.specs.Prelude.{◌≡◌, ℕ, ◌+◌, ◌*◌, ◌^◌, ◌<◌, true, All, Some}
use Rattle.cell_pool.specs.Pools.{Pool, rounded}
use Rattle.storage_changes.specs.NamedPools.{AreNamed}
use Rattle.storage_changes.specs.State.{StorageState}
use Rattle.storage_changes.specs.Meaning.{IsSound}
use Rattle.vsm_model.specs.declared.limits.Settings.{Settings}
use Rattle.vsm_model.specs.Regions.{settings_valid}

-- each extent of a cell pool, up to the end of its last doubleword, ends before the address 2^31
abbrev pub EndInRegions : Pool → Type 0
EndInRegions p = All (λ x. x.start + rounded (x.count * p.settings.size) < 2 ^ 31) p.extents

-- Extents of cell pools lie in the regions, and so they end there.
abbrev pub CellExtentsEndInRegions : Type 0
CellExtentsEndInRegions = (settings : Settings) (m : StorageState) (id : ℕ) (p : Pool)
    → settings_valid settings ≡ true → IsSound settings m → AreNamed m.subpools.cells
    → m.subpools.cells id ≡ Some p → EndInRegions p
