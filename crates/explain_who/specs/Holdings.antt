-- What a subpool has, summed up.
use Rattle.std.specs.Prelude.{ℕ, ◌+◌, Bool, ◌&&◌, ◌==◌, List, [], ◌∷◌, length, flat_map}
use Rattle.vsm_model.specs.declared.Subpool.{Subpool}
use Rattle.vsm_model.specs.declared.limits.Settings.{Settings}
use Rattle.vsm_model.specs.Areas.{extents, free_areas}
use Rattle.vsm_model.specs.Map.{ascending_regions}
use Rattle.vsm_model.specs.State.{State}
use Rattle.explain_who.specs.declared.holdings.Holding.{Holding}
use Rattle.explain_who.specs.declared.holdings.Runs.{Runs}

-- the numbers of runs, each a first number and how many numbers it has
abbrev pub numbers_in : List (ℕ × ℕ) → ℕ
numbers_in [] = 0
numbers_in (r ∷ rs) = r.1 + numbers_in rs

abbrev pub in_short : List (ℕ × ℕ) → Runs
in_short rs = record { total = numbers_in rs; count = length rs }

-- its extents in both regions, in pages, and its free areas, in doublewords
abbrev pub holding_of : Settings → State → Subpool → Holding
holding_of settings s p =
    record {
      pages = in_short (flat_map (extents s p) (ascending_regions settings));
      free = in_short (flat_map (free_areas s p) (ascending_regions settings));
    }

-- no pages, and no free storage
abbrev pub no_holding : Holding
no_holding = record { pages = in_short []; free = in_short [] }

abbrev pub same_holding : Holding → Holding → Bool
same_holding a b =
    (a.pages.total == b.pages.total) && (a.pages.count == b.pages.count) && (a.free.total == b.free.total)
    && (a.free.count == b.free.count)
