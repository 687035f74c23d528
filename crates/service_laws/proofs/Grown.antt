-- More subpools, other sight and other tasks leave pages and cell pools sound.
use Rattle.std.proofs.Common.{◌≡◌, ℕ, Bool, true, Option}
use Rattle.vsm_model.specs.declared.limits.Settings.{Settings}
use Rattle.vsm_model.specs.CellPools.{CellPool, CellExtent}
use Rattle.vsm_model.specs.State.{State}
use Rattle.vsm_model.specs.WellFormed.{PagesAreSound, SightIsSound, IsInSubpool, CellPoolsAreSound}
use Rattle.vsm_model.proofs.Registered.{pool_still}

-- All of a well-formed state except its tasks.
pub record StorageIsSound (settings : Settings) (s : State) : Type 0 where
  pub pages : PagesAreSound settings s
  pub sight : SightIsSound s
  pub cell_pools : CellPoolsAreSound s

module _ (s : State) (parents : ℕ → Option ℕ) (pools : ℕ → ℕ → Bool) (sight : ℕ → ℕ → Option ℕ) (grows : (number owner : ℕ) → s.subpools number owner ≡ true → pools number owner ≡ true) where
  abbrev grown : State
  grown = record s { parents = parents; subpools = pools; sight = sight }

  pub pages_grown : (settings : Settings) → PagesAreSound settings s → PagesAreSound settings (record s { parents = parents; subpools = pools; sight = sight })
  pages_grown settings w = record {
    in_region = w.in_region;
    has_subpool = λ k p e. grows p.number p.owner (w.has_subpool k p e);
    has_taken = w.has_taken;
    in_page = w.in_page;
    has_bytes = w.has_bytes;
    are_bytes = w.are_bytes;
  }

  extent_grown : (pool : CellPool) (x : CellExtent) → IsInSubpool s pool x → IsInSubpool grown pool x
  extent_grown pool x w = record { has_cells = w.has_cells; on_doubleword = w.on_doubleword; is_taken = w.is_taken; in_pages = w.in_pages }

  pub cell_pools_grown : CellPoolsAreSound s → CellPoolsAreSound (record s { parents = parents; subpools = pools; sight = sight })
  cell_pools_grown w = record {
    ascending = w.ascending;
    few = w.few;
    each = λ k d below. pool_still s grown _ (grows _ _) (extent_grown _) (w.each k d below);
    apart = w.apart;
  }
