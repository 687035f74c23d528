-- Another current task leaves a well-formed state well-formed.
use Rattle.std.proofs.Common.{◌≡◌, ℕ, true}
use Rattle.vsm_model.specs.declared.limits.Settings.{Settings}
use Rattle.vsm_model.specs.CellPools.{CellPool, CellExtent}
use Rattle.vsm_model.specs.State.{State, is_task}
use Rattle.vsm_model.specs.WellFormed.{PagesAreSound, SightIsSound, TasksAreSound, IsInSubpool, CellPoolsAreSound, IsWellFormed}
use Rattle.vsm_model.proofs.Registered.{pool_still}

-- It is the task's turn.
abbrev pub turned : State → ℕ → State
turned s task = record s { current = task }

pages_turned : (settings : Settings) (s : State) (task : ℕ) → PagesAreSound settings s → PagesAreSound settings (turned s task)
pages_turned settings s task w =
    record { in_region = w.in_region; has_subpool = w.has_subpool; has_taken = w.has_taken; in_page = w.in_page; has_bytes = w.has_bytes; are_bytes = w.are_bytes }

sight_turned : (s : State) (task : ℕ) → SightIsSound s → SightIsSound (turned s task)
sight_turned s task w =
    record { owner_is_task = w.owner_is_task; owner_sees = w.owner_sees; is_private = w.is_private; seer_is_task = w.seer_is_task; seen_is_there = w.seen_is_there; sees_zero = w.sees_zero }

tasks_turned : (s : State) (task : ℕ) → is_task s task ≡ true → TasksAreSound s → TasksAreSound (turned s task)
tasks_turned s task there w =
    record { root = w.root; below_root = w.below_root; current_is_task = there; numbered = w.numbered; are_words = w.are_words; no_task = w.no_task; no_register = w.no_register }

extent_turned : (s : State) (task : ℕ) (pool : CellPool) (x : CellExtent) → IsInSubpool s pool x → IsInSubpool (turned s task) pool x
extent_turned s task pool x w = record { has_cells = w.has_cells; on_doubleword = w.on_doubleword; is_taken = w.is_taken; in_pages = w.in_pages }

cell_pools_turned : (s : State) (task : ℕ) → CellPoolsAreSound s → CellPoolsAreSound (turned s task)
cell_pools_turned s task w = record {
  ascending = w.ascending;
  few = w.few;
  each = λ k d below. pool_still s (turned s task) _ (λ there. there) (extent_turned s task _) (w.each k d below);
  apart = w.apart;
}

pub turned_is_well_formed : (settings : Settings) (s : State) (task : ℕ) → is_task s task ≡ true → IsWellFormed settings s → IsWellFormed settings (turned s task)
turned_is_well_formed settings s task there w = record {
  pages = pages_turned settings s task w.pages;
  sight = sight_turned s task w.sight;
  tasks = tasks_turned s task there w.tasks;
  cell_pools = cell_pools_turned s task w.cell_pools;
}
