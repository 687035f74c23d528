-- The registers that a reply sets leave a well-formed state well-formed.
use Rattle.std.proofs.Common.{◌≡◌, ℕ, ◌<◌, ◌^◌, Bool, true, false, ◌&&◌, ◌==◌, if◌then◌else◌, List, [], ◌∷◌, refl, ◌∙◌, ap, arith}
use Rattle.std.proofs.lemmas.Bool.{and_parts, eqb-true, both_ways}
use Rattle.vsm_model.specs.declared.limits.Settings.{Settings}
use Rattle.vsm_model.specs.State.{State, is_task}
use Rattle.vsm_model.specs.CellPools.{CellPool, CellExtent}
use Rattle.vsm_model.specs.Registers.{with_register, with_registers}
use Rattle.vsm_model.specs.WellFormed.{PagesAreSound, SightIsSound, TasksAreSound, IsInSubpool, PoolIsSound, CellPoolsAreSound, IsWellFormed}

-- A cell pool stays sound if its subpool stays, with its extents in it.
pub pool_still : (s t : State) (pool : CellPool) →
    (s.subpools pool.subpool.number pool.subpool.owner ≡ true → t.subpools pool.subpool.number pool.subpool.owner ≡ true) →
    ((x : CellExtent) → IsInSubpool s pool x → IsInSubpool t pool x) → PoolIsSound s pool → PoolIsSound t pool
pool_still s t pool there extent p = record {
  has_subpool = there p.has_subpool;
  in_subpool = λ k d below. extent _ (p.in_subpool k d below);
  are_cells_of_it = p.are_cells_of_it;
  distinct = p.distinct;
  bounds = p.bounds;
}

-- each register is one of the sixteen, and each word is below 2 ^ 32
abbrev pub AreWords : List (ℕ × ℕ) → Type 0
AreWords [] = Unit {0}
AreWords (row ∷ rows) = (row.0 < 16) × (row.1 < 2 ^ 32) × AreWords rows

module _ (s : State) (register word : ℕ) where
  pub pages_registered : (settings : Settings) → PagesAreSound settings s → PagesAreSound settings (with_register s register word)
  pages_registered settings w =
      record { in_region = w.in_region; has_subpool = w.has_subpool; has_taken = w.has_taken; in_page = w.in_page; has_bytes = w.has_bytes; are_bytes = w.are_bytes }

  pub sight_registered : SightIsSound s → SightIsSound (with_register s register word)
  sight_registered w =
      record { owner_is_task = w.owner_is_task; owner_sees = w.owner_sees; is_private = w.is_private; seer_is_task = w.seer_is_task; seen_is_there = w.seen_is_there; sees_zero = w.sees_zero }

  pub tasks_registered : register < 16 → word < 2 ^ 32 → TasksAreSound s → TasksAreSound (with_register s register word)
  tasks_registered low small w = record {
    root = w.root;
    below_root = w.below_root;
    current_is_task = w.current_is_task;
    numbered = w.numbered;
    are_words = λ t r. bounded ((t == s.current) && (r == register)) (s.words t r) (w.are_words t r);
    no_task = λ t r none. otherwise ((t == s.current) && (r == register)) (s.words t r)
        (λ own. both_ways (is_task s t) none (ap (is_task s) (eqb-true t s.current (and_parts (t == s.current) (r == register) own).0) ∙ w.current_is_task))
        (w.no_task t r none);
    no_register = λ t r past. otherwise ((t == s.current) && (r == register)) (s.words t r)
        (λ own. let same = eqb-true r register (and_parts (t == s.current) (r == register) own).1 in omega (arith, same, past, low))
        (w.no_register t r past);
  } where
    bounded : (b : Bool) (old : ℕ) → old < 2 ^ 32 → (if b then word else old) < 2 ^ 32
    bounded true old h = small
    bounded false old h = h

    otherwise : (b : Bool) (old : ℕ) → (b ≡ true → ⊥) → old ≡ 0 → (if b then word else old) ≡ 0
    otherwise true old never h = absurd (never refl)
    otherwise false old never h = h

  extent_registered : (pool : CellPool) (x : CellExtent) → IsInSubpool s pool x → IsInSubpool (with_register s register word) pool x
  extent_registered pool x w = record { has_cells = w.has_cells; on_doubleword = w.on_doubleword; is_taken = w.is_taken; in_pages = w.in_pages }

  pub cell_pools_registered : CellPoolsAreSound s → CellPoolsAreSound (with_register s register word)
  cell_pools_registered w = record {
    ascending = w.ascending;
    few = w.few;
    each = λ k d below. pool_still s (with_register s register word) _ (λ there. there) (extent_registered _) (w.each k d below);
    apart = w.apart;
  }

  pub register_leaves_well_formed : (settings : Settings) → register < 16 → word < 2 ^ 32 → IsWellFormed settings s → IsWellFormed settings (with_register s register word)
  register_leaves_well_formed settings low small w = record {
    pages = pages_registered settings w.pages;
    sight = sight_registered w.sight;
    tasks = tasks_registered low small w.tasks;
    cell_pools = cell_pools_registered w.cell_pools;
  }

pub registers_leave_well_formed : (settings : Settings) (rows : List (ℕ × ℕ)) (s : State) → AreWords rows → IsWellFormed settings s → IsWellFormed settings (with_registers s rows)
registers_leave_well_formed settings [] s words w = w
registers_leave_well_formed settings (row ∷ rows) s words w =
    registers_leave_well_formed settings rows (with_register s row.0 row.1) words.2 (register_leaves_well_formed s row.0 row.1 settings words.0 words.1 w)

-- Only registers change.
pub words_alone : (rows : List (ℕ × ℕ)) (s : State) → with_registers s rows ≡ record s { words = (with_registers s rows).words }
words_alone [] s = refl
words_alone (row ∷ rows) s = words_alone rows (with_register s row.0 row.1)
