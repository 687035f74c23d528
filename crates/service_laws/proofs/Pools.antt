-- A cell pool that takes the place of another of its name, also with another extent, leaves a well-formed state
-- well-formed.
use Rattle.std.proofs.Common.{◌≡◌, ◌≢◌, ℕ, ◌<◌, ◌≤◌, Less, Equal, Greater, Bool, true, not, Option, Some, None, List, [], ◌∷◌, ◌++◌, map, length, refl, sym, ◌∙◌, ap, subst, true≢false}
use Rattle.std.specs.Prelude.{All, AllPairs, unwrap_or}
use Rattle.std.specs.Ordering.{nat_cmp, eq_by_cmp}
use Rattle.std.specs.Cmp.Lexicographic.{slice_cmp}
use Rattle.std.specs.FinMap.Entries.{by_order}
use Rattle.std.proofs.lemmas.Bool.{both_ways}
use Rattle.std.proofs.lemmas.List.{map_push}
use Rattle.std.proofs.lemmas.List.Elements.{All-head, All-tail, All-cons, All-push, All-weaker, All-nil, All-map, All-filter}
use Rattle.vsm_model.specs.declared.limits.Settings.{Settings}
use Rattle.vsm_model.specs.Search.{is_in, holds}
use Rattle.vsm_model.specs.Regions.{Region, within, in_a_region}
use Rattle.vsm_model.specs.CellPools.{CellPool, CellPools, CellExtent, cell_pool_in, with_cell_pool, extent_doublewords, cells_of, with_extent}
use Rattle.vsm_model.specs.State.{State}
use Rattle.vsm_model.specs.Cells.{with_pool, pool_of, no_pool, sees_pool}
use Rattle.vsm_model.specs.Subpools.{sees}
use Rattle.vsm_model.specs.WellFormed.{PagesAreSound, SightIsSound, TasksAreSound, IsInSubpool, PoolIsSound, CellPoolsAreSound, IsWellFormed, all_extents}
use Rattle.vsm_model.proofs.Registered.{pool_still}
use Rattle.service_laws.specs.Extents.{AreaIsTaken, ExtentsHaveCells}
use Rattle.service_laws.proofs.Lists.{all_but_one, Across, pairs_append, pairs_nil}
use Rattle.std.proofs.lemmas.List.Kept.{AllPairs-cons}
use Rattle.service_laws.proofs.CellTables.{row_of, order}
use Rattle.service_laws.proofs.CellLists.{cell_bounds, some_doublewords}
use Rattle.service_laws.proofs.Spans.{Apart, turned, span, spans, others, all_spans, parts_of, put_sound, added_sound, EachIsSound, apart_areas}
use Rattle.service_laws.proofs.Placed.{pages_taken, extent_stays, extent_taken}

-- Only pages, doublewords, bytes and cell pools differ.
abbrev pub StorageAlone : State → State → Type 0
StorageAlone s t = t ≡ record s { pages = t.pages; taken = t.taken; bytes = t.bytes; cell_pools = t.cell_pools }

pub sight_stays : (s t : State) → StorageAlone s t → SightIsSound s → SightIsSound t
sight_stays s t is w = subst SightIsSound (sym is) (record {
  owner_is_task = w.owner_is_task;
  owner_sees = w.owner_sees;
  is_private = w.is_private;
  seer_is_task = w.seer_is_task;
  seen_is_there = w.seen_is_there;
  sees_zero = w.sees_zero;
})

pub tasks_stay : (s t : State) → StorageAlone s t → TasksAreSound s → TasksAreSound t
tasks_stay s t is w = subst TasksAreSound (sym is) (record {
  root = w.root;
  below_root = w.below_root;
  current_is_task = w.current_is_task;
  numbered = w.numbered;
  are_words = w.are_words;
  no_task = w.no_task;
  no_register = w.no_register;
})

-- another table
pub pages_tabled : (settings : Settings) (s : State) (name : List ℕ) (pool : CellPool) → PagesAreSound settings s → PagesAreSound settings (with_pool s name pool)
pages_tabled settings s name pool w = record {
  in_region = w.in_region;
  has_subpool = w.has_subpool;
  has_taken = w.has_taken;
  in_page = w.in_page;
  has_bytes = w.has_bytes;
  are_bytes = w.are_bytes;
}

pub pool_tabled : (s : State) (name : List ℕ) (new pool : CellPool) → PoolIsSound s pool → PoolIsSound (with_pool s name new) pool
pool_tabled s name new pool p =
    pool_still s (with_pool s name new) pool (λ e. e)
    (λ x h. record { has_cells = h.has_cells; on_doubleword = h.on_doubleword; is_taken = h.is_taken; in_pages = h.in_pages }) p

-- the cell pool of a name is sound
pub sound_of : (s : State) (name : List ℕ) (pool : CellPool) → CellPoolsAreSound s → cell_pool_in s.cell_pools name ≡ Some pool → PoolIsSound s pool
sound_of s name pool w found =
    let row = row_of s.cell_pools name pool w.ascending found in
    (all_but_one (λ row. PoolIsSound s row.1) row.before (name, pool) row.after (subst (EachIsSound s) row.is w.each)).0

-- each extent of a sound table has a cell
pub have_cells : (s : State) → CellPoolsAreSound s → ExtentsHaveCells s
have_cells s w =
    All-weaker (λ row. PoolIsSound s row.1) (λ row. All (λ x. 1 ≤ x.cells) row.1.extents)
    (λ row p. All-weaker (IsInSubpool s row.1) (λ x. 1 ≤ x.cells) (λ x h. h.has_cells) row.1.extents p.in_subpool)
    s.cell_pools w.each

pub cells_of_each : (s : State) (name : List ℕ) (pool : CellPool) → CellPoolsAreSound s → ExtentsHaveCells s →
    cell_pool_in s.cell_pools name ≡ Some pool → All (λ x. 1 ≤ x.cells) pool.extents
cells_of_each s name pool w cells found =
    let row = row_of s.cell_pools name pool w.ascending found in
    (all_but_one (λ row. All (λ x. 1 ≤ x.cells) row.1.extents) row.before (name, pool) row.after
    (subst (λ (table : CellPools). All (λ row. All (λ x. 1 ≤ x.cells) row.1.extents) table) row.is cells)).0

-- the rows of the other names
pub rest_of : (P : List ℕ × CellPool → Type 0) (table : CellPools) (name : List ℕ) → All P table → All P (others table name)
rest_of P table name h = All-filter (λ row. not (eq_by_cmp (slice_cmp nat_cmp) name row.0)) P table h

-- what holds of a cell pool and of all others holds of each in the table
pub all_put : (Q : CellPool → Type 0) (table : CellPools) (name : List ℕ) (new : CellPool) → Q new → All (λ row. Q row.1) table →
    All (λ row. Q row.1) (with_cell_pool table name new)
all_put Q [] name new here h = All-cons (λ row. Q row.1) (name, new) [] here h
all_put Q (row ∷ table) name new here h =
    elim (order name row.0) as (λ o. All (λ row. Q row.1) (by_order o ((name, new) ∷ row ∷ table) ((row.0, new) ∷ table) (row ∷ with_cell_pool table name new))) [
      | Less ↦ All-cons (λ row. Q row.1) (name, new) (row ∷ table) here h
      | Equal ↦ All-cons (λ row. Q row.1) (row.0, new) table here (All-tail (λ row. Q row.1) row table h)
      | Greater ↦ All-cons (λ row. Q row.1) row (with_cell_pool table name new) (All-head (λ row. Q row.1) row table h)
          (all_put Q table name new here (All-tail (λ row. Q row.1) row table h))
    ]

pub held : {A : Type 0} (f : A → Bool) (o : Option A) → holds f o ≡ true → (x : A) × (o ≡ Some x) × (f x ≡ true)
held f None e = absurd (true≢false (sym e))
held f (Some x) e = (x, refl, e)

-- a cell pool that is seen exists
pub pool_is : (s : State) (name : List ℕ) → sees_pool s name ≡ true → (cell_pool_in s.cell_pools name ≡ Some (pool_of s name)) × (sees s (pool_of s name).subpool ≡ true)
pool_is s name e =
    let (pool, found, seen) = held (λ pool. sees s pool.subpool) (cell_pool_in s.cell_pools name) e in
    let same : pool_of s name ≡ pool = ap (λ o. unwrap_or o no_pool) found in
    (found ∙ ap Some (sym same), ap (λ (p : CellPool). sees s p.subpool) same ∙ seen)

-- With other free cells.
module _ (settings : Settings) (s : State) (w : IsWellFormed settings s) (name : List ℕ) (pool : CellPool) (found : cell_pool_in s.cell_pools name ≡ Some pool) where
  pub freed_kept : (free : List ℕ) → All (λ cell. is_in (cells_of pool) cell ≡ true) free → AllPairs (λ cell other. cell ≢ other) free →
      IsWellFormed settings (with_pool s name (record pool { free = free }))
  freed_kept free cells distinct =
      let new : CellPool = record pool { free = free } in
      let p = sound_of s name pool w.cell_pools found in
      let row = row_of s.cell_pools name pool w.cell_pools.ascending found in
      let parts = parts_of s.cell_pools name pool row w.cell_pools.apart in
      let sound : PoolIsSound s new = record {
        has_subpool = p.has_subpool;
        in_subpool = λ k d below.
            let h = p.in_subpool k d below in
            record { has_cells = h.has_cells; on_doubleword = h.on_doubleword; is_taken = h.is_taken; in_pages = h.in_pages };
        are_cells_of_it = cells;
        distinct = distinct;
        bounds = p.bounds;
      } in
      record {
        pages = pages_tabled settings s name new w.pages;
        sight = sight_stays s (with_pool s name new) refl w.sight;
        tasks = tasks_stay s (with_pool s name new) refl w.tasks;
        cell_pools = put_sound s (with_pool s name new) name w.cell_pools pool new found refl (pool_tabled s name new new sound)
            (All-weaker (λ row. PoolIsSound s row.1) (λ row. PoolIsSound (with_pool s name new) row.1) (λ row. pool_tabled s name new row.1)
            (others s.cell_pools name) (rest_of (λ row. PoolIsSound s row.1) s.cell_pools name w.cell_pools.each))
            parts.0 parts.2;
      }

-- With another extent, in an area that was free.
module _ (settings : Settings) (s u : State) (w : IsWellFormed settings s) (positive : ExtentsHaveCells s) (alone : StorageAlone s u) (same : u.cell_pools ≡ s.cell_pools)
    (pool : CellPool) (p : PoolIsSound s pool) (whole : All (λ x. 1 ≤ x.cells) pool.extents) (r : Region) (region : (k : ℕ) → within r k ≡ true → in_a_region settings k ≡ true)
    (address cells : ℕ) (some : 1 ≤ cells) (a : AreaIsTaken r s u pool.subpool address (extent_doublewords pool cells)) where
  abbrev pub further : CellExtent
  further = record { address = address; cells = cells }

  size_is : 4 ≤ pool.size
  size_is = (cell_bounds pool.size pool.primary p.bounds.0).0

  -- the area is apart from each extent
  one_apart : (q : CellPool) → PoolIsSound s q → All (λ x. 1 ≤ x.cells) q.extents → All (λ x. Apart (span pool further) (span q x)) q.extents
  one_apart q h c k d below =
      let its = h.in_subpool k d below in
      apart_areas address (extent_doublewords pool cells) _ _ a.on_doubleword its.on_doubleword (some_doublewords pool cells some size_is)
      (some_doublewords q _ (c k d below) (cell_bounds q.size q.primary h.bounds.0).0)
      (λ j own its_own. both_ways (s.taken j) (a.was_free j own) (its.is_taken j its_own))

  rows_apart : (table : CellPools) → EachIsSound s table → All (λ row. All (λ x. 1 ≤ x.cells) row.1.extents) table →
      All (λ row. All (λ x. Apart (span pool further) (span row.1 x)) row.1.extents) table
  rows_apart table h c k d below = one_apart _ (h k d below) (c k d below)

  pub all_apart : (table : CellPools) → EachIsSound s table → All (λ row. All (λ x. 1 ≤ x.cells) row.1.extents) table → All (Apart (span pool further)) (all_extents table)
  all_apart table h c = all_spans (Apart (span pool further)) table (rows_apart table h c)

  module _ (free : List ℕ) where
    abbrev pub grown : CellPool
    grown = record (with_extent pool further) { free = free }

    spans_are : spans grown ≡ spans pool ++ span pool further ∷ []
    spans_are = map_push (span pool) pool.extents further

    spans_apart : AllPairs Apart (spans pool) → AllPairs Apart (spans grown)
    spans_apart h =
        let before : All (Apart (span pool further)) (spans pool) = All-map (Apart (span pool further)) (span pool) pool.extents (one_apart pool p whole) in
        subst (AllPairs Apart) (sym spans_are)
        (pairs_append Apart (spans pool) (span pool further ∷ []) h
        (AllPairs-cons Apart (span pool further) [] (All-nil (Apart (span pool further))) (pairs_nil Apart))
        (All-weaker (Apart (span pool further)) (λ x. All (Apart x) (span pool further ∷ []))
        (λ x e. All-cons (Apart x) (span pool further) [] (turned (span pool further) x e) (All-nil (Apart x))) (spans pool) before))

    spans_across : (rest : List (ℕ × ℕ)) → Across Apart (spans pool) rest → All (Apart (span pool further)) rest → Across Apart (spans grown) rest
    spans_across rest h here =
        subst (λ xs. Across Apart xs rest) (sym spans_are) (All-push (λ x. All (Apart x) rest) (spans pool) (span pool further) h here)

  module _ (name : List ℕ) (free : List ℕ) (distinct : AllPairs (λ cell other. cell ≢ other) free)
      (its : All (λ cell. is_in (cells_of (grown free)) cell ≡ true) free) where
    abbrev pub extended : State
    extended = with_pool u name (grown free)

    still_there : (n o : ℕ) → s.subpools n o ≡ true → u.subpools n o ≡ true
    still_there n o e = ap (λ (v : State). v.subpools n o) alone ∙ e

    extended_alone : StorageAlone s extended
    extended_alone = ap (λ (v : State). with_pool v name (grown free)) alone

    pub extended_pages : PagesAreSound settings extended
    extended_pages =
        pages_tabled settings u name (grown free)
        (pages_taken s u r pool.subpool address (extent_doublewords pool cells) a settings region still_there
        (still_there pool.subpool.number pool.subpool.owner p.has_subpool) w.pages)

    moved : (q : CellPool) → PoolIsSound s q → PoolIsSound extended q
    moved q h =
        pool_tabled u name (grown free) q
        (pool_still s u q (still_there q.subpool.number q.subpool.owner)
        (λ x. extent_stays s u r pool.subpool address (extent_doublewords pool cells) a q x) h)

    pub extended_sound : PoolIsSound extended (grown free)
    extended_sound = record {
      has_subpool = still_there pool.subpool.number pool.subpool.owner p.has_subpool;
      in_subpool =
          let new = extent_taken s u r pool address cells some a in
          All-push (IsInSubpool extended (grown free)) pool.extents further
          (λ k d below. let h = extent_stays s u r pool.subpool address (extent_doublewords pool cells) a pool _ (p.in_subpool k d below) in
          record { has_cells = h.has_cells; on_doubleword = h.on_doubleword; is_taken = h.is_taken; in_pages = h.in_pages })
          (record { has_cells = new.has_cells; on_doubleword = new.on_doubleword; is_taken = new.is_taken; in_pages = new.in_pages });
      are_cells_of_it = its;
      distinct = distinct;
      bounds = p.bounds;
    }

    table_is : extended.cell_pools ≡ with_cell_pool s.cell_pools name (grown free)
    table_is = ap (λ table. with_cell_pool table name (grown free)) same

    kept_with : CellPoolsAreSound extended → IsWellFormed settings extended
    kept_with c = record {
      pages = extended_pages;
      sight = sight_stays s extended extended_alone w.sight;
      tasks = tasks_stay s extended extended_alone w.tasks;
      cell_pools = c;
    }

    -- of a cell pool that exists,
    pub extended_kept : cell_pool_in s.cell_pools name ≡ Some pool → IsWellFormed settings extended
    extended_kept found =
        let row = row_of s.cell_pools name pool w.cell_pools.ascending found in
        let parts = parts_of s.cell_pools name pool row w.cell_pools.apart in
        let rest = rest_of (λ row. PoolIsSound s row.1) s.cell_pools name w.cell_pools.each in
        kept_with (put_sound s extended name w.cell_pools pool (grown free) found table_is extended_sound
        (All-weaker (λ row. PoolIsSound s row.1) (λ row. PoolIsSound extended row.1) (λ row. moved row.1) (others s.cell_pools name) rest)
        (spans_apart free parts.0)
        (spans_across free (all_extents (others s.cell_pools name)) parts.2
        (all_apart (others s.cell_pools name) rest (rest_of (λ row. All (λ x. 1 ≤ x.cells) row.1.extents) s.cell_pools name positive))))

    -- and of a new one.
    pub added_kept : cell_pool_in s.cell_pools name ≡ None → length s.cell_pools < 256 → pool.extents ≡ [] → IsWellFormed settings extended
    added_kept none room empty =
        let no_spans : spans pool ≡ [] = ap (map (span pool)) empty in
        kept_with (added_sound s extended name w.cell_pools (grown free) none room table_is extended_sound
        (All-weaker (λ row. PoolIsSound s row.1) (λ row. PoolIsSound extended row.1) (λ row. moved row.1) s.cell_pools w.cell_pools.each)
        (spans_apart free (subst (AllPairs Apart) (sym no_spans) (pairs_nil Apart)))
        (spans_across free (all_extents s.cell_pools) (subst (λ xs. Across Apart xs (all_extents s.cell_pools)) (sym no_spans) (All-nil (λ x. All (Apart x) (all_extents s.cell_pools))))
        (all_apart s.cell_pools w.cell_pools.each positive)))
