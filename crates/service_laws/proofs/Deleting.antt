-- DELETE leaves a well-formed state well-formed.
use Rattle.std.proofs.Common.{◌≡◌, ◌⊎◌, ℕ, ◌+◌, ◌*◌, ◌/◌, ◌%◌, ◌≤◌, Bool, true, false, not, Some, List, [], ◌∷◌, refl, sym, ap, subst, arith, inl, inr, true≢false}
use Rattle.std.specs.Prelude.{All}
use Rattle.std.specs.List.{list_any}
use Rattle.std.proofs.lemmas.Bool.{or_cases, not-false, false_from_ne_true}
use Rattle.std.proofs.lemmas.List.Elements.{All-head, All-tail}
use Rattle.std.proofs.lemmas.List.Folds.{list_any_none}
use Rattle.vsm_model.specs.declared.causes.Cause.TheVariants.{NoCellPool}
use Rattle.vsm_model.specs.declared.limits.Settings.{Settings}
use Rattle.vsm_model.specs.Regions.{among}
use Rattle.vsm_model.specs.CellPools.{CellPool, CellPools, CellExtent, cell_pool_in, without_cell_pool, extent_doublewords}
use Rattle.vsm_model.specs.State.{State}
use Rattle.vsm_model.specs.Services.{delete}
use Rattle.vsm_model.specs.Cells.{pool_of, sees_pool, without_extents, deleted}
use Rattle.vsm_model.specs.WellFormed.{IsWellFormed, PoolIsSound, IsInSubpool, all_extents}
use Rattle.vsm_model.proofs.Chosen.{past, no_cause}
use Rattle.service_laws.specs.Extents.{lies_in}
use Rattle.service_laws.specs.CellKept.{DeleteLeavesWellFormed}
use Rattle.service_laws.proofs.Lists.{across_turned}
use Rattle.service_laws.proofs.CellTables.{row_of}
use Rattle.service_laws.proofs.Spans.{Apart, turned, span, spans, others, spans_all, all_unmapped, parts_of, removed_sound, EachIsSound, among-in}
use Rattle.service_laws.proofs.Pools.{sight_stays, tasks_stay, sound_of, pool_is, rest_of}
use Rattle.service_laws.proofs.Emptied.{emptied, extents_given_back, pages_left, extent_left}
use Rattle.service_laws.proofs.Answered.{left_well_formed}

-- one of the elements passes, and has what all have
pub any_at : {X : Type 0} (P : X → Type 0) (f : X → Bool) (xs : List X) → All P xs → list_any f xs ≡ true → (x : X) × (P x) × (f x ≡ true)
any_at P f [] h e = absurd (true≢false (sym e))
any_at P f (x ∷ xs) h e =
    elim (or_cases (f x) (list_any f xs) e) [
      | inl here ↦ (x, All-head P x xs h, here)
      | inr later ↦ any_at P f xs (All-tail P x xs h) later
    ]

-- extents that lie apart have no doubleword in common
pub apart_doublewords : (a m b n d : ℕ) → a % 8 ≡ 0 → b % 8 ≡ 0 → (a + 8 * m ≤ b) ⊎ (b + 8 * n ≤ a) → among (b / 8) n d ≡ true → among (a / 8) m d ≡ false
apart_doublewords a m b n d on too apart e =
    false_from_ne_true (among (a / 8) m d) (λ own.
    let x = among-in (a / 8) m d own in
    let y = among-in (b / 8) n d e in
    let low = x.0 in
    let high = x.1 in
    let from = y.0 in
    let below = y.1 in
    elim apart [
      | inl before ↦ omega (arith, before, high, from, on, too)
      | inr behind ↦ omega (arith, behind, low, below, on, too)
    ])

module _ (settings : Settings) (s : State) (w : IsWellFormed settings s) (name : List ℕ) (pool : CellPool) (found : cell_pool_in s.cell_pools name ≡ Some pool) where
  abbrev pub of_pool : ℕ → Bool
  of_pool d = list_any (lies_in pool d) pool.extents

  abbrev pub left_over : State
  left_over = record (emptied s pool.subpool of_pool) { cell_pools = without_cell_pool s.cell_pools name }

  sound : PoolIsSound s pool
  sound = sound_of s name pool w.cell_pools found

  -- the doublewords of the extents are taken in the subpool's pages
  pub used : (d : ℕ) → of_pool d ≡ true → (s.taken d ≡ true) × (s.pages (d / 512) ≡ Some pool.subpool)
  used d e =
      let (x, h, own) = any_at (IsInSubpool s pool) (lies_in pool d) pool.extents sound.in_subpool e in
      (h.is_taken d own, h.in_pages d own)

  -- those of the other cell pools' extents aren't among them
  others_apart : (q : CellPool) (y : CellExtent) → IsInSubpool s q y → All (Apart (span q y)) (spans pool) →
      (d : ℕ) → among (y.address / 8) (extent_doublewords q y.cells) d ≡ true → of_pool d ≡ false
  others_apart q y its far d own =
      let each = all_unmapped (Apart (span q y)) (span pool) pool.extents far in
      list_any_none (lies_in pool d) pool.extents
      (λ k e below. apart_doublewords _ _ y.address (extent_doublewords q y.cells) d (sound.in_subpool k e below).on_doubleword its.on_doubleword
      (turned (span q y) _ (each k e below)) own)

  stays : (q : CellPool) → PoolIsSound s q → All (λ y. All (Apart (span q y)) (spans pool)) q.extents → PoolIsSound left_over q
  stays q h far = record {
    has_subpool = h.has_subpool;
    in_subpool = λ k d below.
        let its = h.in_subpool k d below in
        let moved = extent_left settings s w.pages pool.subpool of_pool q _ its (others_apart q _ its (far k d below)) in
        record { has_cells = moved.has_cells; on_doubleword = moved.on_doubleword; is_taken = moved.is_taken; in_pages = moved.in_pages };
    are_cells_of_it = h.are_cells_of_it;
    distinct = h.distinct;
    bounds = h.bounds;
  }

  all_stay : (table : CellPools) → EachIsSound s table → All (λ row. All (λ y. All (Apart (span row.1 y)) (spans pool)) row.1.extents) table →
      EachIsSound left_over table
  all_stay table h far k d below = stays _ (h k d below) (far k d below)

  pub left_is : without_extents s pool pool.extents ≡ emptied s pool.subpool of_pool
  left_is = extents_given_back settings s w.pages pool pool.extents

  pub deleted_kept : IsWellFormed settings left_over
  deleted_kept =
      let row = row_of s.cell_pools name pool w.cell_pools.ascending found in
      let parts = parts_of s.cell_pools name pool row w.cell_pools.apart in
      let rest = all_extents (others s.cell_pools name) in
      let far = spans_all (λ y. All (Apart y) (spans pool)) (others s.cell_pools name) (across_turned Apart turned (spans pool) rest parts.2) in
      let pages = pages_left settings s w.pages pool.subpool of_pool (λ d e. (used d e).1) in
      record {
        pages = record {
          in_region = pages.in_region;
          has_subpool = pages.has_subpool;
          has_taken = pages.has_taken;
          in_page = pages.in_page;
          has_bytes = pages.has_bytes;
          are_bytes = pages.are_bytes;
        };
        sight = sight_stays s left_over refl w.sight;
        tasks = tasks_stay s left_over refl w.tasks;
        cell_pools = removed_sound s left_over name w.cell_pools pool found refl
            (all_stay (others s.cell_pools name) (rest_of (λ row. PoolIsSound s row.1) s.cell_pools name w.cell_pools.each) far);
      }

pub delete_leaves_well_formed : DeleteLeavesWellFormed
delete_leaves_well_formed settings names_full s t name reply w e =
    let done = no_cause settings names_full s t (delete name) reply refl e in
    let first = past (not (sees_pool s name)) NoCellPool [] done.0 in
    let found = (pool_is s name (not-false (sees_pool s name) first.0)).0 in
    let pool : CellPool = pool_of s name in
    let is : (deleted s name).0 ≡ left_over settings s w name pool found =
    ap (λ (u : State). record u { cell_pools = without_cell_pool s.cell_pools name }) (left_is settings s w name pool found) in
    left_well_formed settings (delete name) (deleted s name) t reply (omega arith, omega arith, tt)
    (subst (IsWellFormed settings) (sym is) (deleted_kept settings s w name pool found)) done.1
