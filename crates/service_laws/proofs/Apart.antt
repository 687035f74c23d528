-- Cells lie apart, and one that is handed out wasn't in use.
use Rattle.std.proofs.Common.{◌≡◌, ◌≢◌, ◌⊎◌, ℕ, ◌+◌, ◌*◌, ◌/◌, ◌≤◌, Ordering, Less, Equal, Greater, if◌then◌else◌, Bool, true, false, not, ◌==◌, Option, Some, None, List, [], ◌∷◌, ◌++◌, flat_map, map, refl, sym, ◌∙◌, ap, subst, arith, inl, inr, true≢false}
use Rattle.std.specs.Prelude.{All, AllPairs}
use Rattle.std.specs.Ordering.{eq_by_cmp}
use Rattle.std.specs.Cmp.{tied_itself}
use Rattle.std.specs.Cmp.Lexicographic.{nat_list_cmp_total}
use Rattle.std.proofs.lemmas.Bool.{or_left, eq-eqb, and_parts, and_from, both_ways, not-true, false_from_ne_true, cases_order}
use Rattle.std.proofs.lemmas.List.Elements.{All-head, All-tail}
use Rattle.vsm_model.specs.declared.limits.Settings.{Settings}
use Rattle.vsm_model.specs.declared.replies.Reply.{Reply}
use Rattle.vsm_model.specs.declared.replies.Reply.TheVariants.{Cell, Returned}
use Rattle.vsm_model.specs.Search.{is_in}
use Rattle.vsm_model.specs.CellPools.{CellPool, CellPools, CellExtent, cell_pool_in, extent_cells, cells_of, cells_from, extent_doublewords, with_extent}
use Rattle.vsm_model.specs.State.{State}
use Rattle.vsm_model.specs.WellFormed.{IsWellFormed, PoolIsSound, IsInSubpool, all_extents}
use Rattle.service_laws.specs.Promises.{IsFirstFree, IsFirstOfFurther, IsHandedOut}
use Rattle.service_laws.specs.InUse.{IsInUse, LieApart, CellsOfAPoolLieApart, CellsOfTwoPoolsLieApart, HandedOutWasNotInUse}
use Rattle.service_laws.proofs.Lists.{pairs_head, pairs_tail}
use Rattle.service_laws.proofs.CellTables.{row_of, order, same_name, same_pool, without_others}
use Rattle.service_laws.proofs.CellLists.{in_right, in_either, all_at, cell_of, cell_at, cell_within, cell_bounds, cells_distinct, times_more}
use Rattle.service_laws.proofs.Spans.{Apart, turned, span, others, spans_all, all_unmapped, parts_of, in-among}
use Rattle.service_laws.proofs.Pools.{sound_of}
use Rattle.service_laws.proofs.Getting.{cells_grown}
use Rattle.service_laws.proofs.Promised.{get_hands_out_a_cell}

-- cells of extents that lie apart
apart_cells : (p q : CellPool) (x y : CellExtent) (c d : ℕ) → Apart (span p x) (span q y) → is_in (extent_cells p.size x) c ≡ true →
    is_in (extent_cells q.size y) d ≡ true → LieApart c p.size d q.size
apart_cells p q x y c d far here there =
    let a = cell_within p x c here in
    let b = cell_within q y d there in
    let low = a.0 in
    let high = a.1 in
    let from = b.0 in
    let end = b.1 in
    elim far [
      | inl before ↦ inl (omega (arith, before, high, from))
      | inr behind ↦ inr (omega (arith, behind, end, low))
    ]

-- cells of one extent
same_extent : (p : CellPool) (x : CellExtent) (c d : ℕ) → is_in (extent_cells p.size x) c ≡ true → is_in (extent_cells p.size x) d ≡ true → c ≢ d →
    LieApart c p.size d p.size
same_extent p x c d here there other =
    let (i, below, at) = cell_at p.size x.address x.cells c here in
    let (j, under, on) = cell_at p.size x.address x.cells d there in
    elim (cases_order i j) [
      | inl same ↦ absurd (other (at ∙ ap (λ k. x.address + k * p.size) same ∙ sym on))
      | inr apart ↦ elim apart [
        | inl before ↦ let room = times_more i j p.size before in inl (omega (arith, at, on, room))
        | inr behind ↦ let room = times_more j i p.size behind in inr (omega (arith, at, on, room))
      ]
    ]

-- cells of extents of one cell pool that lie apart
of_one : (p : CellPool) (xs : List CellExtent) (c d : ℕ) → AllPairs Apart (map (span p) xs) → is_in (flat_map (extent_cells p.size) xs) c ≡ true →
    is_in (flat_map (extent_cells p.size) xs) d ≡ true → c ≢ d → LieApart c p.size d p.size
of_one p [] c d h e f other = absurd (true≢false (sym e))
of_one p (x ∷ xs) c d h e f other =
    let far : All (λ y. Apart (span p x) (span p y)) xs = all_unmapped (Apart (span p x)) (span p) xs (pairs_head Apart (span p x) (map (span p) xs) h) in
    elim (in_either (extent_cells p.size x) (flat_map (extent_cells p.size) xs) c e) [
      | inl here ↦ elim (in_either (extent_cells p.size x) (flat_map (extent_cells p.size) xs) d f) [
        | inl there ↦ same_extent p x c d here there other
        | inr there ↦
            let (y, apart, its) = cell_of (λ y. Apart (span p x) (span p y)) p.size xs d far there in
            apart_cells p p x y c d apart here its
      ]
      | inr here ↦ elim (in_either (extent_cells p.size x) (flat_map (extent_cells p.size) xs) d f) [
        | inl there ↦
            let (y, apart, its) = cell_of (λ y. Apart (span p x) (span p y)) p.size xs c far here in
            apart_cells p p y x c d (turned (span p x) (span p y) apart) its there
        | inr there ↦ of_one p xs c d (pairs_tail Apart (span p x) (map (span p) xs) h) here there other
      ]
    ]

pub cells_of_a_pool_lie_apart : CellsOfAPoolLieApart
cells_of_a_pool_lie_apart settings s name pool cell other w found here there apart =
    let row = row_of s.cell_pools name pool w.cell_pools.ascending found in
    of_one pool pool.extents cell other (parts_of s.cell_pools name pool row w.cell_pools.apart).0 here there apart

-- what holds of all rows holds of that of a name
pub row_at : (P : CellPool → Type 0) (table : CellPools) (name : List ℕ) (pool : CellPool) → All (λ row. P row.1) table → cell_pool_in table name ≡ Some pool → P pool
row_at P [] name pool h found = absurd (none_is_not pool found) where
  none_is_not : (q : CellPool) → ◌≡◌ {A = Option CellPool} None (Some q) → ⊥
  none_is_not q e = cc
row_at P (row ∷ table) name pool h found =
    chosen (eq_by_cmp order name row.0) found (λ e. row_at P table name pool (All-tail (λ row. P row.1) row table h) e) where
      chosen : (b : Bool) → (if b then Some row.1 else cell_pool_in table name) ≡ Some pool → (cell_pool_in table name ≡ Some pool → P pool) → P pool
      chosen true e later = subst P (same_pool row.1 pool e) (All-head (λ row. P row.1) row table h)
      chosen false e later = later e

pub cells_of_two_pools_lie_apart : CellsOfTwoPoolsLieApart
cells_of_two_pools_lie_apart settings s name name_2 p q cell other w apart found found_2 here there =
    let row = row_of s.cell_pools name p w.cell_pools.ascending found in
    let far = (parts_of s.cell_pools name p row w.cell_pools.apart).2 in
    let near : All (λ x. All (Apart (span p x)) (all_extents (others s.cell_pools name))) p.extents =
    all_unmapped (λ u. All (Apart u) (all_extents (others s.cell_pools name))) (span p) p.extents far in
    let (x, each, its) = cell_of (λ x. All (Apart (span p x)) (all_extents (others s.cell_pools name))) p.size p.extents cell near here in
    let rows = spans_all (Apart (span p x)) (others s.cell_pools name) each in
    let still : cell_pool_in (others s.cell_pools name) name_2 ≡ Some q =
    without_others s.cell_pools name name_2 (λ e. apart (sym e)) ∙ found_2 in
    let of_q = row_at (λ r. All (λ y. Apart (span p x) (span r y)) r.extents) (others s.cell_pools name) name_2 q rows still in
    let (y, between, its_2) = cell_of (λ y. Apart (span p x) (span q y)) q.size q.extents other of_q there in
    apart_cells p q x y cell other between its its_2

-- A cell of a cell pool lies in a taken doubleword.
pub cell_is_taken : (s : State) (pool : CellPool) (cell : ℕ) → PoolIsSound s pool → is_in (cells_of pool) cell ≡ true → s.taken (cell / 8) ≡ true
cell_is_taken s pool cell p e =
    let (x, its, here) = cell_of (IsInSubpool s pool) pool.size pool.extents cell p.in_subpool e in
    let size = (cell_bounds pool.size pool.primary p.bounds.0).0 in
    let place = cell_within pool x cell here in
    let begin = place.0 in
    let end = place.1 in
    let on = its.on_doubleword in
    its.is_taken (cell / 8)
    (in-among (x.address / 8) (extent_doublewords pool x.cells) (cell / 8) (omega (arith, begin)) (omega (arith, end, size, on)))

-- an address appears once in a list of distinct ones
once : (cell : ℕ) (rest : List ℕ) → AllPairs (λ c d. c ≢ d) (cell ∷ rest) → is_in rest cell ≡ false
once cell rest distinct =
    false_from_ne_true (is_in rest cell) (λ e. all_at (λ d. cell ≢ d) rest cell (pairs_head (λ c d. c ≢ d) cell rest distinct) e refl)

cell_is : (c d : ℕ) → ◌≡◌ {A = Reply} (Cell c) (Cell d) → c ≡ d
cell_is c d e = cc

not_four : (c : ℕ) → ◌≡◌ {A = Reply} (Cell c) (Returned 4) → ⊥
not_four c e = cc

less_not_equal : ◌≡◌ {A = Ordering} Less Equal → ⊥
less_not_equal e = cc

greater_not_equal : ◌≡◌ {A = Ordering} Greater Equal → ⊥
greater_not_equal e = cc

pub same_or_other : (a b : List ℕ) → (a ≡ b) ⊎ (a ≢ b)
same_or_other a b =
    elim (order a b) as (λ o. order a b ≡ o → (a ≡ b) ⊎ (a ≢ b)) [
      | Less ↦ λ e. inr (λ same. less_not_equal (sym e ∙ ap (λ k. order k b) same ∙ tied_itself nat_list_cmp_total b))
      | Equal ↦ λ e. inl (same_name a b e)
      | Greater ↦ λ e. inr (λ same. greater_not_equal (sym e ∙ ap (λ k. order k b) same ∙ tied_itself nat_list_cmp_total b))
    ] refl

module _ (settings : Settings) (s t : State) (w : IsWellFormed settings s) (name : List ℕ) (pool : CellPool) (found : cell_pool_in s.cell_pools name ≡ Some pool) (cell : ℕ) where
  sound : PoolIsSound s pool
  sound = sound_of s name pool w.cell_pools found

  -- the first free cell
  of_free : IsFirstFree s t name pool cell → ((other : List ℕ) → IsInUse s.cell_pools other cell → ⊥) × IsInUse t.cell_pools name cell
  of_free h = (not_used, (record pool { free = h.rest }, h.after, and_from (is_in (cells_of pool) cell) (not (is_in h.rest cell)) a_cell (ap not (once cell h.rest distinct))))
    where
      a_cell : is_in (cells_of pool) cell ≡ true
      a_cell =
          All-head (λ c. is_in (cells_of pool) c ≡ true) cell h.rest (subst (λ xs. All (λ c. is_in (cells_of pool) c ≡ true) xs) h.was_first sound.are_cells_of_it)

      distinct : AllPairs (λ c d. c ≢ d) (cell ∷ h.rest)
      distinct = subst (λ xs. AllPairs (λ c d. c ≢ d) xs) h.was_first sound.distinct

      is_free : is_in pool.free cell ≡ true
      is_free = ap (λ xs. is_in xs cell) h.was_first ∙ or_left (cell == cell) (is_in h.rest cell) (eq-eqb cell cell refl)

      not_used : (other : List ℕ) → IsInUse s.cell_pools other cell → ⊥
      not_used other (q, at, used) =
          let parts = and_parts (is_in (cells_of q) cell) (not (is_in q.free cell)) used in
          elim (same_or_other other name) [
            | inl same ↦
                let is : q ≡ pool = same_pool q pool (sym at ∙ ap (cell_pool_in s.cell_pools) same ∙ found) in
                both_ways (is_in pool.free cell) (ap (λ (r : CellPool). is_in r.free cell) (sym is) ∙ not-true (is_in q.free cell) parts.1) is_free
            | inr apart ↦
                let size = (cell_bounds pool.size pool.primary sound.bounds.0).0 in
                let size_2 = (cell_bounds q.size q.primary (sound_of s other q w.cell_pools at).bounds.0).0 in
                elim (cells_of_two_pools_lie_apart settings s name other pool q cell cell w (λ e. apart (sym e)) found at a_cell parts.0) [
                  | inl before ↦ omega (arith, before, size)
                  | inr behind ↦ omega (arith, behind, size_2)
                ]
          ]

  -- one of another extent
  of_further : IsFirstOfFurther settings s t name pool cell → ((other : List ℕ) → IsInUse s.cell_pools other cell → ⊥) × IsInUse t.cell_pools name cell
  of_further h = (
    λ other used. both_ways (s.taken (cell / 8)) not_taken
        (cell_is_taken s used.0 cell (sound_of s other used.0 w.cell_pools used.1) (and_parts (is_in (cells_of used.0) cell) (not (is_in used.0.free cell)) used.2).0),
    (
      record pool { extents = pool.extents ++ record { address = cell; cells = pool.secondary } ∷ []; free = h.rest },
      h.after,
      and_from (is_in (cells_of (with_extent pool (record { address = cell; cells = pool.secondary }))) cell) (not (is_in h.rest cell)) a_cell
          (ap not (once cell h.rest (subst (λ xs. AllPairs (λ c d. c ≢ d) xs) h.cells (cells_distinct pool.size cell pool.secondary (omega (arith, size)))))),
    ),
  ) where
    size : 4 ≤ pool.size
    size = (cell_bounds pool.size pool.secondary sound.bounds.1).0

    some : 1 ≤ pool.secondary
    some = (cell_bounds pool.size pool.secondary sound.bounds.1).2

    not_taken : s.taken (cell / 8) ≡ false
    not_taken =
        let room = times_more 0 pool.secondary pool.size some in
        let more = size in
        h.area.was_free (cell / 8) (in-among (cell / 8) (extent_doublewords pool pool.secondary) (cell / 8) (omega arith) (omega (arith, room, more)))

    a_cell : is_in (cells_of (with_extent pool (record { address = cell; cells = pool.secondary }))) cell ≡ true
    a_cell =
        ap (λ xs. is_in xs cell) (cells_grown pool (record { address = cell; cells = pool.secondary }))
        ∙ in_right (cells_of pool) (cells_from pool.size cell pool.secondary) cell
        (ap (λ xs. is_in xs cell) h.cells ∙ or_left (cell == cell) (is_in h.rest cell) (eq-eqb cell cell refl))

pub handed_out_was_not_in_use : HandedOutWasNotInUse
handed_out_was_not_in_use settings names_full s t name g cell w e =
    elim (get_hands_out_a_cell settings names_full s t name g (Cell cell) w e) [
      | inl done ↦
          let handed : IsHandedOut settings s t name g cell = subst (IsHandedOut settings s t name g) (sym (cell_is cell done.0 done.1)) done.2 in
          elim handed.source [
            | inl first ↦ of_free settings s t w name handed.pool handed.before.found cell first
            | inr further ↦ of_further settings s t w name handed.pool handed.before.found cell further.1
          ]
      | inr four ↦ absurd (not_four cell four.1)
    ]
