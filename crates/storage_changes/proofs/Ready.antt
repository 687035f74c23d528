-- Extents that are to be given back one after the other, on the plain machine.
use Rattle.std.proofs.Common.{◌≡◌, ℕ, ◌/◌, ◌%◌, Bool, true, false, not, List, [], ◌∷◌, map, ap}
use Rattle.std.specs.Prelude.{All, AllPairs}
use Rattle.std.proofs.lemmas.Bool.{and_from}
use Rattle.std.proofs.lemmas.List.Elements.{All-head, All-tail}
use Rattle.vsm_model.specs.declared.limits.Settings.{Settings}
use Rattle.vsm_model.specs.CellPools.{CellPool, CellPools, extent_doublewords}
use Rattle.vsm_model.specs.Regions.{among}
use Rattle.vsm_model.specs.Releasing.{is_not_taken, without_area}
use Rattle.vsm_model.specs.Search.{holds, some_pass}
use Rattle.vsm_model.specs.State.{State}
use Rattle.vsm_model.specs.Subpools.{same_subpool}
use Rattle.vsm_model.specs.WellFormed.{IsWellFormed, IsInSubpool}
use Rattle.vsm_model.proofs.Least.{all_pass_from}
use Rattle.service_laws.proofs.Cases.{belongs_from, in_among}
use Rattle.service_laws.proofs.Changes.{released_kept}
use Rattle.service_laws.proofs.Deleting.{apart_doublewords}
use Rattle.service_laws.proofs.Emptied.{extent_left}
use Rattle.service_laws.proofs.Lists.{pairs_head, pairs_tail}
use Rattle.service_laws.proofs.Spans.{Apart, turned, span, EachIsSound}
use Rattle.cell_pool.specs.declared.settings.Extent.{Extent}
use Rattle.storage_changes.specs.PoolTable.{extent_of}

-- the doublewords of an extent of the cell pool
abbrev pub lies : CellPool → Extent → ℕ → Bool
lies pool x = among (x.start / 8) (extent_doublewords pool x.count)

-- an extent has none of the doublewords of the cell pools in a table, nor of some others
abbrev pub IsClear : CellPools → CellPool → Extent → Type 0
IsClear table pool x =
    All (λ row. All (λ y. (j : ℕ) → among (y.address / 8) (extent_doublewords row.1 y.cells) j ≡ true → lies pool x j ≡ false) row.1.extents) table

abbrev pub Clears : CellPool → Extent → List Extent → Type 0
Clears pool x [] = Unit {0}
Clears pool x (y ∷ ys) = ((j : ℕ) → lies pool y j ≡ true → lies pool x j ≡ false) × Clears pool x ys

-- Each lies in taken doublewords of the subpool, and none has one of a later one.
abbrev pub AreReady : State → CellPools → CellPool → List Extent → Type 0
AreReady s table pool [] = Unit {0}
AreReady s table pool (x ∷ xs) = IsInSubpool s pool (extent_of x) × IsClear table pool x × Clears pool x xs × AreReady s table pool xs

module _ (settings : Settings) (s : State) (w : IsWellFormed settings s) (pool : CellPool) where
  -- one that is given back leaves a well-formed state, and the others as they are
  pub kept : (x : Extent) → IsInSubpool s pool (extent_of x) → IsClear s.cell_pools pool x
      → IsWellFormed settings (without_area s pool.subpool (x.start / 8) (extent_doublewords pool x.count))
  kept x its clear =
      let d = x.start / 8 in
      let count = extent_doublewords pool x.count in
      let used : some_pass (is_not_taken s pool.subpool) d count ≡ false =
      ap not (all_pass_from (λ k. not (is_not_taken s pool.subpool k)) d count (λ k low high.
      ap (λ b. not (not b)) (and_from (holds (same_subpool pool.subpool) (s.pages (k / 512))) (s.taken k)
      (belongs_from pool.subpool (s.pages (k / 512)) (its.in_pages k (in_among d count k low high))) (its.is_taken k (in_among d count k low high))))) in
      released_kept settings s w pool.subpool d count used clear

  pub still_ready : (x : Extent) (table : CellPools) (xs : List Extent) → Clears pool x xs → AreReady s table pool xs
      → AreReady (without_area s pool.subpool (x.start / 8) (extent_doublewords pool x.count)) table pool xs
  still_ready x table [] clear ready = tt
  still_ready x table (y ∷ ys) clear ready =
      let its = extent_left settings s w.pages pool.subpool (lies pool x) pool (extent_of y) ready.0 clear.0 in (
        record { has_cells = its.has_cells; on_doubleword = its.on_doubleword; is_taken = its.is_taken; in_pages = its.in_pages },
        ready.1,
        ready.2,
        still_ready x table ys clear.1 ready.3,
      )

module _ (s : State) (table : CellPools) (pool : CellPool) where
  -- extents that lie apart
  clears : (x : Extent) (ys : List Extent) → x.start % 8 ≡ 0 → All (IsInSubpool s pool) (map extent_of ys)
      → All (Apart (span pool (extent_of x))) (map (span pool) (map extent_of ys)) → Clears pool x ys
  clears x [] on its apart = tt
  clears x (y ∷ ys) on its apart =
      let here = All-head (IsInSubpool s pool) (extent_of y) (map extent_of ys) its in
      let far = All-head (Apart (span pool (extent_of x))) (span pool (extent_of y)) (map (span pool) (map extent_of ys)) apart in (
        λ j own. apart_doublewords x.start (extent_doublewords pool x.count) y.start (extent_doublewords pool y.count) j on here.on_doubleword far own,
        clears x ys on (All-tail (IsInSubpool s pool) (extent_of y) (map extent_of ys) its)
            (All-tail (Apart (span pool (extent_of x))) (span pool (extent_of y)) (map (span pool) (map extent_of ys)) apart),
      )

  -- those of a sound cell pool are ready
  pub ready : (xs : List Extent) → All (IsInSubpool s pool) (map extent_of xs) → EachIsSound s table
      → All (λ row. All (λ y. All (Apart (span row.1 y)) (map (span pool) (map extent_of xs))) row.1.extents) table
      → AllPairs Apart (map (span pool) (map extent_of xs)) → AreReady s table pool xs
  ready [] its each far apart = tt
  ready (x ∷ xs) its each far apart =
      let here = All-head (IsInSubpool s pool) (extent_of x) (map extent_of xs) its in
      let later = All-tail (IsInSubpool s pool) (extent_of x) (map extent_of xs) its in
      let spans = map (span pool) (map extent_of xs) in (
        here,
        λ k row below i y under j own. apart_doublewords x.start (extent_doublewords pool x.count) _ _ j here.on_doubleword
            ((each k row below).in_subpool i y under).on_doubleword
            (turned _ _ (All-head (Apart _) (span pool (extent_of x)) spans (far k row below i y under))) own,
        clears x xs here.on_doubleword later (pairs_head Apart (span pool (extent_of x)) spans apart),
        ready xs later each (λ k row below i y under. All-tail (Apart _) (span pool (extent_of x)) spans (far k row below i y under))
            (pairs_tail Apart (span pool (extent_of x)) spans apart),
      )
