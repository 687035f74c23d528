-- The address of a cell is a word.
use Rattle.std.proofs.Common.{◌≡◌, ℕ, ◌/◌, ◌%◌, ◌^◌, ◌<◌, ◌≤◌, true, false, ◌&&◌, ◌||◌, nat_le, ◌==◌, sym, arith, inl, inr, true≢false}
use Rattle.std.proofs.lemmas.Bool.{and_parts, or_cases, leb-true}
use Rattle.vsm_model.specs.declared.limits.Settings.{Settings}
use Rattle.vsm_model.specs.Search.{is_in}
use Rattle.vsm_model.specs.Regions.{within, among, low_region, high_region, in_a_region, settings_valid, size_valid}
use Rattle.vsm_model.specs.CellPools.{CellPool, cells_of, extent_doublewords}
use Rattle.vsm_model.specs.State.{State}
use Rattle.vsm_model.specs.WellFormed.{PagesAreSound, IsInSubpool, PoolIsSound}
use Rattle.service_laws.proofs.Spans.{among-in, in-among}
use Rattle.service_laws.proofs.CellLists.{cell_of, cell_within, cell_bounds}

most : (k size : ℕ) → size_valid k size ≡ true → size ≤ k
most k size e = leb-true size k (and_parts (nat_le 4 size) (nat_le size k) (and_parts (nat_le 4 size && nat_le size k) ((size % 4) == 0) e).0).1

-- a page of a region has addresses below 2 ^ 31
pub low_page : (settings : Settings) (page : ℕ) → settings_valid settings ≡ true → in_a_region settings page ≡ true → page < 425984
low_page settings page valid e =
    let sizes = (and_parts (size_valid 16360 settings.low_k && size_valid 1572864 settings.high_k) (nat_le 1 settings.history && nat_le settings.history 65536) valid).0 in
    let parts = and_parts (size_valid 16360 settings.low_k) (size_valid 1572864 settings.high_k) sizes in
    let low = most 16360 settings.low_k parts.0 in
    let high = most 1572864 settings.high_k parts.1 in
    elim (or_cases (within (high_region settings) page) (within (low_region settings) page || false) e) [
      | inl above ↦ let at = among-in 32768 (settings.high_k / 4) page above in let end = at.1 in omega (arith, high, end)
      | inr rest ↦ elim (or_cases (within (low_region settings) page) false rest) [
        | inl below ↦ let at = among-in 6 (settings.low_k / 4) page below in let end = at.1 in omega (arith, low, end)
        | inr never ↦ absurd (true≢false (sym never))
      ]
    ]

-- so the address of a cell is a word
pub cell_is_word : (settings : Settings) (s : State) (pool : CellPool) (cell : ℕ) → settings_valid settings ≡ true → PagesAreSound settings s →
    PoolIsSound s pool → is_in (cells_of pool) cell ≡ true → cell < 2 ^ 32
cell_is_word settings s pool cell valid w p e =
    let (x, its, here) = cell_of (IsInSubpool s pool) pool.size pool.extents cell p.in_subpool e in
    let bounds = cell_bounds pool.size pool.primary p.bounds.0 in
    let some = bounds.0 in
    let place = cell_within pool x cell here in
    let begin = place.0 in
    let end = place.1 in
    let on = its.on_doubleword in
    let own : among (x.address / 8) (extent_doublewords pool x.cells) (cell / 8) ≡ true =
    in-among (x.address / 8) (extent_doublewords pool x.cells) (cell / 8) (omega (arith, begin)) (omega (arith, end, some, on)) in
    let page = low_page settings (cell / 8 / 512) valid (w.in_region (cell / 8 / 512) pool.subpool (its.in_pages (cell / 8) own)) in
    omega (arith, page)
