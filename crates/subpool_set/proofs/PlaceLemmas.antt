-- Places of walks over a set: that they stay.
use Rattle.std.proofs.Common.{List, drop, ap}
use Rattle.std.specs.Prelude.{option_map}
use Rattle.vsm_elements.proofs.OwnerLemmas.{others_stay}
use Rattle.row_table.specs.declared.row.Row.{Row}
use Rattle.row_table.specs.RowTable.{place_index}
use Rattle.row_table.proofs.TableLemmas.{tables_kept, places_kept as rows_places_kept}
use Rattle.subpool_set.specs.Kept.{owner_in}
use Rattle.subpool_set.specs.Walks.{pool_ids, sharers_behind}
use Rattle.subpool_set.specs.SubpoolSet.{sight, owned, IsSubpoolSet, IsSubpoolPlace, pools_left, sharers_left}
use Rattle.subpool_set.specs.Laws.{PlacesKept, PlacesStay}
use Rattle.subpool_set.proofs.LawLemmas.{sets_stand}

pub places_kept : PlacesKept
unfolding sight owned IsSubpoolSet IsSubpoolPlace pools_left sharers_left
places_kept s t q kept same =
    let rest = tables_kept s t q.rows kept.table same in (
      (λ place h. (rows_places_kept s t q.rows place.next kept.table same h, ap (λ (rs : List Row). pool_ids (drop (place_index place.next) rs)) rest.3)),
      (λ place number owner. λ i. sharers_behind (λ a b. option_map owner_in (rest.1 a b i)) number owner place.behind),
    )

pub places_stay : PlacesStay
places_stay s t had has q f h apart = places_kept s t q h (others_stay s t had has (owned s q) f (sets_stand s q h).0 apart).2
