use Rattle.std.proofs.Common.{◌≡◌, length}
use Rattle.std.specs.List.{list_any}
use Rattle.subpool_storage.specs.Order.{subpools_in_order}
use Rattle.storage_core.proofs.Owners.{has}
use Rattle.storage_core.specs.Meaning.{state_in_place}
use Rattle.storage_core.specs.Walks.{IsSubpoolPlace, subpools_left}
use Rattle.storage_core.proofs.storage.Storage.subpool_of_page.Given as goal

abbrev pub invariant-loop-subpool : goal.invariant-loop-subpool
invariant-loop-subpool l = record {
  place : IsSubpoolPlace l.self l.place;
  rest : list_any (has l.self l.page) (subpools_in_order (state_in_place l.self).subpools) ≡ list_any (has l.self l.page) (subpools_left l.self l.place);
}

abbrev pub decreases-loop-subpool : goal.decreases-loop-subpool
decreases-loop-subpool l = length (subpools_left l.self l.place)
