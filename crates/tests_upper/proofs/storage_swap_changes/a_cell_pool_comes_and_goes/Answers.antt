use Rattle.storage_swap.proofs.BackLemmas.{swaps-lead-back}
use Rattle.tests_upper.proofs.ComeLemmas.{coming-fits}
use Rattle.tests_upper.proofs.storage_swap_changes.a_cell_pool_comes_and_goes.Goals as goal

pub swap-requires-clause-fits : goal.swap-requires-clause-fits
swap-requires-clause-fits g c = coming-fits _ c.in_ok-storage.storage c.reserve_building.new.storage c.in_ok-change.change _ c.in_ok-storage.ensures c.in_ok-change.ensures.ok

pub swap-requires-2-clause-fits : goal.swap-requires-2-clause-fits
swap-requires-2-clause-fits g c =
    let fits = coming-fits _ c.in_ok-storage.storage c.reserve_building.new.storage c.in_ok-change.change _ c.in_ok-storage.ensures c.in_ok-change.ensures.ok in
    (swaps-lead-back c.reserve_building.new.storage c.in_ok-change.change c.swap.new.storage c.swap.new.self fits c.swap.ensures).0
