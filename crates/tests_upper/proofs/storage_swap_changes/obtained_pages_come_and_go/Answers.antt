use Rattle.std.proofs.Math.Dec.{lit≤}
use Rattle.storage_swap.proofs.BackLemmas.{swaps-lead-back}
use Rattle.tests_upper.proofs.ObtainLemmas.{test-unassigned, test-fits}
use Rattle.tests_upper.proofs.storage_swap_changes.obtained_pages_come_and_go.Goals as goal

pub reserve-requires-clause-unassigned : goal.reserve-requires-clause-unassigned
reserve-requires-clause-unassigned g c = test-unassigned _ (lit≤ tt) c.in_ok-storage.storage c.in_ok-storage.ensures

pub swap-requires-clause-fits : goal.swap-requires-clause-fits
swap-requires-clause-fits g c = test-fits _ (lit≤ tt) c.in_ok-storage.storage c.reserve.new.storage c.in_ok-change.change c.in_ok-storage.ensures c.in_ok-change.ensures.ok

pub swap-requires-2-clause-fits : goal.swap-requires-2-clause-fits
swap-requires-2-clause-fits g c =
    let fits = test-fits _ (lit≤ tt) c.in_ok-storage.storage c.reserve.new.storage c.in_ok-change.change c.in_ok-storage.ensures c.in_ok-change.ensures.ok in
    (swaps-lead-back c.reserve.new.storage c.in_ok-change.change c.swap.new.storage c.swap.new.self fits c.swap.ensures).0

pub swap-requires-3-clause-fits : goal.swap-requires-3-clause-fits
swap-requires-3-clause-fits g c =
    let fits = test-fits _ (lit≤ tt) c.in_ok-storage.storage c.reserve.new.storage c.in_ok-change.change c.in_ok-storage.ensures c.in_ok-change.ensures.ok in
    let back = (swaps-lead-back c.reserve.new.storage c.in_ok-change.change c.swap.new.storage c.swap.new.self fits c.swap.ensures).0 in
    (swaps-lead-back c.swap.new.storage c.swap.new.self c.swap-2.new.storage c.swap-2.new.self back c.swap-2.ensures).0

pub swap-requires-4-clause-fits : goal.swap-requires-4-clause-fits
swap-requires-4-clause-fits g c =
    let fits = test-fits _ (lit≤ tt) c.in_ok-storage.storage c.reserve.new.storage c.in_ok-change.change c.in_ok-storage.ensures c.in_ok-change.ensures.ok in
    let back = (swaps-lead-back c.reserve.new.storage c.in_ok-change.change c.swap.new.storage c.swap.new.self fits c.swap.ensures).0 in
    let forward = (swaps-lead-back c.swap.new.storage c.swap.new.self c.swap-2.new.storage c.swap-2.new.self back c.swap-2.ensures).0 in
    (swaps-lead-back c.swap-2.new.storage c.swap-2.new.self c.swap-3.new.storage c.swap-3.new.self forward c.swap-3.ensures).0
