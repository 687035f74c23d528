use Rattle.storage_core.proofs.Staying.{discard_stays}
use Rattle.vsm_machine.proofs.plans.reserve.Goals as goal
use Rattle.std.proofs.Common.{rules}
use Rattle.storage_core.proofs.Making.{makes_still, none_discarded}

pub returns-in-Err-make_ready-clause-stays : goal.returns-in-Err-make_ready-clause-stays
returns-in-Err-make_ready-clause-stays c =
    discard_stays c.args.machine.now.storage.parts c.reserve.new.self.parts c.discard.new.self.parts _ c.in-Ok.storage c.in-Ok.ensures.ok.2 c.discard.ensures.discards

pub returns-in-Err-clause-same : goal.returns-in-Err-clause-same
returns-in-Err-clause-same c = search rules

pub returns-in-Err-clause-made : goal.returns-in-Err-clause-made
returns-in-Err-clause-made c = record { elements = c.in-Err.ensures.made; pages = c.in-Err.ensures.made_for_pages }

pub returns-in-Ok-make_ready-clause-made : goal.returns-in-Ok-make_ready-clause-made
returns-in-Ok-make_ready-clause-made c = record { elements = c.in-Ok.ensures.made; pages = c.in-Ok.ensures.made_for_pages }

pub returns-in-Err-make_ready-clause-made : goal.returns-in-Err-make_ready-clause-made
returns-in-Err-make_ready-clause-made c =
    makes_still c.args.machine.now.storage.parts c.reserve.new.self.parts c.discard.new.self.parts _ _ (record { elements = c.in-Ok.ensures.made; pages = c.in-Ok.ensures.made_for_pages })
    (none_discarded c.reserve.new.self.parts c.discard.new.self.parts c.in-Ok.storage c.discard.ensures.discards)
