-- An area and a register, and back.
use Rattle.std.proofs.Common.{◌≡◌, not, ap, ◌∙◌}
use Rattle.storage_changes.specs.declared.record.ObtainRecord.{ObtainRecord}
use Rattle.storage_changes.specs.Walk.{Walk, flip}
use Rattle.storage_changes.specs.Steps.{area_step, obtain_step}
use Rattle.storage_changes.specs.Turned.{turned_obtain}
use Rattle.storage_changes.specs.Fits.{ObtainFits}
use Rattle.storage_changes.proofs.Cases.{not-not}
use Rattle.storage_changes.proofs.SetSteps.{area-back, area-fits}
use Rattle.storage_changes.proofs.ByteSteps.{register-back, register-again}

module _ (w : Walk) (r : ObtainRecord) where
  abbrev taken : Walk
  taken = area_step w r.area

  -- the register first, and then the area, which it has no part in
  pub obtain-back : ObtainFits w r → obtain_step (flip (obtain_step w r)) (turned_obtain w.state r) ≡ flip w
  obtain-back h = ap (λ (v : Walk). area_step v (record r.area { free = not r.area.free })) (register-back taken r.register) ∙ area-back w r.area h.0

  pub obtain-fits : ObtainFits w r → ObtainFits (flip (obtain_step w r)) (turned_obtain w.state r)
  obtain-fits h =
      let area = area-fits w r.area h.0 in (
        record { there = area.there; some = area.some; high = area.high; other = area.other; room = area.room; room_after = area.room_after },
        record { task = h.1.task; register = h.1.register },
      )

  pub obtain-again : turned_obtain (obtain_step w r).state (turned_obtain w.state r) ≡ r
  obtain-again = λ i. record {
    area = record r.area { free = not-not r.area.free i };
    register = record r.register { word = register-again taken r.register i };
  }
