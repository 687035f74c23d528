use Rattle.std.proofs.Common.{false, sym, subst}
use Rattle.vsm_model.specs.declared.limits.Settings.{Settings}
use Rattle.vsm_model.specs.Meaning.{service_in}
use Rattle.storage_swap.specs.Swap.{means}
use Rattle.storage_core.specs.Meaning.{state_in_place, settings_of}
use Rattle.tests_upper.proofs.Exchanged.{LeadsSound, reserved_can, reserved_sound}
use Rattle.tests_upper.proofs.carrying.change_for.Goals as goal

pub reserve-requires : goal.reserve-requires
reserve-requires c = c.in_ok-plan.ensures.can

pub returns-clause-can : goal.returns-clause-can
returns-clause-can c =
    let s = c.args.storage.now in
    reserved_can (settings_of s) false s.parts c.reserve.new.self.parts (service_in c.args.service) c.in_ok-plan.plan
    c.in_ok-plan.ensures c.in_ok-change.change c.in_ok-change.ensures.ok

pub returns-clause-sound : goal.returns-clause-sound
returns-clause-sound c =
    let s = c.args.storage.now in
    let t = c.reserve.new.self in
    let P : Settings → Type 0 = λ settings.
    LeadsSound settings (state_in_place t) (means t.parts.elements c.in_ok-change.change) in
    subst P (sym c.reserve.ensures.settings)
    (reserved_sound (settings_of s) false s.parts t.parts (service_in c.args.service) c.in_ok-plan.plan
    c.in_ok-plan.ensures c.in_ok-change.change c.in_ok-change.ensures.ok)
