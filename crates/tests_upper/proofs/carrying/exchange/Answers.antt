use Rattle.std.proofs.Common.{sym, subst}
use Rattle.vsm_model.specs.declared.limits.Settings.{Settings}
use Rattle.storage_swap.specs.Swap.{means}
use Rattle.storage_core.specs.Meaning.{state_in_place, settings_of}
use Rattle.tests_upper.proofs.Exchanged.{LeadsSound, swapped_can, swapped_sound}
use Rattle.storage_core.proofs.Soundness.{is_sound}
use Rattle.tests_upper.proofs.carrying.exchange.Goals as goal

pub returns-clause-can : goal.returns-clause-can
returns-clause-can c =
    let s = c.args.storage.now in
    swapped_can (settings_of s) s.parts c.swap.new.self.parts c.args.change.now c.swap.new.change c.swap.ensures.swaps
    c.requires.can

pub returns-clause-sound : goal.returns-clause-sound
returns-clause-sound c =
    let s = c.args.storage.now in
    let t = c.swap.new.self in
    let P : Settings → Type 0 = λ settings.
    LeadsSound settings (state_in_place t) (means t.parts.elements c.swap.new.change) in
    subst P (sym c.swap.ensures.settings)
    (swapped_sound (settings_of s) s.parts t.parts c.args.change.now c.swap.new.change c.swap.ensures.swaps c.requires.can
    (is_sound s))
