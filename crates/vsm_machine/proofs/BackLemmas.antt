-- A change that was exchanged with a machine can be exchanged back.
use Rattle.std.proofs.Common.{sym, subst}
use Rattle.storage_swap.specs.Swap as swap
use Rattle.step_history.specs.Single.{steps_twice}
use Rattle.vsm_machine.specs.declared.machine.Machine.{Machine}
use Rattle.vsm_machine.specs.declared.machine.MachineChange.{MachineChange}
use Rattle.vsm_machine.specs.Changes.{MachineState, Difference, shown, means, fit, overlay, inverse, Apart}
use Rattle.vsm_machine.specs.Changes.{CanSwap, Swaps, machine_steps}
use Rattle.vsm_machine.specs.Laws.{SwapsLeadBack}

-- a change that can be exchanged fits the state,
can-fits : (m : Machine) (c : MachineChange) → CanSwap m c → fit (shown m) (means m c)
can-fits m c h = (h.fits, h.can.0, h.can.1)

-- and one that fits it, and is ready for the storage, can be exchanged
fits-can : (m : Machine) (c : MachineChange) → swap.Ready m.storage.parts c.storage → fit (shown m) (means m c) → CanSwap m c
fits-can m c r f = record { ready = r; fits = f.0; can = (f.1, f.2) }

-- what was exchanged fits the state that it left
back-fits : (m n : Machine) (c d : MachineChange) → fit (shown m) (means m c) → Swaps m c n d → fit (shown n) (means n d)
back-fits m n c d f w =
    let P : MachineState → Type 0 = λ s. fit s (inverse (shown m) (means m c)) in
    let Q : Difference → Type 0 = λ x. fit (shown n) x in
    subst Q (sym (machine_steps.swap_means m n c d w))
    (subst P (sym (machine_steps.swap_shows m n c d w)) (machine_steps.inverts.fits_back (shown m) (means m c) f))

pub swaps-lead-back : SwapsLeadBack
swaps-lead-back m c n d h w =
    let f = can-fits m c h in (
      fits-can n d w.storage.after (back-fits m n c d f w),
      (λ u e v. steps_twice fit overlay shown means Apart machine_steps m n u c d e f w v),
    )
