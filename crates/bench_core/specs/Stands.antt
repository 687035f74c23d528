-- What a bench represents: the past states, the present one and the later ones.
use Rattle.std.specs.Prelude.{◌≡◌, true, false, List, map, reverse, Result, Ok, Err}
use Rattle.vsm_model.specs.declared.limits.Settings.{Settings}
use Rattle.vsm_model.specs.declared.replies.Reply.{Reply}
use Rattle.vsm_model.specs.Regions.{settings_valid}
use Rattle.vsm_model.specs.Names.{NamedState, first_named_state}
use Rattle.vsm_model.specs.Standing as plain
use Rattle.storage_swap.specs.Fresh.{StartsSmall}
use Rattle.vsm_machine.specs.Meaning.{settings_of}
use Rattle.step_history.specs.Trail.{Trail, trail_of}
use Rattle.step_history.specs.declared.too_far.TooFar.{TooFar}
use Rattle.step_history.specs.declared.too_far.TooFarAhead.{TooFarAhead}
use Rattle.vsm_machine.specs.Changes.{named_of, shown, machine_states}
use Rattle.vsm_machine.specs.declared.machine.Machine.{Machine}
use Rattle.vsm_machine.specs.declared.machine.MachineChange.{MachineChange}
use Rattle.vsm_machine.specs.Machine.{Why, unknown_name, abended}
use Rattle.bench_core.specs.declared.bench.Bench.{Bench}
use Rattle.vsm_machine.specs.declared.refusals.Refusal.{Refusal}
use Rattle.vsm_machine.specs.declared.refusals.Refusal.TheVariants.{Name, Abend, NoMemory}
use Rattle.vsm_machine.specs.declared.refusals.NewFault.{NewFault}
use Rattle.vsm_machine.specs.declared.refusals.NewFault.TheVariants.{Setting}
use Rattle.vsm_machine.specs.declared.refusals.NewFault.TheVariants as new_fault

-- the same states, with the newest past one first
abbrev pub bench_in : {M : Type 0} → Trail M → plain.Bench M
bench_in t = record { past = reverse t.past; present = t.present; later = t.later }

-- each state as something else
abbrev pub bench_as : {M N : Type 0} → (M → N) → plain.Bench M → plain.Bench N
bench_as f b = record { past = map f b.past; present = f b.present; later = map f b.later }

abbrev pub bench_at : List MachineChange → Machine → List MachineChange → plain.Bench NamedState
bench_at kept machine undone = bench_as named_of (bench_in (trail_of shown machine_states kept machine undone))

abbrev pub bench_of : Bench → plain.Bench NamedState
bench_of b = bench_at b.history.kept b.machine b.history.undone

abbrev pub settings_in : Bench → Settings
settings_in b = settings_of b.machine.storage

abbrev pub answer_to_apply : Result Reply Refusal → plain.Answer Reply Why
answer_to_apply (Ok reply) = plain.Replied reply
answer_to_apply (Err Name) = plain.RefusedFor unknown_name
answer_to_apply (Err (Abend code)) = plain.RefusedFor (abended code)
answer_to_apply (Err NoMemory) = plain.NoMemory

abbrev pub answer_to_back : Result (Unit {0}) TooFar → plain.Answer Reply Why
answer_to_back (Ok u) = plain.Moved
answer_to_back (Err e) = plain.TooFar e.kept

abbrev pub answer_to_forward : Result (Unit {0}) TooFarAhead → plain.Answer Reply Why
answer_to_forward (Ok u) = plain.Moved
answer_to_forward (Err e) = plain.TooFar e.undone

-- A new bench is in the first state, under the settings, and at most a block of elements was made for it, and no frame;
-- or one of the settings is out of its limits; or there was no memory.
abbrev pub IsNew : Settings → Result Bench NewFault → Type 0
IsNew settings (Ok b) =
    (settings_valid settings ≡ true) × (bench_of b ≡ plain.new_bench first_named_state) × (settings_in b ≡ settings)
    × StartsSmall b.machine.storage.parts
IsNew settings (Err Setting) = settings_valid settings ≡ false
IsNew settings (Err new_fault.NoMemory) = settings_valid settings ≡ true
