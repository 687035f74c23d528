-- An accepted service on tasks leaves a well-formed state well-formed.
use Rattle.std.proofs.Common.{not, [], ◌∷◌, subst, arith, sym}
use Rattle.std.proofs.lemmas.Bool.{not-false}
use Rattle.vsm_model.specs.declared.causes.Cause.TheVariants.{NoTask}
use Rattle.vsm_model.specs.State.{is_task}
use Rattle.vsm_model.specs.Tasks.{detached}
use Rattle.vsm_model.specs.WellFormed.{IsWellFormed}
use Rattle.vsm_model.proofs.Chosen.{past}
use Rattle.vsm_model.proofs.Registered.{registers_leave_well_formed}
use Rattle.service_laws.specs.WellFormedStays.{DetachLeavesWellFormed, EndTaskLeavesWellFormed, RunLeavesWellFormed}
use Rattle.service_laws.specs.Turns.{RunTurnsToTheTask}
use Rattle.service_laws.proofs.Accepted.{run_accepted, detach_accepted, end_task_accepted}
use Rattle.service_laws.proofs.Ends.{detached_is_well_formed, ended_is_well_formed}
use Rattle.service_laws.proofs.Turned.{turned_is_well_formed}

pub detach_leaves_well_formed : DetachLeavesWellFormed
detach_leaves_well_formed settings names_full s t task reply w e =
    let (none, is, replied) = detach_accepted settings names_full s t reply task e in
    subst (IsWellFormed settings) is
    (registers_leave_well_formed settings ((15, 0) ∷ []) (detached s task).0 (omega arith, omega arith, tt) (detached_is_well_formed settings s task w none))

pub end_task_leaves_well_formed : EndTaskLeavesWellFormed
end_task_leaves_well_formed settings names_full s t reply w e =
    let (none, is, replied) = end_task_accepted settings names_full s t reply e in
    subst (IsWellFormed settings) is (ended_is_well_formed settings s w none)

pub run_leaves_well_formed : RunLeavesWellFormed
run_leaves_well_formed settings names_full s t task reply w e =
    let (none, is, replied) = run_accepted settings names_full s t reply task e in
    subst (IsWellFormed settings) is (turned_is_well_formed settings s task (not-false (is_task s task) (past (not (is_task s task)) NoTask [] none).0) w)

pub run_turns_to_the_task : RunTurnsToTheTask
run_turns_to_the_task settings names_full s t task reply e =
    let (none, is, replied) = run_accepted settings names_full s t reply task e in
    (record { was_task = not-false (is_task s task) (past (not (is_task s task)) NoTask [] none).0; current_alone = sym is }, sym replied)
