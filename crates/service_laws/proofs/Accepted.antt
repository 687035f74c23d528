-- What an accepted service on tasks leaves, with the registers that its reply sets.
use Rattle.std.proofs.Common.{◌≡◌, ℕ, Bool, None, [], ◌∷◌, refl}
use Rattle.std.specs.Prelude.{unwrap_or}
use Rattle.vsm_model.specs.declared.limits.Settings.{Settings}
use Rattle.vsm_model.specs.declared.replies.Reply.{Reply}
use Rattle.vsm_model.specs.declared.replies.Reply.TheVariants.{Returned, Turn, Attached}
use Rattle.vsm_model.specs.declared.services.Attach.{Attach}
use Rattle.vsm_model.specs.State.{State}
use Rattle.vsm_model.specs.Services.{attach, detach, end_task, run}
use Rattle.vsm_model.specs.Standing.{Accepted}
use Rattle.vsm_model.specs.Causes.{first_cause}
use Rattle.vsm_model.specs.Registers.{with_registers}
use Rattle.vsm_model.specs.Tasks.{attach_causes, attached, detach_causes, detached, end_task_causes, ended, run_causes, free_number}
use Rattle.vsm_model.specs.Step.{step}
use Rattle.vsm_model.proofs.Chosen.{no_cause, accepted_state, accepted_reply}

module _ (settings : Settings) (names_full : Bool) (s t : State) (reply : Reply) where
  pub run_accepted : (task : ℕ) → step settings names_full s (run task) ≡ Accepted t reply →
      (first_cause (run_causes s task) ≡ None) × (record s { current = task } ≡ t) × (Turn task ≡ reply)
  run_accepted task e =
      let done = no_cause settings names_full s t (run task) reply refl e in
      (done.0, accepted_state (record s { current = task }) t (Turn task) reply done.1, accepted_reply (record s { current = task }) t (Turn task) reply done.1)

  pub detach_accepted : (task : ℕ) → step settings names_full s (detach task) ≡ Accepted t reply →
      (first_cause (detach_causes s task) ≡ None) × (with_registers (detached s task).0 ((15, 0) ∷ []) ≡ t) × (Returned 0 ≡ reply)
  detach_accepted task e =
      let done = no_cause settings names_full s t (detach task) reply refl e in
      let after : State = with_registers (detached s task).0 ((15, 0) ∷ []) in
      (done.0, accepted_state after t (Returned 0) reply done.1, accepted_reply after t (Returned 0) reply done.1)

  pub end_task_accepted : step settings names_full s end_task ≡ Accepted t reply →
      (first_cause (end_task_causes s) ≡ None) × ((ended s).0 ≡ t) × (Turn (unwrap_or (s.parents s.current) 0) ≡ reply)
  end_task_accepted e =
      let done = no_cause settings names_full s t end_task reply refl e in
      let turn : Reply = Turn (unwrap_or (s.parents s.current) 0) in
      (done.0, accepted_state (ended s).0 t turn reply done.1, accepted_reply (ended s).0 t turn reply done.1)

  pub attach_accepted : (a : Attach) → step settings names_full s (attach a) ≡ Accepted t reply →
      (first_cause (attach_causes s a) ≡ None)
      × (with_registers (attached s a).0 ((15, 0) ∷ (1, unwrap_or (free_number s) 0) ∷ []) ≡ t)
      × (Attached (unwrap_or (free_number s) 0) ≡ reply)
  attach_accepted a e =
      let done = no_cause settings names_full s t (attach a) reply refl e in
      let task : ℕ = unwrap_or (free_number s) 0 in
      let after : State = with_registers (attached s a).0 ((15, 0) ∷ (1, task) ∷ []) in
      (done.0, accepted_state after t (Attached task) reply done.1, accepted_reply after t (Attached task) reply done.1)
