use Rattle.std.proofs.Common.{◌≡◌, Bool, ◌∙◌, ap, subst, sym}
use Rattle.vsm_model.specs.Meaning.{service_in}
use Rattle.vsm_model.specs.Names.{is_one_too_many}
use Rattle.vsm_model.specs.Standing as outcome
use Rattle.vsm_model.specs.Standing.{Refused}
use Rattle.vsm_model.specs.Step.{step}
use Rattle.storage_core.specs.Meaning.{state_of, settings_of}
use Rattle.storage_core.specs.Planned.{CanBePlanned}
use Rattle.vsm_machine.specs.NameTable.{rows_of}
use Rattle.vsm_machine.specs.Causes.{unconditional}
use Rattle.vsm_machine.proofs.FirstCause.{cause_none, cause_some, still_planned}
use Rattle.vsm_machine.proofs.causes.cause_of.Goals as goal

pub plan-requires : goal.plan-requires
plan-requires c = subst CanBePlanned (sym c.unconditional.ensures) (still_planned (service_in c.in-Some.service) c.in-Some.ensures.bounds)

pub returns-in-Ok : goal.returns-in-Ok
returns-in-Ok c =
    let s = c.args.machine.now.storage in
    let x = service_in c.in-Some.service in (
      x,
      sym c.in-Some.ensures.is,
      cause_none (settings_of s) _ (state_of s) x
          (subst (λ (full : Bool). outcome.IsAccepted (step (settings_of s) full (state_of s) (unconditional x)))
          (c.is_one_too_many-full.ensures ∙ ap (is_one_too_many (rows_of c.args.machine.now.names)) c.name_of.ensures)
          (subst (λ y. outcome.IsAccepted (step (settings_of s) c.is_one_too_many-full.result (state_of s) y)) c.unconditional.ensures
          c.in-Ok.ensures.accepts)),
    )

pub returns-in-Err : goal.returns-in-Err
returns-in-Err c =
    let s = c.args.machine.now.storage in
    let x = service_in c.in-Some.service in (
      x,
      sym c.in-Some.ensures.is,
      λ any. cause_some (settings_of s) _ (state_of s) x c.in-Err.cause
          (subst (λ (full : Bool). step (settings_of s) full (state_of s) (unconditional x) ≡ Refused c.in-Err.cause)
          (c.is_one_too_many-full.ensures ∙ ap (is_one_too_many (rows_of c.args.machine.now.names)) c.name_of.ensures)
          (subst (λ y. step (settings_of s) c.is_one_too_many-full.result (state_of s) y ≡ Refused c.in-Err.cause) c.unconditional.ensures
          c.in-Err.ensures)),
    )
