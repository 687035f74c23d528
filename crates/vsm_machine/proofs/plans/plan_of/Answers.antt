use Rattle.std.proofs.Common.{Bool, Ok, Err, ap, ◌∙◌, subst}
use Rattle.vsm_model.specs.Codes.{code_of, suffix}
use Rattle.vsm_model.specs.Meaning.{service_in}
use Rattle.vsm_model.specs.Names.{is_one_too_many}
use Rattle.macro_statements.specs.Requests.{act_in}
use Rattle.storage_core.specs.Meaning.{state_in_place, settings_of}
use Rattle.storage_core.proofs.Soundness.{is_sound}
use Rattle.storage_core.specs.Planned.{IsPlanned}
use Rattle.vsm_machine.specs.declared.refusals.Refusal.TheVariants.{Abend}
use Rattle.vsm_machine.specs.Changes.{shown}
use Rattle.vsm_machine.specs.Machine.{family_asked, name_asked}
use Rattle.vsm_machine.specs.Planned.{step_for}
use Rattle.vsm_machine.proofs.Planning.{carried_by, refused_by}
use Rattle.vsm_machine.proofs.plans.plan_of.Goals as goal

pub returns-in-Ok : goal.returns-in-Ok
returns-in-Ok c =
    let s = c.args.machine.now.storage in
    let m = shown c.args.machine.now in
    let service = service_in c.in-Some.service in
    carried_by m (act_in c.args.statement.now) service c.in-Some.ensures.is
    (record { plan = c.in-Ok.plan; name = c.name_plan-name.result })
    (subst (λ (full : Bool). IsPlanned (settings_of s) full (state_in_place s) service (Ok c.in-Ok.plan))
    (c.is_one_too_many-full.ensures ∙ ap (is_one_too_many m.names) c.name_of-name.ensures) c.in-Ok.ensures)
    (is_sound s)
    (c.name_plan-name.ensures ∙ ap (λ n. step_for m.names n c.reply.result) c.name_of-name.ensures ∙ ap (step_for m.names (name_asked (act_in c.args.statement.now))) c.reply.ensures)

pub returns-in-Err : goal.returns-in-Err
returns-in-Err c =
    let s = c.args.machine.now.storage in
    let m = shown c.args.machine.now in
    let service = service_in c.in-Some.service in
    refused_by m (act_in c.args.statement.now) service c.in-Some.ensures.is c.in-Err.cause
    (Abend c.code-code.result)
    (subst (λ (full : Bool). IsPlanned (settings_of s) full (state_in_place s) service (Err c.in-Err.cause))
    (c.is_one_too_many-full.ensures ∙ ap (is_one_too_many m.names) c.name_of-name.ensures) c.in-Err.ensures)
    (ap Abend (c.code-code.ensures ∙ ap (λ f. code_of (suffix f c.is_obtain.result) c.in-Err.cause) c.family_of.ensures
    ∙ ap (λ b. code_of (suffix (family_asked (act_in c.args.statement.now)) b) c.in-Err.cause) c.is_obtain.ensures))
