use Rattle.std.proofs.Common.{sym, subst}
use Rattle.vsm_model.specs.Meaning.{service_in}
use Rattle.storage_core.specs.Meaning.{state_in_place, settings_of}
use Rattle.storage_core.specs.Planned.{IsPlanned}
use Rattle.storage_core.proofs.storage.Storage.plan.Goals as goal

pub returns-in-Obtain : goal.returns-in-Obtain
returns-in-Obtain c =
    let s = c.args.self.now in
    subst (λ x. IsPlanned (settings_of s) c.args.names_full (state_in_place s) (service_in x) c.plan_obtain.result) (sym c.in-Obtain.is) (c.plan_obtain.ensures)

pub returns-in-Release : goal.returns-in-Release
returns-in-Release c =
    let s = c.args.self.now in
    subst (λ x. IsPlanned (settings_of s) c.args.names_full (state_in_place s) (service_in x) c.plan_release.result) (sym c.in-Release.is) (c.plan_release.ensures c.args.names_full)

pub returns-in-Whole : goal.returns-in-Whole
returns-in-Whole c =
    let s = c.args.self.now in
    subst (λ x. IsPlanned (settings_of s) c.args.names_full (state_in_place s) (service_in x) c.plan_whole.result) (sym c.in-Whole.is) (c.plan_whole.ensures c.args.names_full)

pub returns-in-Store : goal.returns-in-Store
returns-in-Store c =
    let s = c.args.self.now in
    subst (λ x. IsPlanned (settings_of s) c.args.names_full (state_in_place s) (service_in x) c.plan_store.result) (sym c.in-Store.is) (c.plan_store.ensures c.args.names_full)

pub returns-in-Run : goal.returns-in-Run
returns-in-Run c =
    let s = c.args.self.now in
    subst (λ x. IsPlanned (settings_of s) c.args.names_full (state_in_place s) (service_in x) c.plan_run.result) (sym c.in-Run.is) (c.plan_run.ensures c.args.names_full)

pub returns-in-Build : goal.returns-in-Build
returns-in-Build c =
    let s = c.args.self.now in
    subst (λ x. IsPlanned (settings_of s) c.args.names_full (state_in_place s) (service_in x) c.plan_build.result) (sym c.in-Build.is) (c.plan_build.ensures c.args.names_full)

pub returns-in-Get : goal.returns-in-Get
returns-in-Get c =
    let s = c.args.self.now in
    subst (λ x. IsPlanned (settings_of s) c.args.names_full (state_in_place s) (service_in x) c.plan_get.result) (sym c.in-Get.is) (c.plan_get.ensures)

pub returns-in-Free : goal.returns-in-Free
returns-in-Free c =
    let s = c.args.self.now in
    subst (λ x. IsPlanned (settings_of s) c.args.names_full (state_in_place s) (service_in x) c.plan_free.result) (sym c.in-Free.is) (c.plan_free.ensures c.args.names_full)

pub returns-in-Attach : goal.returns-in-Attach
returns-in-Attach c =
    let s = c.args.self.now in
    subst (λ x. IsPlanned (settings_of s) c.args.names_full (state_in_place s) (service_in x) c.attach_planned.result)
    (sym c.in-Attach.is)
    (c.attach_planned.ensures (settings_of s) c.args.names_full (state_in_place s) _ (c.plan_attach.ensures s.settings c.args.names_full (record { stands = s.held.stands; sound = s.held.sound })))

pub returns-in-Detach : goal.returns-in-Detach
returns-in-Detach c =
    let s = c.args.self.now in
    subst (λ x. IsPlanned (settings_of s) c.args.names_full (state_in_place s) (service_in x) c.end_planned.result)
    (sym c.in-Detach.is)
    (c.end_planned.ensures (settings_of s) c.args.names_full (state_in_place s) _ (c.plan_detach.ensures s.settings c.args.names_full s.held.valid (record { stands = s.held.stands; sound = s.held.sound })))

pub returns-in-EndTask : goal.returns-in-EndTask
returns-in-EndTask c =
    let s = c.args.self.now in
    subst (λ x. IsPlanned (settings_of s) c.args.names_full (state_in_place s) (service_in x) c.end_planned-in-EndTask.result)
    (sym c.in-EndTask.is)
    (c.end_planned-in-EndTask.ensures (settings_of s) c.args.names_full (state_in_place s) _ (c.plan_end_task.ensures s.settings c.args.names_full s.held.valid (record { stands = s.held.stands; sound = s.held.sound })))

pub returns-in-Delete : goal.returns-in-Delete
returns-in-Delete c =
    let s = c.args.self.now in
    subst (λ x. IsPlanned (settings_of s) c.args.names_full (state_in_place s) (service_in x) c.delete_planned.result)
    (sym c.in-Delete.is)
    (c.delete_planned.ensures (settings_of s) c.args.names_full (state_in_place s) _ (c.plan_delete.ensures s.settings c.args.names_full s.held.valid (record { stands = s.held.stands; sound = s.held.sound })))
