-- Each service leaves a well-formed state well-formed, and a statement whose name is one too many gives no address.
use Rattle.std.proofs.Common.{◌≡◌, ℕ, Bool, true, false, ◌||◌, not, nat_lt, ◌==◌, Option, Some, None, List, [], ◌∷◌, sym, ◌∙◌, inl, inr, true≢false}
use Rattle.vsm_model.specs.declared.causes.Cause.TheVariants.{BadLength, TooManyNames, NoCellPool}
use Rattle.vsm_model.specs.declared.limits.Settings.{Settings}
use Rattle.vsm_model.specs.declared.replies.Reply.{Reply}
use Rattle.vsm_model.specs.declared.replies.Reply.TheVariants.{Obtained, Returned, Cell, Attached, Turn, Stored}
use Rattle.vsm_model.specs.State.{State}
use Rattle.vsm_model.specs.Services.{Service, obtain, release, whole, attach, detach, end_task, run, store, build, get, free, delete}
use Rattle.vsm_model.specs.Standing.{Accepted}
use Rattle.vsm_model.specs.Step.{step}
use Rattle.vsm_model.specs.WellFormed.{IsWellFormed}
use Rattle.service_laws.proofs.Kept.{obtain_leaves_well_formed, release_leaves_well_formed, whole_release_leaves_well_formed, store_leaves_well_formed}
use Rattle.service_laws.proofs.TaskStays.{detach_leaves_well_formed, end_task_leaves_well_formed, run_leaves_well_formed}
use Rattle.service_laws.proofs.Attaches.{attach_leaves_well_formed}
use Rattle.service_laws.proofs.Building.{build_leaves_well_formed}
use Rattle.service_laws.proofs.Deleting.{delete_leaves_well_formed}
use Rattle.service_laws.proofs.Getting.{get_leaves_well_formed, free_leaves_well_formed}
use Rattle.service_laws.specs.Reached.{ServiceLeavesWellFormed}

pub service_leaves_well_formed : ServiceLeavesWellFormed
service_leaves_well_formed settings full s t (obtain o) r valid has w e = obtain_leaves_well_formed settings full s t o r valid has w e
service_leaves_well_formed settings full s t (release x) r valid has w e = release_leaves_well_formed settings full s t x r w e
service_leaves_well_formed settings full s t (whole number) r valid has w e = whole_release_leaves_well_formed settings full s t number r w e
service_leaves_well_formed settings full s t (attach a) r valid has w e = attach_leaves_well_formed settings full s t a r w e
service_leaves_well_formed settings full s t (detach task) r valid has w e = detach_leaves_well_formed settings full s t task r w e
service_leaves_well_formed settings full s t end_task r valid has w e = end_task_leaves_well_formed settings full s t r w e
service_leaves_well_formed settings full s t (run task) r valid has w e = run_leaves_well_formed settings full s t task r w e
service_leaves_well_formed settings full s t (store address bytes) r valid has w e = store_leaves_well_formed settings full s t address bytes r has w e
service_leaves_well_formed settings full s t (build name header b) r valid has w e = build_leaves_well_formed settings full s t name header b r w e
service_leaves_well_formed settings full s t (get name g) r valid has w e = get_leaves_well_formed settings full s t name g r valid has w e
service_leaves_well_formed settings full s t (free name cell) r valid has w e = free_leaves_well_formed settings full s t name cell r w e
service_leaves_well_formed settings full s t (delete name) r valid has w e = delete_leaves_well_formed settings full s t name r w e
