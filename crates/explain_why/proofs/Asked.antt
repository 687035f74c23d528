-- The obstacle of a statement, by the first cause that is found; and that an area has no room.
use Rattle.std.proofs.Common.{◌≡◌, Bool, true, false, ◌&&◌, if◌then◌else◌, Option, Some, None, Ok, ◌⊎◌, inl, inr, refl, sym, ap, subst, ◌∙◌}
use Rattle.bench_core.specs.Causes.{IsFirstCause}
use Rattle.macro_statements.specs.Requests.{Act}
use Rattle.vsm_machine.specs.Causes.{is_conditional_get}
use Rattle.vsm_machine.specs.Machine.{name_asked, service_asked}
use Rattle.vsm_model.specs.Causes.{answers_four, first_cause}
use Rattle.vsm_model.specs.Names.{NamedState, is_one_too_many}
use Rattle.vsm_model.specs.Search.{holds}
use Rattle.vsm_model.specs.Services.{Service, obtain, release, whole, attach, detach, end_task, run, store, build, get, free, delete, is_conditional}
use Rattle.vsm_model.specs.Standing as outcome
use Rattle.vsm_model.specs.Standing.{Refused}
use Rattle.vsm_model.specs.State.{State}
use Rattle.vsm_model.specs.Step.{answered, causes, replied, step}
use Rattle.vsm_model.specs.declared.causes.Cause.{Cause}
use Rattle.vsm_model.specs.declared.limits.Settings.{Settings}
use Rattle.vsm_model.specs.declared.replies.Reply.TheVariants.{Returned}
use Rattle.vsm_model.specs.declared.services.Obtain.{Obtain}
use Rattle.vsm_model.proofs.Chosen.{refused_for_the_first}
use Rattle.explain_why.specs.Obstacles.{is_no_storage, lacks_room, obstacle_asked, obstacle_by, obstacle_served}

-- No cause is found: there is none, or a GET has no obstacle.
none_by : (settings : Settings) (s : State) (x : Service) (o : Option Cause) → (is_conditional_get x ≡ false → o ≡ None) → None ≡ obstacle_by settings s x o
none_by settings s (get name g) None h = refl
none_by settings s (get name g) (Some cause) h = refl
none_by settings s (obtain o) k h = sym (ap (obstacle_by settings s (obtain o)) (h refl))
none_by settings s (release r) k h = sym (ap (obstacle_by settings s (release r)) (h refl))
none_by settings s (whole number) k h = sym (ap (obstacle_by settings s (whole number)) (h refl))
none_by settings s (attach a) k h = sym (ap (obstacle_by settings s (attach a)) (h refl))
none_by settings s (detach task) k h = sym (ap (obstacle_by settings s (detach task)) (h refl))
none_by settings s end_task k h = sym (ap (obstacle_by settings s end_task) (h refl))
none_by settings s (run task) k h = sym (ap (obstacle_by settings s (run task)) (h refl))
none_by settings s (store address bytes) k h = sym (ap (obstacle_by settings s (store address bytes)) (h refl))
none_by settings s (build name header b) k h = sym (ap (obstacle_by settings s (build name header b)) (h refl))
none_by settings s (free name cell) k h = sym (ap (obstacle_by settings s (free name cell)) (h refl))
none_by settings s (delete name) k h = sym (ap (obstacle_by settings s (delete name)) (h refl))

module _ (settings : Settings) (m : NamedState) (x : Act) where
  abbrev first_of : Service → Option Cause
  first_of service = first_cause (causes settings (is_one_too_many m.names (name_asked x)) m.storage service)

  served_is : (its : Service) → service_asked m x ≡ Some its → obstacle_by settings m.storage its (first_of its) ≡ obstacle_asked settings m x
  served_is its is = sym (ap (obstacle_served settings m x) is)

  none_asked : IsFirstCause settings m x (Ok None) → None ≡ obstacle_asked settings m x
  none_asked (its, is, none) = none_by settings m.storage its (first_of its) (λ plain. none (inr plain)) ∙ served_is its is

  same_service : (its found : Service) → service_asked m x ≡ Some its → service_asked m x ≡ Some found → found ≡ its
  same_service its found e f = (let g : ◌≡◌ {A = Option Service} (Some found) (Some its) = sym f ∙ e in cc)

  some_asked : (its : Service) (cause : Cause) → service_asked m x ≡ Some its → IsFirstCause settings m x (Ok (Some cause)) →
      obstacle_by settings m.storage its (Some cause) ≡ obstacle_asked settings m x
  some_asked its cause is (found, found_is, holds) =
      let same = same_service its found is found_is in
      let first : first_of its ≡ Some cause = subst (λ y. first_of y ≡ Some cause) same (holds (inl refl)) in
      sym (ap (obstacle_by settings m.storage its) first) ∙ served_is its is

  pub cause_asked : (its : Service) (found : Option Cause) → service_asked m x ≡ Some its → IsFirstCause settings m x (Ok found) →
      obstacle_by settings m.storage its found ≡ obstacle_asked settings m x
  cause_asked its None is h = none_asked h
  cause_asked its (Some cause) is h = some_asked its cause is h

  pub unknown_asked : service_asked m x ≡ None → None ≡ obstacle_asked settings m x
  unknown_asked none = sym (ap (obstacle_served settings m x) none)

-- ---- an area that has no room, by the same obtain in another form

none_holds : (settings : Settings) (s : State) (x : Service) (cause : Option Cause) → is_conditional x ≡ false →
    outcome.IsAccepted (answered settings s x cause) → cause ≡ None
none_holds settings s x None plain h = refl
none_holds settings s x (Some cause) plain h =
    absurd (subst (λ b. outcome.IsAccepted (if b && answers_four cause then replied x (s, Returned 4) else Refused cause)) plain h)

abbrev plain : Obtain → Obtain
plain o = record o { register = None; conditional = false }

pub has_room : (settings : Settings) (s : State) (o : Obtain) → outcome.IsAccepted (step settings false s (obtain (plain o))) → false ≡ lacks_room settings s o
has_room settings s o h =
    let none : first_cause (causes settings false s (obtain o)) ≡ None =
    none_holds settings s (obtain (plain o)) (first_cause (causes settings false s (obtain (plain o)))) refl h in
    sym (ap (holds is_no_storage) none)

pub room_refused : (settings : Settings) (s : State) (o : Obtain) (cause : Cause) → step settings false s (obtain (plain o)) ≡ Refused cause →
    is_no_storage cause ≡ lacks_room settings s o
room_refused settings s o cause h =
    let some : first_cause (causes settings false s (obtain o)) ≡ Some cause = refused_for_the_first settings false s (obtain (plain o)) cause h in
    sym (ap (holds is_no_storage) some)
