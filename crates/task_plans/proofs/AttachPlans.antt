-- ATTACH, by what its operands name, and its plan on the plain machine.
use Rattle.std.proofs.Common.{◌≡◌, ℕ, Bool, false, not, if◌then◌else◌, ◌++◌, Option, Some, None, is_some, List, [], ◌∷◌, sym, ◌∙◌, ap, arith}
use Rattle.std.specs.Prelude.{unwrap_or, is_none, Ok}
use Rattle.std.specs.List.{list_any}
use Rattle.std.proofs.Math.Logic.{∥∥₁_map}
use Rattle.vsm_model.specs.declared.causes.Cause.{Cause}
use Rattle.vsm_model.specs.declared.causes.Cause.TheVariants.{NotAssigned, BadList, NotOwner, TooManyTasks}
use Rattle.vsm_model.specs.declared.limits.Settings.{Settings}
use Rattle.vsm_model.specs.declared.replies.Reply.TheVariants.{Attached}
use Rattle.vsm_model.specs.declared.services.Attach.{Attach}
use Rattle.vsm_model.specs.Causes.{Causes, first_cause}
use Rattle.vsm_model.specs.Passing.{numbers_in, is_bad_list, is_anothers}
use Rattle.vsm_model.specs.Registers.{with_registers}
use Rattle.vsm_model.specs.Services.{attach}
use Rattle.vsm_model.specs.Standing.{Accepted}
use Rattle.vsm_model.specs.State.{State, is_task}
use Rattle.vsm_model.specs.Step.{step, answered}
use Rattle.vsm_model.specs.Tasks.{attach_causes, free_number}
use Rattle.vsm_model.proofs.Chosen.{Stepped}
use Rattle.vsm_model.proofs.Least.{least_by}
use Rattle.service_laws.proofs.Attaches.{attach_leaves_well_formed}
use Rattle.task_tree.specs.Tasks.{IsLeastFree}
use Rattle.storage_changes.specs.NamedPools.{AreNamed}
use Rattle.storage_changes.specs.State.{StorageState}
use Rattle.storage_changes.specs.Meaning.{model_of, IsSound}
use Rattle.storage_changes.specs.Leads.{Leads}
use Rattle.storage_plans.proofs.Carried.{no_registers, register_and}
use Rattle.storage_changes.specs.Attaching.{with_attached, CanAttach}
use Rattle.storage_changes.specs.TaskLaws.{AttachingLeads}
use Rattle.task_plans.specs.declared.attach.AttachPlan.{AttachPlan}
use Rattle.task_plans.specs.TaskPlans.{numbers, attach_change, IsAccepted, IsAttachPlanned}

-- the least number that no task has is the plain machine's free number
pub free_is : (s : State) (task : ℕ) → IsLeastFree s.parents task → free_number s ≡ Some task
free_is s task h = sym (least_by (λ t. not (is_task s t)) 1 64 (Some task) (
  ap (λ (o : Option ℕ). not (is_some o)) h.free,
  h.low,
  omega (arith, h.high),
  λ t low below. ap not (h.least t low below),
))

module _ (s : State) (a : Attach) (given shared : List ℕ) (are_given : numbers_in s a.given ≡ Some given) (are_shared : numbers_in s a.shared ≡ Some shared) where
  -- the causes by what the operands name and by the free number
  abbrev causes_of : Option (List ℕ) → Option (List ℕ) → Option ℕ → Causes
  causes_of given shared free =
      (is_none given, NotAssigned) ∷ (is_none shared, NotAssigned) ∷ (is_bad_list (unwrap_or given [] ++ unwrap_or shared []), BadList)
      ∷ (list_any (is_anothers s) (unwrap_or given []), NotOwner) ∷ (is_none free, TooManyTasks) ∷ []

  -- the first of those after the lists
  abbrev chosen : Bool → Bool → Option ℕ → Option Cause
  chosen bad others free = if bad then Some BadList else if others then Some NotOwner else if is_none free then Some TooManyTasks else None

  no_cause : (task : ℕ) → is_bad_list (given ++ shared) ≡ false → list_any (is_anothers s) given ≡ false → free_number s ≡ Some task → first_cause (attach_causes s a) ≡ None
  no_cause task fine own free =
      let behind_lists : first_cause (attach_causes s a) ≡ chosen (is_bad_list (given ++ shared)) (list_any (is_anothers s) given) (free_number s) =
      λ i. first_cause (causes_of (are_given i) (are_shared i) (free_number s)) in
      behind_lists ∙ (λ i. chosen (fine i) (own i) (free i))

module _ (settings : Settings) (names_full : Bool) (m : StorageState) (a : Attach) (task : ℕ) (given shared : List ℕ)
    (are_given : numbers_in (model_of m) a.given ≡ Some given) (are_shared : numbers_in (model_of m) a.shared ≡ Some shared)
    (fine : is_bad_list (given ++ shared) ≡ false) (own : list_any (is_anothers (model_of m)) given ≡ false) (free : free_number (model_of m) ≡ Some task) where
  abbrev s : State
  s = model_of m

  abbrev gifts : List ℕ
  gifts = numbers m a.given

  abbrev shares : List ℕ
  shares = numbers m a.shared

  abbrev plan : AttachPlan
  plan = record { task = task; attach = a }

  -- the state with a task of this number
  abbrev after : ℕ → State
  after task = with_registers (with_attached s task a.shares_zero gifts shares) ((15, 0) ∷ (1, task) ∷ [])

  accepted : step settings names_full s (attach a) ≡ Accepted (after task) (Attached task)
  accepted =
      let outcome : Option ℕ → Stepped = λ o. let number = unwrap_or o 0 in Accepted (after number) (Attached number) in
      ap (answered settings s (attach a)) (no_cause s a given shared are_given are_shared task fine own free) ∙ ap outcome free

  gifts_are : gifts ≡ given
  gifts_are = ap (λ (o : Option (List ℕ)). unwrap_or o []) are_given

  shares_are : shares ≡ shared
  shares_are = ap (λ (o : Option (List ℕ)). unwrap_or o []) are_shared

  can_attach : CanAttach s task gifts shares
  can_attach = record {
    number = free;
    good = (λ i. is_bad_list (gifts_are i ++ shares_are i)) ∙ fine;
    owned = ap (list_any (is_anothers s)) gifts_are ∙ own;
  }

  carried : AttachingLeads → AreNamed m.subpools.cells → IsSound settings m
      → IsAccepted settings names_full m (attach a) (attach_change m plan) (Attached task)
  carried law named sound =
      let outcome : State → Stepped = λ t. Accepted t (Attached task) in
      let its : Leads settings m (attach_change m plan) (after task) =
      law settings m task a.shares_zero gifts shares ((15, 0) ∷ (1, task) ∷ []) sound named can_attach
      (register_and 15 0 ((1, task) ∷ []) (omega arith) (register_and 1 task [] (omega arith) no_registers))
      (attach_leaves_well_formed settings names_full s (after task) a (Attached task) sound.well_formed accepted) in
      record { accepted = accepted ∙ ap outcome (sym its.leads); fits = its.fits; sound = its.sound }

  pub attach_planned : AttachingLeads → AreNamed m.subpools.cells → ∥ IsSound settings m ∥₁ → IsAttachPlanned settings names_full m (attach a) (Ok plan)
  attach_planned law named sound = (∥∥₁_map sound (carried law named), record { given = ap is_some are_given; shared = ap is_some are_shared; can = can_attach }, omega arith)
