-- An answer that may not have changed pages or free storage leaves the areas as they were.
use Rattle.std.proofs.Common.{◌≡◌, ℕ, nat_le, Bool, true, false, true≢false, ◌&&◌, if◌then◌else◌, List, length, Option, Some, None, Result, Ok, Err, refl, sym, ap, subst, ◌∙◌}
use Rattle.macro_operands.specs.declared.faults.FaultKind.{FaultKind}
use Rattle.macro_statements.specs.Requests.{Act, Asked, act, peek, map_asked, back, forward}
use Rattle.vsm_model.specs.declared.causes.Cause.{Cause}
use Rattle.vsm_model.specs.declared.limits.Settings.{Settings}
use Rattle.vsm_model.specs.declared.replies.Reply.{Reply}
use Rattle.vsm_model.specs.declared.replies.Reply.TheVariants.{Obtained, Returned, Cell, Attached, Turn, Stored}
use Rattle.vsm_model.specs.Bytes.{with_bytes}
use Rattle.vsm_model.specs.Causes.{first_cause, answers_four}
use Rattle.vsm_model.specs.Cells.{got, pool_of, has_no_cell}
use Rattle.vsm_model.specs.Forms.{with_code}
use Rattle.vsm_model.specs.Names.{NamedState, is_one_too_many, named}
use Rattle.vsm_model.specs.Services.{Service, obtain, release, whole, attach, detach, end_task, run, store, build, get, free, delete, is_conditional}
use Rattle.vsm_model.specs.Standing.{Outcome, Accepted, Refused, Standing, Apply, Back, Forward, Moved, TooFar, stand, outcome_answer}
use Rattle.vsm_model.specs.Standing as standing
use Rattle.vsm_model.specs.Registers.{with_registers, registers_set}
use Rattle.vsm_model.specs.State.{State}
use Rattle.vsm_model.specs.Step.{step, causes, answered}
use Rattle.vsm_machine.specs.Machine.{Why, served, statement_step, service_asked, name_asked, family_asked, or_abend}
use Rattle.script_steps.specs.Output.{Marked, alone_now, responded, stands_with, stands_after}
use Rattle.script_steps.specs.Responses.{response_to}
use Rattle.explain_report.specs.Changes.{HaveSameAreas, may_change}

same : (s : State) → HaveSameAreas s s
same s = record { subpools = refl; sight = refl; pages = refl; taken = refl; cell_pools = refl }

-- ---- a store changes only bytes, and no other service is answered as a store is

abbrev is_store_reply : Reply → Bool
is_store_reply (Obtained address count) = false
is_store_reply (Returned code) = false
is_store_reply (Cell cell) = false
is_store_reply (Attached task) = false
is_store_reply (Turn task) = false
is_store_reply Stored = true

abbrev is_stored : {S C : Type 0} → Outcome S Reply C → Bool
is_stored (Accepted s r) = is_store_reply r
is_stored (Refused cause) = false

abbrev state_in : {S C : Type 0} → S → Outcome S Reply C → S
state_in d (Accepted s r) = s
state_in d (Refused cause) = d

not_stored : {S C : Type 0} (o : Outcome S Reply C) (t : S) → is_stored o ≡ false → o ≡ Accepted t Stored → ⊥
not_stored o t other e = true≢false (sym (ap is_stored e) ∙ other)

either : (b : Bool) (x y : State × Reply) → is_store_reply x.1 ≡ false → is_store_reply y.1 ≡ false → is_store_reply (if b then x else y).1 ≡ false
either true x y e f = e
either false x y e f = f

cell_reply : (settings : Settings) (s : State) (name : List ℕ) → is_store_reply (got settings s name).1 ≡ false
cell_reply settings s name = either (has_no_cell (pool_of s name)) _ _ refl refl

service_stored : (settings : Settings) (s t : State) (x : Service) → answered settings s x None ≡ Accepted t Stored → HaveSameAreas s t
service_stored settings s t (store address bytes) e =
    let stays : HaveSameAreas s (with_bytes s address bytes) = record { subpools = refl; sight = refl; pages = refl; taken = refl; cell_pools = refl } in
    subst (HaveSameAreas s) (ap (state_in s) e) stays
service_stored settings s t (obtain o) e = absurd (not_stored (answered settings s (obtain o) None) t refl e)
service_stored settings s t (release r) e = absurd (not_stored (answered settings s (release r) None) t refl e)
service_stored settings s t (whole number) e = absurd (not_stored (answered settings s (whole number) None) t refl e)
service_stored settings s t (attach a) e = absurd (not_stored (answered settings s (attach a) None) t refl e)
service_stored settings s t (detach task) e = absurd (not_stored (answered settings s (detach task) None) t refl e)
service_stored settings s t end_task e = absurd (not_stored (answered settings s end_task None) t refl e)
service_stored settings s t (run task) e = absurd (not_stored (answered settings s (run task) None) t refl e)
service_stored settings s t (build name header b) e = absurd (not_stored (answered settings s (build name header b) None) t refl e)
service_stored settings s t (get name g) e = absurd (not_stored (answered settings s (get name g) None) t (cell_reply settings s name) e)
service_stored settings s t (free name cell) e = absurd (not_stored (answered settings s (free name cell) None) t refl e)
service_stored settings s t (delete name) e = absurd (not_stored (answered settings s (delete name) None) t refl e)

answered_stored : (settings : Settings) (s t : State) (x : Service) (c : Option Cause) → answered settings s x c ≡ Accepted t Stored → HaveSameAreas s t
answered_stored settings s t x None e = service_stored settings s t x e
answered_stored settings s t x (Some cause) e = go (is_conditional x && answers_four cause) e where
  go : (b : Bool) → ◌≡◌ {A = Outcome State Reply Cause} (if b then Accepted (with_registers s (registers_set x (Returned 4))) (Returned 4) else Refused cause) (Accepted t Stored)
      → HaveSameAreas s t
  go true e = absurd (true≢false (sym (ap is_stored e)))
  go false e = absurd (true≢false (sym (ap is_stored e)))

abbrev reply_in : {S C : Type 0} → Outcome S Reply C → Reply
reply_in (Accepted s r) = r
reply_in (Refused cause) = Stored

abbrev storage_in : {C : Type 0} → State → Outcome NamedState Reply C → State
storage_in d (Accepted m r) = m.storage
storage_in d (Refused cause) = d

served_stored : (settings : Settings) (m t : NamedState) (x : Act) (o : Option Service) → served settings m x o ≡ Accepted t Stored → HaveSameAreas m.storage t.storage
served_stored settings m t x None e = absurd (true≢false (sym (ap is_stored e)))
served_stored settings m t x (Some service) e = go (step settings (is_one_too_many m.names (name_asked x)) m.storage service) refl e where
  go : (o : Outcome State Reply Cause) → step settings (is_one_too_many m.names (name_asked x)) m.storage service ≡ o
      → or_abend (with_code (family_asked x) service (named m.names (name_asked x) o)) ≡ Accepted t Stored → HaveSameAreas m.storage t.storage
  go (Accepted s r) is e =
      let state : s ≡ t.storage = ap (storage_in s) e in
      let reply : r ≡ Stored = ap reply_in e in
      answered_stored settings m.storage t.storage service (first_cause (causes settings (is_one_too_many m.names (name_asked x)) m.storage service))
      (is ∙ λ i. Accepted (state i) (reply i))
  go (Refused cause) is e = absurd (true≢false (sym (ap is_stored e)))

-- ---- an answer that may not have changed them

module _ (settings : Settings) where
  abbrev storage_of : Standing Act Reply → State
  storage_of l = (alone_now settings l).storage

  accepted : (l : Standing Act Reply) (x : Act) (t : NamedState) (r : Reply) (kept : ℕ) → statement_step settings (alone_now settings l) x ≡ Accepted t r
      → may_change (response_to (Apply x) (standing.Replied r) kept) ≡ false → HaveSameAreas (storage_of l) t.storage
  accepted l x t Stored kept is e = served_stored settings (alone_now settings l) t x (service_asked (alone_now settings l) x) is
  accepted l x t (Obtained address count) kept is e = absurd (true≢false e)
  accepted l x t (Returned code) kept is e = absurd (true≢false e)
  accepted l x t (Cell cell) kept is e = absurd (true≢false e)
  accepted l x t (Attached task) kept is e = absurd (true≢false e)
  accepted l x t (Turn task) kept is e = absurd (true≢false e)

  applied : (l : Standing Act Reply) (x : Act) (o : Outcome NamedState Reply Why) (kept : ℕ) → statement_step settings (alone_now settings l) x ≡ o
      → may_change (response_to (Apply x) (outcome_answer o) kept) ≡ false
      → HaveSameAreas (storage_of l) (storage_of (stand settings.history l (Apply x) (outcome_answer o)))
  applied l x (Refused why) kept is e = same _
  applied l x (Accepted t r) kept is e =
      let after : t.storage ≡ (standing.state_after (alone_now settings l) (statement_step settings (alone_now settings l) x)).storage =
      sym (ap (λ o. (standing.state_after (alone_now settings l) o).storage) is) in
      subst (HaveSameAreas (storage_of l)) after (accepted l x t r kept is e)

  went_back : (l : Standing Act Reply) (n : ℕ) (b : Bool) (kept : ℕ) → may_change (response_to (Back n) (if b then Moved else TooFar l.kept) kept) ≡ false
      → HaveSameAreas (storage_of l) (storage_of (stand {C = Why} settings.history l (Back n) (if b then Moved else TooFar l.kept)))
  went_back l n true kept e = absurd (true≢false e)
  went_back l n false kept e = same _

  went_forward : (l : Standing Act Reply) (n : ℕ) (b : Bool) (kept : ℕ) → may_change (response_to (Forward n) (if b then Moved else TooFar (length l.undone)) kept) ≡ false
      → HaveSameAreas (storage_of l) (storage_of (stand {C = Why} settings.history l (Forward n) (if b then Moved else TooFar (length l.undone))))
  went_forward l n true kept e = absurd (true≢false e)
  went_forward l n false kept e = same _

  alike_with : (l : Standing Act Reply) (unmet : Bool) (what : Result Asked FaultKind) → may_change (responded settings l unmet what) ≡ false
      → HaveSameAreas (storage_of l) (storage_of (stands_with settings l unmet what))
  alike_with l unmet (Err kind) e = same _
  alike_with l true (Ok (act x)) e = same _
  alike_with l false (Ok (act x)) e = applied l x (statement_step settings (alone_now settings l) x) _ refl e
  alike_with l unmet (Ok (peek address count)) e = same _
  alike_with l unmet (Ok map_asked) e = same _
  alike_with l true (Ok (back n)) e = went_back l n (nat_le n l.kept) _ e
  alike_with l false (Ok (back n)) e = went_back l n (nat_le n l.kept) _ e
  alike_with l true (Ok (forward n)) e = went_forward l n (nat_le n (length l.undone)) _ e
  alike_with l false (Ok (forward n)) e = went_forward l n (nat_le n (length l.undone)) _ e

  pub alike : (l : Standing Act Reply) (m : Marked) → may_change (responded settings l m.unmet m.answer.what) ≡ false
      → HaveSameAreas (storage_of l) (storage_of (stands_after settings l m))
  alike l m e = alike_with l m.unmet m.answer.what e
