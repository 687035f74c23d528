-- What the end of tasks and a gift leave.
use Rattle.std.proofs.Common.{◌≡◌, ℕ, Bool, true, false, ◌||◌, if◌then◌else◌, Option, Some, None, is_some, refl, sym, ◌∙◌, ap, subst, true≢false}
use Rattle.std.proofs.lemmas.Bool.{cond-false}
use Rattle.vsm_model.specs.Search.{holds}
use Rattle.service_laws.specs.Ends.{TheEndedLeaveNothing, TheOthersKeepTheirPages}
use Rattle.service_laws.proofs.Options.{none_some, same_some}

-- what stays passes no test of what goes
stays : {A : Type 0} (these : A → Bool) (o : Option A) (x : A) → (if holds these o then None else o) ≡ Some x → these x ≡ false
stays these None x e = absurd (none_some x e)
stays these (Some y) x e = kept (these y) refl e where
  kept : (b : Bool) → these y ≡ b → (if b then None else Some y) ≡ Some x → these x ≡ false
  kept true is e = absurd (none_some x e)
  kept false is e = ap these (sym (same_some y x e)) ∙ is

seen_stays : (these : ℕ → Bool) (task : ℕ) (o : Option ℕ) (owner : ℕ) → (if these task || holds these o then None else o) ≡ Some owner →
    (these task ≡ false) × (these owner ≡ false)
seen_stays these task o owner e = kept (these task) refl e where
  kept : (b : Bool) → these task ≡ b → (if b || holds these o then None else o) ≡ Some owner → (these task ≡ false) × (these owner ≡ false)
  kept true is e = absurd (none_some owner e)
  kept false is e = (is, stays these o owner e)

task_stays : (b : Bool) (o : Option ℕ) → is_some (if b then None else o) ≡ true → b ≡ false
task_stays true o e = absurd (true≢false (sym e))
task_stays false o e = refl

pub the_ended_leave_nothing : TheEndedLeaveNothing
the_ended_leave_nothing s these = (
  λ k p e. stays (λ q. these q.owner) (s.pages k) p e,
  λ task number owner e. seen_stays these task (s.sight task number) owner e,
  λ task e. task_stays (these task) (s.parents task) e,
)

pub the_others_keep_their_pages : TheOthersKeepTheirPages
the_others_keep_their_pages s these k p at others =
    subst (λ o. (if holds (λ q. these q.owner) o then None else o) ≡ Some p) (sym at) (cond-false (these p.owner) None (Some p) others)
