-- One step of a walk: of the records that are left, these are added next, and then the rest.
use Rattle.std.proofs.Common.{◌≡◌, ◌≤◌, List, [], ◌++◌, length, length-append, Result, Ok, Err, OnOk, OnErr, refl, sym, ap, ◌∙◌, subst, arith}
use Rattle.std.proofs.lemmas.List.{append-nil}
use Rattle.std.proofs.lemmas.Result.{on_err_weaker}
use Rattle.storage_changes.specs.declared.record.Record.{Record}
use Rattle.storage_changes.specs.State.{StorageState}
use Rattle.storage_swap.specs.declared.storage.Parts.{Parts}
use Rattle.storage_swap.specs.Storage.{state_of}
use Rattle.storage_swap.specs.declared.builder.ChangeBuilder.{ChangeBuilder}
use Rattle.storage_swap.specs.Builder.{IsBuilding, Builds, Pushes}
use Rattle.storage_swap.specs.Growth.{MakesElements}
use Rattle.storage_swap.proofs.BuilderLemmas.{Leads, leads-none, leads-more, leads-all, leads-room, leads-refused}

pub record Next (s : Parts) (a : ChangeBuilder) (all : List Record) (t : Parts) (b : ChangeBuilder) (added rest : List Record) : Type 0 where
  pub leads : Leads s a all t b (added ++ rest)

module _ {s t : Parts} {a b : ChangeBuilder} {all left : List Record} (l : Leads s a all t b left) where
  pub next_is : (added rest : List Record) → left ≡ added ++ rest → Next s a all t b added rest
  next_is added rest is =
      let P : List Record → Type 0 = λ xs. Leads s a all t b xs in
      record { leads = subst P is l }

  -- what is next depends on the storage, whose state stays as it is
  pub next_of : (g : StorageState → List Record) (rest : List Record) → left ≡ g (state_of s) ++ rest → Next s a all t b (g (state_of t)) rest
  next_of g rest is = next_is (g (state_of t)) rest (is ∙ ap (λ (m : StorageState). g m ++ rest) (sym l.builds.keeps.shows))

  pub last_of : (g : StorageState → List Record) → left ≡ g (state_of s) → Next s a all t b (g (state_of t)) []
  last_of g is = next_of g [] (is ∙ sym (append-nil (g (state_of s))))

pub first_is : {s : Parts} {a : ChangeBuilder} {all : List Record} → IsBuilding s a → (added rest : List Record) → all ≡ added ++ rest → Next s a all s a added rest
first_is {s} {a} {all} building = next_is (leads-none s a all building)

module _ {s t : Parts} {a b : ChangeBuilder} {all added rest : List Record} (n : Next s a all t b added rest) where
  pub next_room : length all ≤ s.elements.spare → length added ≤ t.elements.spare
  next_room room = omega (arith, leads-room s t a b all (added ++ rest) n.leads room, length-append added rest)

  pub next_refused : (u : Parts) → MakesElements t.elements u.elements (length added) → MakesElements s.elements u.elements (length all)
  next_refused u = leads-refused s t a b all (added ++ rest) n.leads u added rest refl

  pub next_more : {u : Parts} {c : ChangeBuilder} → Builds t b u c → Pushes t b added u c → Leads s a all u c rest
  next_more {u} {c} = leads-more s t a b all (added ++ rest) n.leads u c added rest refl

-- the step after this one, and the last
module _ {s t u : Parts} {a b c : ChangeBuilder} {all added : List Record} (g : StorageState → List Record) where
  pub next_step : {rest : List Record} → Next s a all t b added (g (state_of s) ++ rest) → Builds t b u c → Pushes t b added u c → Next s a all u c (g (state_of u)) rest
  next_step {rest} n builds pushes = next_of (next_more n builds pushes) g rest refl

  pub last_step : Next s a all t b added (g (state_of s)) → Builds t b u c → Pushes t b added u c → Next s a all u c (g (state_of u)) []
  last_step n builds pushes = last_of (next_more n builds pushes) g refl

-- the last records are added, if they aren't refused, or there are none
module _ {s t : Parts} {a b : ChangeBuilder} {all added : List Record} (n : Next s a all t b added []) where
  pub all_last : {u : Parts} {c : ChangeBuilder} → Builds t b u c → Pushes t b added u c → Pushes s a all u c
  all_last {u} {c} builds p = leads-all s u a c all [] (next_more n builds p) refl

  pub ok_last : {E : Type 0} {u : Parts} {c : ChangeBuilder} (r : Result (Unit {0}) E) → Builds t b u c → OnOk r (Pushes t b added u c) → OnOk r (Pushes s a all u c)
  ok_last (Ok x) builds p = all_last builds p
  ok_last (Err e) builds p = tt

  pub err_last : {E : Type 0} (u : Parts) (r : Result (Unit {0}) E) → OnErr r (MakesElements t.elements u.elements (length added)) → OnErr r (MakesElements s.elements u.elements (length all))
  err_last u r = on_err_weaker r (next_refused n u)

  pub none_last : added ≡ [] → Pushes s a all t b
  none_last is = leads-all s t a b all (added ++ []) n.leads (append-nil added ∙ is)
