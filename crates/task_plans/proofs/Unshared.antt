-- What tasks that end see at a number at which nobody shares: no other row is removed with it.
use Rattle.std.proofs.Common.{◌≡◌, ℕ, ◌<◌, ◌≤◌, false, inl, inr, ◌&&◌, ◌==◌, not, Option, Some, None, IsSome, List, [], ◌∷◌, ◌++◌, length, length-append, refl, sym, ◌∙◌, ap, subst, arith, true≢false}
use Rattle.std.specs.Prelude.{map, drop, option_map}
use Rattle.std.specs.List.{flat_map, filter_map, cons_option}
use Rattle.std.proofs.lemmas.Bool.{cases_Bool, eq-eqb, eqb-true, and_left, and_right}
use Rattle.std.proofs.lemmas.Grind.{flat_map-append}
use Rattle.vsm_model.specs.declared.Subpool.{Subpool}
use Rattle.subpool_set.specs.Pools.{is_others, is_owner, is_shared, sees, sharers, tasks}
use Rattle.subpool_set.proofs.OrderLemmas.{passed_none}
use Rattle.subpool_set.proofs.SharedLemmas.{any_task}
use Rattle.storage_changes.specs.State.{StorageState}
use Rattle.storage_changes.specs.Ending.{SightRow, ended_below, row_at, rows_with}
use Rattle.task_plans.specs.declared.sights.SightPlace.{SightPlace}
use Rattle.task_plans.specs.Sights.{tasks_below, rows_from, rows_behind, seen_left}
use Rattle.task_plans.proofs.EmptyingRecords.{own_goes}

module _ (m : StorageState) (top number : ℕ) (range : (task n : ℕ) → IsSome (m.subpools.sight task n) → (1 ≤ task) × (task ≤ 64) × (n ≤ 127)) (alone : is_shared m.subpools.sight number ≡ false) where
  abbrev ended : List ℕ
  ended = ended_below m.tasks.parents top

  abbrev pub goes : List SightRow → List SightRow
  goes = flat_map (rows_with m.subpools ended)

  -- a task that sees a subpool of the number owns it
  own_alone : (task owner : ℕ) → m.subpools.sight task number ≡ Some owner → owner ≡ task
  own_alone task owner at =
      let P : Option ℕ → Type 0 = λ o. IsSome o in
      let its = range task number (subst P (sym at) refl) in
      elim (cases_Bool (owner == task)) [
        | inl same ↦ eqb-true owner task same
        | inr other ↦ absurd (true≢false (sym (any_task (λ task. is_others (m.subpools.sight task number) task) task
            (ap (λ (o : Option ℕ). is_others o task) at ∙ ap not other) its.0 its.1) ∙ alone))
      ]

  no_sharers : (owner : ℕ) → sharers m.subpools.sight number owner ≡ []
  no_sharers owner = passed_none (λ task. sees m.subpools.sight number owner task && not (task == owner)) (λ task. go task (m.subpools.sight task number) refl) tasks where
    go : (task : ℕ) (o : Option ℕ) → m.subpools.sight task number ≡ o → (is_owner owner o && not (task == owner)) ≡ false
    go task None at = refl
    go task (Some x) at = elim (cases_Bool (x == owner)) [
      | inl same ↦ and_right (x == owner) (not (task == owner)) (ap not (eq-eqb task owner (sym (own_alone task x at) ∙ eqb-true x owner same)))
      | inr other ↦ and_left (x == owner) (not (task == owner)) other
    ]

  row_goes : (task owner : ℕ) → m.subpools.sight task number ≡ Some owner → rows_with m.subpools ended (record { number = number; owner = owner }, task) ≡ []
  row_goes task owner at =
      let p : Subpool = record { number = number; owner = owner } in
      own_goes m.subpools ended (p, task) (sym (eq-eqb owner task (own_alone task owner at)))
      ∙ ap (map (λ t. (p, t))) (no_sharers owner)

  rows_go : (ts : List ℕ) → goes (filter_map (row_at m.subpools number) ts) ≡ []
  rows_go [] = refl
  rows_go (t ∷ ts) = go (m.subpools.sight t number) refl (rows_go ts) where
    go : (o : Option ℕ) → m.subpools.sight t number ≡ o → goes (filter_map (row_at m.subpools number) ts) ≡ []
        → goes (cons_option (option_map (λ owner. (record { number = number; owner = owner }, t)) o) (filter_map (row_at m.subpools number) ts)) ≡ []
    go None at none = none
    go (Some owner) at none = ap (λ (rows : List SightRow). rows ++ goes (filter_map (row_at m.subpools number) ts)) (row_goes t owner at) ∙ none

  -- from such a row on, the same as after its number
  module _ (place next : SightPlace) (p : Subpool) (task : ℕ) (is : seen_left m top place ≡ (p, task) ∷ seen_left m top next) (at : p.number ≡ number) (on : next.number ≡ number)
      (seen : m.subpools.sight task p.number ≡ Some p.owner) where
    pub goes_behind : goes (seen_left m top place) ≡ goes (rows_behind m top number)
    goes_behind =
        ap goes is
        ∙ ap (λ (rows : List SightRow). rows ++ goes (seen_left m top next))
        (ap (λ (n : ℕ). rows_with m.subpools ended (record { number = n; owner = p.owner }, task)) at ∙ row_goes task p.owner (ap (m.subpools.sight task) (sym at) ∙ seen))
        ∙ flat_map-append (rows_with m.subpools ended) (rows_from m top next) (rows_behind m top next.number)
        ∙ (λ i. goes (rows_from m top (record { number = on i; asked = next.asked })) ++ goes (rows_behind m top (on i)))
        ∙ ap (λ (rows : List SightRow). rows ++ goes (rows_behind m top number)) (rows_go (drop next.asked (tasks_below m top)))

    pub fewer_behind : length (rows_behind m top number) < length (seen_left m top place)
    fewer_behind =
        let same = ap (λ (n : ℕ). length (rows_behind m top n)) on in
        omega (arith, ap length is, length-append (rows_from m top next) (rows_behind m top next.number), same)
