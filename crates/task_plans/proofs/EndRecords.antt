-- The records of an end follow one another, once the subpools of the tasks that end were parked.
use Rattle.std.proofs.Common.{◌≡◌, ℕ, ◌+◌, ◌≤◌, true, false, List, [], ◌∷◌, ◌++◌, length, length-append, sym, ap, ◌∙◌, arith}
use Rattle.std.proofs.lemmas.List.{append_assoc}
use Rattle.vsm_elements.specs.Store.{live_count, Store}
use Rattle.subpool_storage.specs.Subpools.{Subpools, no_subpools}
use Rattle.storage_changes.specs.declared.record.Record.{Record}
use Rattle.storage_changes.specs.declared.record.Record.TheVariants.{Turn}
use Rattle.storage_changes.specs.Changes.{empties}
use Rattle.storage_changes.specs.State.{StorageState}
use Rattle.storage_swap.specs.declared.storage.Parts.{Parts}
use Rattle.storage_swap.specs.Storage.{state_of}
use Rattle.storage_swap.specs.declared.builder.ChangeBuilder.{ChangeBuilder}
use Rattle.storage_swap.specs.Builder.{records_in, parked_in, Builds, Pushes}
use Rattle.storage_swap.specs.Growth.{MakesElements}
use Rattle.storage_swap.proofs.BuilderLemmas.{Leads, refused-made}
use Rattle.storage_changes.specs.Ending.{ended_below, released_records}
use Rattle.task_plans.specs.declared.end.EndPlan.{EndPlan}
use Rattle.task_plans.specs.TaskPlans.{end_change, parked_onto, parks_all, rest_records, ParksAll}
use Rattle.task_plans.proofs.Parks.{onto_none}
use Rattle.task_plans.proofs.Steps.{Next, first_is, next_step}

-- the turn is between what is released and the rest
around : (x : Record) (a b c d e : List Record) → a ++ x ∷ b ++ c ++ d ++ e ≡ a ++ (x ∷ [] ++ (b ++ c ++ d ++ e))
around x a b c d e = simp append_assoc

-- what is left of the room for k + m, after k of them
room-left : (k m s t : ℕ) → k + m ≤ s → s ≤ t + k → m ≤ t
room-left k m s t h spare = omega arith

-- k and then m
in-turn : (k m s t w : ℕ) → s ≤ t + k → t ≤ w + m → s ≤ w + (k + m)
in-turn k m s t w first second = omega arith

more-live : (k m s t w : ℕ) → t ≤ s + k → w ≤ t + m → w ≤ s + (k + m)
more-live k m s t w first second = omega arith

-- the room for k + m is room for k
pub front_room : (k m s : ℕ) → k + m ≤ s → k ≤ s
front_room k m s h = omega arith

-- a refusal that can't be
pub never : {P : Type 0} → false ≡ true → P
never h = absurd cc

-- of those that were added or are left, how many were added
counts : (k l m n r : ℕ) → k + l ≡ m + n → m ≡ 0 → n ≡ r + (1 + l) → k ≡ 1 + r
counts k l m n r all none is = omega arith

-- the three parts of them
abbrev pub released : EndPlan → StorageState → List Record
released plan m = released_records m.subpools (ended_below m.tasks.parents plan.top)

abbrev pub its_turn : EndPlan → StorageState → List Record
its_turn plan m = Turn (record { task = plan.next }) ∷ []

abbrev pub rest : EndPlan → StorageState → List Record
rest plan m = rest_records m plan

module _ (plan : EndPlan) {s t : Parts} {a b : ChangeBuilder} (one : Builds s a t b) (parks : ParksAll s a (parks_all (state_of s) plan.top) t b) where
  abbrev whole : List Record
  whole = (end_change (state_of s) plan).records

  abbrev names : ℕ
  names = length (parks_all (state_of s) plan.top)

  parts : (m : StorageState) → (end_change m plan).records ≡ released plan m ++ (its_turn plan m ++ rest plan m)
  parts m = around (Turn (record { task = plan.next })) _ _ _ _ _

  pub to_released : Next t b whole t b (released plan (state_of t)) (its_turn plan (state_of t) ++ rest plan (state_of t))
  to_released =
      first_is one.building (released plan (state_of t)) (its_turn plan (state_of t) ++ rest plan (state_of t))
      (ap (λ (m : StorageState). (end_change m plan).records) (sym one.keeps.shows) ∙ parts (state_of t))

  pub to_turn : {u : Parts} {c : ChangeBuilder} → Builds t b u c → Pushes t b (released plan (state_of t)) u c → Next t b whole u c (its_turn plan (state_of u)) (rest plan (state_of t))
  to_turn builds pushes = next_step (its_turn plan) to_released builds pushes

  -- the room after the names, and how much is made if something is refused
  pub names_room : names + length whole ≤ s.elements.spare → length whole ≤ t.elements.spare
  names_room h = room-left names (length whole) s.elements.spare t.elements.spare h parks.spare

  pub end_refused : (e : Store) → MakesElements t.elements e (length whole) → MakesElements s.elements e (names + length whole)
  end_refused e = refused-made s.elements t.elements e names (length whole) (names + length whole) parks.made parks.live (omega arith)

  -- how many were added before the rest
  pub counted : {v : Parts} {d : ChangeBuilder} → Leads t b whole v d (rest plan (state_of t)) → records_in s a ≡ [] → length (records_in v d) ≡ 1 + length (released plan (state_of s))
  counted {v} {d} l none =
      let k = length (rest plan (state_of t)) in
      let same : length (rest plan (state_of s)) ≡ k = ap (λ (m : StorageState). length (rest plan m)) (sym one.keeps.shows) in
      let sizes = ap length (parts (state_of s)) ∙ length-append (released plan (state_of s)) (its_turn plan (state_of s) ++ rest plan (state_of s)) in
      counts (length (records_in v d)) k (length (records_in t b)) (length whole) (length (released plan (state_of s)))
      (sym (length-append (records_in v d) (rest plan (state_of t))) ∙ ap length l.records ∙ length-append (records_in t b) whole)
      (ap length (parks.records ∙ none)) (omega (arith, sizes, same))

  module _ {w : Parts} {e : ChangeBuilder} (pushed : Pushes t b whole w e) where
    pub end_records_are : records_in s a ≡ [] → records_in w e ≡ whole
    end_records_are none = pushed.records ∙ ap (λ (xs : List Record). xs ++ whole) (parks.records ∙ none)

    pub end_parked_is : parked_in s a ≡ no_subpools → parked_in w e ≡ empties (parks_all (state_of s) plan.top)
    end_parked_is none =
        pushed.parked ∙ parks.parked ∙ ap (λ (m : Subpools). parked_onto m (parks_all (state_of s) plan.top)) none ∙ onto_none (parks_all (state_of s) plan.top)

    pub end_spare : s.elements.spare ≤ w.elements.spare + (names + length whole)
    end_spare = in-turn names (length whole) s.elements.spare t.elements.spare w.elements.spare parks.spare pushed.spare

    pub end_live : live_count w.elements ≤ live_count s.elements + (names + length whole)
    end_live = more-live names (length whole) (live_count s.elements) (live_count t.elements) (live_count w.elements) parks.live pushed.live

    pub end_made : MakesElements s.elements w.elements (names + length whole)
    end_made = end_refused w.elements pushed.made
