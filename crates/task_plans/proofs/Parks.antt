-- Empty subpools are parked under one name after the other.
use Rattle.std.proofs.Common.{◌≡◌, ℕ, suc, ◌+◌, ◌≤◌, Bool, true, false, ◌&&◌, ◌==◌, Option, Some, None, Result, Ok, Err, OnOk, List, [], ◌∷◌, ◌++◌, length, length-append, refl, sym, ap, ◌∙◌, subst, arith}
use Rattle.std.specs.Prelude.{if◌then◌else◌}
use Rattle.std.specs.List.{All, AllPairs}
use Rattle.std.proofs.lemmas.Bool.{and_parts, both_ways, eqb-true, false_from_ne_true}
use Rattle.vsm_elements.specs.Store.{live_count, Store, made}
use Rattle.vsm_model.specs.declared.Subpool.{Subpool}
use Rattle.vsm_model.specs.Subpools.{same_subpool}
use Rattle.subpool_storage.specs.Subpools.{Subpools, no_subpools, with_own}
use Rattle.storage_changes.specs.Changes.{empties}
use Rattle.storage_changes.specs.Names.{AreNames}
use Rattle.storage_changes.proofs.Cases.{cond-out, same-self}
use Rattle.storage_swap.specs.declared.storage.Parts.{Parts}
use Rattle.storage_swap.specs.Storage.{state_of}
use Rattle.storage_swap.specs.declared.builder.ChangeBuilder.{ChangeBuilder}
use Rattle.storage_swap.specs.Builder.{records_in, parked_in, IsBuilding, Builds, Parks}
use Rattle.storage_swap.specs.Growth.{MakesElements}
use Rattle.storage_swap.proofs.BuilderLemmas.{builds-none, builds-follow, makes-follow}
use Rattle.storage_changes.specs.State.{StorageState}
use Rattle.storage_changes.specs.Ending.{SightRow, ended_below, owned_in, seen_by_these}
use Rattle.task_plans.specs.declared.sights.SightPlace.{SightPlace}
use Rattle.task_plans.specs.Sights.{seen_left}
use Rattle.task_plans.specs.TaskPlans.{parked_onto, parks_all, CanPark, ParksAll}
use Rattle.task_plans.proofs.Walks.{owned_first}

-- in whatever order
swap-own : (m : Subpools) (p q : Subpool) → with_own (with_own m p true) q true ≡ with_own (with_own m q true) p true
swap-own m p q = λ i. record m {
  sight = λ task number. both task number ((task == p.owner) && (number == p.number)) ((task == q.owner) && (number == q.number)) refl refl (m.sight task number) i;
} where
  both : (task number : ℕ) (b c : Bool) → ((task == p.owner) && (number == p.number)) ≡ b → ((task == q.owner) && (number == q.number)) ≡ c → (o : Option ℕ)
      → (if c then Some q.owner else if b then Some p.owner else o) ≡ (if b then Some p.owner else if c then Some q.owner else o)
  both task number true true x y o = ap Some (sym (eqb-true task q.owner (and_parts (task == q.owner) (number == q.number) y).0) ∙ eqb-true task p.owner (and_parts (task == p.owner) (number == p.number) x).0)
  both task number true false x y o = refl
  both task number false true x y o = refl
  both task number false false x y o = refl

first-last : (m : Subpools) (p : Subpool) (ps : List Subpool) → parked_onto (with_own m p true) ps ≡ with_own (parked_onto m ps) p true
first-last m p [] = refl
first-last m p (q ∷ qs) = ap (λ (z : Subpools). parked_onto z qs) (swap-own m p q) ∙ first-last (with_own m q true) p qs

pub onto_none : (ps : List Subpool) → parked_onto no_subpools ps ≡ empties ps
onto_none [] = refl
onto_none (p ∷ ps) = first-last no_subpools p ps ∙ ap (λ (z : Subpools). with_own z p true) (onto_none ps)

onto-more : (m : Subpools) (xs ys : List Subpool) → parked_onto m (xs ++ ys) ≡ parked_onto (parked_onto m xs) ys
onto-more m [] ys = refl
onto-more m (x ∷ xs) ys = onto-more (with_own m x true) xs ys

can-front : (m : Subpools) (xs ys : List Subpool) → CanPark m (xs ++ ys) → CanPark m xs
can-front m [] ys h = tt
can-front m (x ∷ xs) ys h = (h.0, h.1, h.2, h.3, can-front (with_own m x true) xs ys h.4)

can-rest : (m : Subpools) (xs ys : List Subpool) → CanPark m (xs ++ ys) → CanPark (parked_onto m xs) ys
can-rest m [] ys h = h
can-rest m (x ∷ xs) ys h = can-rest (with_own m x true) xs ys h.4

other-name : (p q : Subpool) → same_subpool p q ≡ false → ((q.owner == p.owner) && (q.number == p.number)) ≡ false
other-name p q h = false_from_ne_true ((q.owner == p.owner) && (q.number == p.number)) (λ e.
    let r = and_parts (q.owner == p.owner) (q.number == p.number) e in
    let same : p ≡ q = λ i. record { number = sym (eqb-true q.number p.number r.1) i; owner = sym (eqb-true q.owner p.owner r.0) i } in
    both_ways (same_subpool p q) h (ap (same_subpool p) (sym same) ∙ same-self p))

can-from : (m : Subpools) (ps : List Subpool) → All (λ p. (1 ≤ p.owner) × (p.owner ≤ 64)) ps → All (λ p. p.number ≤ 127) ps → AllPairs (λ p q. same_subpool p q ≡ false) ps
    → All (λ q. m.sight q.owner q.number ≡ None) ps → CanPark m ps
can-from m [] owners numbers once unseen = tt
can-from m (p ∷ ps) owners numbers once unseen = (
  (owners 0 p (omega arith)).0,
  (owners 0 p (omega arith)).1,
  numbers 0 p (omega arith),
  unseen 0 p (omega arith),
  can-from (with_own m p true) ps
      (λ i d l. owners (suc i) d (omega (arith, l)))
      (λ i d l. numbers (suc i) d (omega (arith, l)))
      (λ i j d a b. once (suc i) (suc j) d (omega (arith, a)) (omega (arith, b)))
      (λ i d l. cond-out _ (Some p.owner) _ (other-name p _ (once 0 (suc i) d (omega arith) (omega (arith, l)))) ∙ unseen (suc i) d (omega (arith, l))),
)

pub names_can : (ps : List Subpool) → AreNames ps → CanPark no_subpools ps
names_can ps names = can-from no_subpools ps names.owners names.numbers names.once (λ i d l. refl)

-- one is parked, or none
pub parks_one : {E : Type 0} (s : Parts) (a : ChangeBuilder) (p : Subpool) (names : List Subpool) (t : Parts) (b : ChangeBuilder) → names ≡ p ∷ [] → (r : Result (Unit {0}) E) → OnOk r (Parks s a p t b) → OnOk r (ParksAll s a names t b)
parks_one s a p names t b is (Ok x) h =
    let P : List Subpool → Type 0 = λ ps. ParksAll s a ps t b in
    subst P (sym is) (record { records = h.records; parked = h.parked; spare = omega (arith, h.spare); live = omega (arith, h.live); made = omega (arith, h.made) })
parks_one s a p names t b is (Err e) h = tt

pub parks_no : (s : Parts) (a : ChangeBuilder) (names : List Subpool) → names ≡ [] → ParksAll s a names s a
parks_no s a names is =
    let P : List Subpool → Type 0 = λ ps. ParksAll s a ps s a in
    subst P (sym is) (record { records = refl; parked = refl; spare = omega arith; live = omega arith; made = omega arith })

-- Of the subpools that tasks of the subtree own, those from the place on are yet to be parked.
pub record ParksLead (top : ℕ) (s : Parts) (a : ChangeBuilder) (t : Parts) (b : ChangeBuilder) (place : SightPlace) : Type 0 where
  pub builds : Builds s a t b
  pub records : records_in t b ≡ records_in s a
  pub parked : parked_onto (parked_in t b) (owned_in (seen_left (state_of s) top place)) ≡ parked_onto (parked_in s a) (parks_all (state_of s) top)
  pub can : CanPark (parked_in t b) (owned_in (seen_left (state_of s) top place))
  pub spare : s.elements.spare + length (owned_in (seen_left (state_of s) top place)) ≤ t.elements.spare + length (parks_all (state_of s) top)
  pub live : live_count t.elements + length (owned_in (seen_left (state_of s) top place)) ≤ live_count s.elements + length (parks_all (state_of s) top)
  pub made : MakesElements s.elements t.elements (length (parks_all (state_of s) top))

pub parks_none : {s : Parts} {a : ChangeBuilder} (top : ℕ) (place : SightPlace) → IsBuilding s a → seen_left (state_of s) top place ≡ seen_by_these (state_of s).subpools (ended_below (state_of s).tasks.parents top)
    → CanPark (parked_in s a) (parks_all (state_of s) top) → ParksLead top s a s a place
parks_none {s} {a} top place building all can =
    let P : List SightRow → Type 0 = λ xs. CanPark (parked_in s a) (owned_in xs) in
    record {
      builds = builds-none s a building;
      records = refl;
      parked = ap (λ (xs : List SightRow). parked_onto (parked_in s a) (owned_in xs)) all;
      can = subst P (sym all) can;
      spare = omega (arith, ap (λ (xs : List SightRow). length (owned_in xs)) all);
      live = omega (arith, ap (λ (xs : List SightRow). length (owned_in xs)) all);
      made = omega arith;
    }

module _ {top : ℕ} {s t : Parts} {a b : ChangeBuilder} {place : SightPlace} (w : ParksLead top s a t b place) where
  abbrev left : SightPlace → List Subpool
  left place = owned_in (seen_left (state_of s) top place)

  same-rows : (place : SightPlace) → seen_left (state_of t) top place ≡ seen_left (state_of s) top place
  same-rows place = ap (λ (m : StorageState). seen_left m top place) w.builds.keeps.shows

  pub parks_done : seen_left (state_of t) top place ≡ [] → ParksAll s a (parks_all (state_of s) top) t b
  parks_done none =
      let is : left place ≡ [] = ap owned_in (sym (same-rows place) ∙ none) in
      record {
        records = w.records;
        parked = ap (parked_onto (parked_in t b)) (sym is) ∙ w.parked;
        spare = omega (arith, w.spare, ap length is);
        live = omega (arith, w.live, ap length is);
        made = w.made;
      }

  -- the next one
  module _ (next : SightPlace) {x : SightRow} (is : seen_left (state_of t) top place ≡ x ∷ seen_left (state_of t) top next) where
    abbrev added : List Subpool
    added = owned_in (x ∷ [])

    front : left place ≡ added ++ left next
    front = ap owned_in (sym (same-rows place) ∙ is ∙ ap (λ (z : List SightRow). x ∷ z) (same-rows next)) ∙ owned_first x (seen_left (state_of s) top next)

    pub parks_can : CanPark (parked_in t b) added
    parks_can = let P : List Subpool → Type 0 = CanPark (parked_in t b) in can-front (parked_in t b) added (left next) (subst P front w.can)

    pub parks_room : length (parks_all (state_of s) top) ≤ s.elements.spare → length added ≤ t.elements.spare
    parks_room room = omega (arith, room, w.spare, ap length front, length-append added (left next))

    pub parks_refused : (e : Store) → MakesElements t.elements e (length added) → MakesElements s.elements e (length (parks_all (state_of s) top))
    parks_refused e =
        makes-follow (made s.elements) (made t.elements) (made e) (live_count s.elements) (live_count t.elements)
        (length (parks_all (state_of s) top)) (length added) (length (parks_all (state_of s) top)) w.made (omega (arith, w.live, ap length front, length-append added (left next))) (omega arith)

    pub parks_more : {u : Parts} {c : ChangeBuilder} → Builds t b u c → ParksAll t b added u c → ParksLead top s a u c next
    parks_more {u} {c} builds all =
        let P : List Subpool → Type 0 = CanPark (parked_in t b) in
        let R : Subpools → Type 0 = λ m. CanPark m (left next) in
        record {
          builds = builds-follow s t u a b c w.builds builds;
          records = all.records ∙ w.records;
          parked = ap (λ (m : Subpools). parked_onto m (left next)) all.parked ∙ sym (onto-more (parked_in t b) added (left next)) ∙ ap (parked_onto (parked_in t b)) (sym front) ∙ w.parked;
          can = subst R (sym all.parked) (can-rest (parked_in t b) added (left next) (subst P front w.can));
          spare = omega (arith, w.spare, all.spare, ap length front, length-append added (left next));
          live = omega (arith, w.live, all.live, ap length front, length-append added (left next));
          made = makes-follow (made s.elements) (made t.elements) (made u.elements) (live_count s.elements) (live_count t.elements)
              (length (parks_all (state_of s) top)) (length added) (length (parks_all (state_of s) top)) w.made (omega (arith, w.live, ap length front, length-append added (left next))) (omega arith) all.made;
        }
