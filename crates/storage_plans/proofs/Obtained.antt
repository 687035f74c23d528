-- The plan of an obtain carries it out.
use Rattle.std.proofs.Common.{◌≡◌, ℕ, ◌+◌, ◌-◌, ◌*◌, ◌/◌, ◌%◌, ◌<◌, ◌≤◌, ◌^◌, Bool, true, false, not, ◌&&◌, ◌==◌, is_some, Option, Some, None, IfSome, List, [], ◌∷◌, ◌++◌, refl, sym, ap, ◌∙◌, subst, arith}
use Rattle.std.specs.Prelude.{unwrap_or}
use Rattle.std.proofs.lemmas.Bool.{and_parts, and_from, cond-false, cond-true, eq-eqb, not-false, not-true}
use Rattle.std.proofs.lemmas.List.{append_assoc}
use Rattle.run_set.specs.Runs.{Run, inside}
use Rattle.vsm_model.specs.declared.Subpool.{Subpool}
use Rattle.vsm_model.specs.declared.limits.Settings.{Settings}
use Rattle.vsm_model.specs.declared.replies.Reply.TheVariants.{Obtained}
use Rattle.vsm_model.specs.declared.services.Lengths.{Lengths}
use Rattle.vsm_model.specs.declared.services.Lengths.TheVariants.{Fixed, Variable}
use Rattle.vsm_model.specs.declared.services.Obtain.{Obtain}
use Rattle.vsm_model.specs.Search.{all_pass}
use Rattle.vsm_model.specs.Regions.{among, within, regions_for, settings_valid, side, pages_for}
use Rattle.vsm_model.specs.State.{State}
use Rattle.vsm_model.specs.Subpools.{seen_or_own, sees_one, with_own, with_subpool}
use Rattle.vsm_model.specs.Areas.{Place, Inside, Fresh, address_of, fits, is_free, spacing}
use Rattle.vsm_model.specs.Obtaining.{place_for, with_area}
use Rattle.vsm_model.specs.Registers.{length_register, named_register, with_registers}
use Rattle.vsm_model.specs.Services.{obtain}
use Rattle.vsm_model.specs.Standing.{Accepted}
use Rattle.vsm_model.specs.Step.{answered, replied, step}
use Rattle.vsm_model.specs.WellFormed.{IsWellFormed}
use Rattle.vsm_model.proofs.Chosen.{Stepped}
use Rattle.vsm_model.proofs.Least.{all_pass_at}
use Rattle.service_laws.specs.StorageKept.{IsRegister}
use Rattle.service_laws.proofs.Allowed.{obtain_allowed}
use Rattle.service_laws.proofs.Cases.{among_in, none_from, same_some, some_from}
use Rattle.service_laws.proofs.Kept.{obtain_leaves_well_formed}
use Rattle.service_laws.proofs.Places.{IsOf, Goes, place_goes, place_in_words, regions_are}
use Rattle.storage_changes.specs.declared.record.Record.{Record}
use Rattle.storage_changes.specs.declared.record.Record.TheVariants.{Extent, Pages}
use Rattle.storage_changes.specs.State.{StorageState}
use Rattle.storage_changes.specs.Changes.{change_of}
use Rattle.storage_changes.specs.Meaning.{model_of, IsSound}
use Rattle.storage_changes.proofs.MeaningLemmas.{free_storage_is_free, unassigned_pages_are_nobodys}
use Rattle.subpool_storage.specs.Subpools.{is_there}
use Rattle.storage_changes.specs.StorageActions.{area_records, own_records, register_records, run_of, take_fresh_records}
use Rattle.storage_changes.specs.Leads.{AreRegisters, CanOwn, Leads, with_new}
use Rattle.storage_changes.proofs.Fresh.{taking_fresh_leads}
use Rattle.storage_changes.proofs.Rows.{none_fresh}
use Rattle.storage_changes.proofs.Taking.{taking_leads}
use Rattle.storage_plans.specs.declared.areas.FoundArea.{FoundArea}
use Rattle.storage_plans.specs.declared.places.AreaPlace.{AreaPlace}
use Rattle.storage_plans.specs.declared.places.AreaPlace.TheVariants as areas
use Rattle.storage_plans.specs.declared.plan.StoragePlan.{StoragePlan}
use Rattle.storage_plans.specs.ObtainPlans.{IsFound, reply_registers, other_registers, granted_records, obtain_records, place_address, place_blanks, place_pages}
use Rattle.storage_plans.specs.Places.{place_of}
use Rattle.storage_plans.specs.Plans.{CarriesOut}
use Rattle.storage_plans.proofs.Assigning.{granted_assigns}
use Rattle.storage_plans.proofs.Carried.{carries_out, no_registers, register_and}
use Rattle.storage_plans.proofs.AskedLengths.{is_somewhere}

-- the records of new pages, pushed one by one
pub fresh_pushed : (p : Subpool) (page count : ℕ) (run : Run) (old one two all : List Record) → run ≡ run_of page (pages_for count) → one ≡ old ++ Pages (record { run = run; assigned = true }) ∷ [] →
    two ≡ one ++ Extent (record { subpool = p; run = run; present = true }) ∷ [] → all ≡ two ++ area_records p (512 * page + count) (512 * run.len - count) true →
    all ≡ old ++ take_fresh_records p page count
fresh_pushed p page count run old one two all is first second third =
    let pages : Run → Record = λ r. Pages (record { run = r; assigned = true }) in
    let extent : Run → Record = λ r. Extent (record { subpool = p; run = r; present = true }) in
    let area : Run → List Record = λ r. area_records p (512 * page + count) (512 * r.len - count) true in
    third ∙ ap (λ (xs : List Record). xs ++ area run) (second ∙ ap (λ (xs : List Record). xs ++ extent run ∷ []) first)
    ∙ append_assoc (old ++ pages run ∷ []) (extent run ∷ []) (area run)
    ∙ append_assoc old (pages run ∷ []) (extent run ∷ area run)
    ∙ ap (λ (r : Run). old ++ pages r ∷ extent r ∷ area r) is

-- the register that is named is one of the sixteen
is_register : (named : Option ℕ) → IfSome named (λ r. r < 16) → IsRegister named
is_register None h register e = absurd (cc)
is_register (Some n) h register e = let below : ℕ → Type 0 = λ r. r < 16 in subst below (same_some n register e) h

are_registers : (lengths : Lengths) (named : Option ℕ) (address length : ℕ) → IfSome named (λ r. r < 16) → AreRegisters (reply_registers lengths named address length)
are_registers lengths named address length h =
    register_and 15 0 ((1, address) ∷ length_register lengths length ++ named_register named address) (omega arith)
    (register_and 1 address (length_register lengths length ++ named_register named address) (omega arith) (of_length lengths)) where
      is_named : (named : Option ℕ) → IfSome named (λ r. r < 16) → AreRegisters (named_register named address)
      is_named None h = no_registers
      is_named (Some n) h = register_and n address [] h no_registers

      of_length : (lengths : Lengths) → AreRegisters (length_register lengths length ++ named_register named address)
      of_length (Fixed n) = is_named named h
      of_length (Variable most least) = register_and 0 length (named_register named address) (omega arith) (is_named named h)

few_blanks : (x : AreaPlace) → place_blanks x ≤ 5
few_blanks (areas.Inside d) = omega arith
few_blanks (areas.Fresh page) = omega arith

-- one that passes is a run that passes
one_passes : (f : ℕ → Bool) (k : ℕ) → f k ≡ true → all_pass f k 1 ≡ true
one_passes f k e = and_from (f k) true e refl

module _ (settings : Settings) (m : StorageState) (o : Obtain) where
  abbrev s : State
  s = model_of m

  abbrev p : Subpool
  p = seen_or_own s o.number

  -- the subpool that is seen exists, and another can be made
  module _ (sound : IsSound settings m) where
    owner_new : sees_one s o.number ≡ false → p.owner ≡ s.current
    owner_new e = ap (λ seen. unwrap_or seen s.current) (none_from (s.sight s.current o.number) e)

    can_own : (is_new : Bool) → is_new ≡ not (sees_one s o.number) → o.number ≤ 127 → CanOwn m p is_new
    can_own true e private =
        let none = not-true (sees_one s o.number) (sym e) in
        (owner_new none, private, ap (λ owner. m.subpools.sight owner o.number) (owner_new none) ∙ none_from (s.sight s.current o.number) none)
    can_own false e private =
        let (owner, at) = some_from (s.sight s.current o.number) (not-false (sees_one s o.number) (sym e)) in
        ap (λ owner. is_there m.subpools (record { number = o.number; owner = owner })) (ap (λ seen. unwrap_or seen s.current) at)
        ∙ sound.well_formed.sight.seen_is_there s.current o.number owner at

    made : (is_new : Bool) → is_new ≡ not (sees_one s o.number) → with_own s o.number ≡ with_new s p is_new
    made true e =
        let none = not-true (sees_one s o.number) (sym e) in
        cond-false (sees_one s o.number) s (with_subpool s o.number s.current) none ∙ ap (λ owner. with_subpool s o.number owner) (sym (owner_new none))
    made false e = cond-true (sees_one s o.number) s (with_subpool s o.number s.current) (not-false (sees_one s o.number) (sym e))

  -- an area that has a place lies in a region
  module _ (valid : settings_valid settings ≡ true) (count : ℕ) (some : 0 < count) where
    goes_at : (x : Place) → x ≡ place_for settings s o count → Goes (IsOf settings) s p count (spacing o.boundary) x
    goes_at x e =
        subst (Goes (IsOf settings) s p count (spacing o.boundary)) (sym e)
        (place_goes (IsOf settings) s p count (spacing o.boundary) (regions_for settings (side settings o.location)) (regions_are settings (side settings o.location)))

    inside_ends : (d : ℕ) → Goes (IsOf settings) s p count (spacing o.boundary) (Inside d) → d + count ≤ 2 ^ 29
    inside_ends d (r, its, fit) =
        let last : ℕ = d + count - 1 in
        let here : ℕ → Bool = λ k. within r (k / 512) && is_free s p k in
        let free = (and_parts ((d % spacing o.boundary) == 0) (all_pass here d count) fit).1 in
        let passes : here last ≡ true = all_pass_at here d count last free (omega (arith, some)) (omega (arith, some)) in
        let fits_last : fits s r p 1 1 last ≡ true = and_from ((last % 1) == 0) (all_pass here last 1) (eq-eqb (last % 1) 0 (omega arith)) (one_passes here last passes) in
        let words = place_in_words settings s p 1 1 (Inside last) valid (omega arith) (r, its, fits_last) refl in
        let low = words.0 in
        omega (arith, low, some)

    fresh_ends : (page : ℕ) → Goes (IsOf settings) s p count (spacing o.boundary) (Fresh page) → page + pages_for count ≤ 2 ^ 20
    fresh_ends page (r, its, run) =
        let last : ℕ = page + pages_for count - 1 in
        let here : ℕ → Bool = λ k. within r k && not (is_some (s.pages k)) in
        let passes : here last ≡ true = all_pass_at here page (pages_for count) last run (omega (arith, some)) (omega (arith, some)) in
        let words = place_in_words settings s p 1 1 (Fresh last) valid (omega arith) (r, its, one_passes here last passes) refl in
        let low = words.0 in
        omega (arith, low, some)

    pages_in_range : (x : AreaPlace) → Goes (IsOf settings) s p count (spacing o.boundary) (place_of (Some x)) → (place_pages count x).start + (place_pages count x).len ≤ 2 ^ 20
    pages_in_range (areas.Inside d) goes = omega arith
    pages_in_range (areas.Fresh page) goes = fresh_ends page goes

    module _ (sound : IsSound settings m) where
      inside_free : (d : ℕ) → Goes (IsOf settings) s p count (spacing o.boundary) (Inside d) → (k : ℕ) → among d count k ≡ true → m.subpools.free p k ≡ true
      inside_free d (r, its, fit) k own =
          let here : ℕ → Bool = λ k. within r (k / 512) && is_free s p k in
          let free = (and_parts ((d % spacing o.boundary) == 0) (all_pass here d count) fit).1 in
          let at = among_in d count k own in
          sym (free_storage_is_free settings m sound p k) ∙ (and_parts (within r (k / 512)) (is_free s p k) (all_pass_at here d count k free at.0 at.1)).1

      fresh_unassigned : (page : ℕ) → Goes (IsOf settings) s p count (spacing o.boundary) (Fresh page) → (k : ℕ) → among page (pages_for count) k ≡ true → m.unassigned k ≡ true
      fresh_unassigned page (r, its, run) k own =
          let here : ℕ → Bool = λ k. within r k && not (is_some (s.pages k)) in
          let at = among_in page (pages_for count) k own in
          let parts = and_parts (within r k) (not (is_some (s.pages k))) (all_pass_at here page (pages_for count) k run at.0 at.1) in
          unassigned_pages_are_nobodys settings m sound k (its k parts.0) ∙ parts.1

      -- the change of each place leads to its effect
      leads_at : (x : AreaPlace) (is_new : Bool) (rows : List (ℕ × ℕ)) → Goes (IsOf settings) s p count (spacing o.boundary) (place_of (Some x)) → CanOwn m p is_new →
          AreRegisters ((15, 0) ∷ (1, place_address x) ∷ rows) →
          IsWellFormed settings (with_registers (with_area (with_new s p is_new) p count (place_of (Some x))) ((15, 0) ∷ (1, place_address x) ∷ rows)) →
          Leads settings m (change_of (own_records p is_new ++ granted_records m p count x rows) (place_blanks x) (place_pages count x))
          (with_registers (with_area (with_new s p is_new) p count (place_of (Some x))) ((15, 0) ∷ (1, place_address x) ∷ rows))
      leads_at (areas.Inside d) is_new rows goes own are formed =
          taking_leads settings m p is_new d count (15, 0) (1, place_address (areas.Inside d)) rows sound own are some (inside_ends d goes) (inside_free d goes) formed
      leads_at (areas.Fresh page) is_new rows goes own are formed =
          let all : List (ℕ × ℕ) = (15, 0) ∷ (1, place_address (areas.Fresh page)) ∷ rows in
          let P : List Record → Type 0 = λ rs.
          Leads settings m (change_of rs 5 (run_of page (pages_for count))) (with_registers (with_area (with_new s p is_new) p count (Fresh page)) all) in
          subst P (append_assoc (own_records p is_new) (take_fresh_records p page count) (register_records m all))
          (taking_fresh_leads settings m p is_new page count all sound own are some (fresh_ends page goes) (fresh_unassigned page goes) formed)

      pages_unassigned : (x : AreaPlace) → Goes (IsOf settings) s p count (spacing o.boundary) (place_of (Some x)) → (k : ℕ) → inside k (place_pages count x) ≡ true → m.unassigned k ≡ true
      pages_unassigned (areas.Inside d) goes k own = none_fresh m k own
      pages_unassigned (areas.Fresh page) goes k own = fresh_unassigned page goes k own

-- what was found for a request, at valid settings
module _ (settings : Settings) (names_full : Bool) (m : StorageState) (o : Obtain) (found : FoundArea) (valid : settings_valid settings ≡ true)
    (is : IsFound settings names_full m o found) where
  abbrev own : Subpool
  own = seen_or_own (model_of m) o.number

  abbrev goes : Place
  goes = place_of (Some found.place)

  abbrev others : List (ℕ × ℕ)
  others = other_registers o.lengths o.register (place_address found.place) (8 * found.count)

  -- the state after the request
  abbrev after : State
  after = with_registers (with_area (with_new (model_of m) own found.is_new) own found.count goes) ((15, 0) ∷ (1, place_address found.place) ∷ others)

  some : 0 < found.count
  some =
      let may = obtain_allowed settings names_full (model_of m) o is.none in
      let same : may.count ≡ found.count = same_some may.count found.count (sym may.found ∙ is.count) in
      let least = may.least in
      let asked = may.some in
      omega (arith, same, least, asked)

  -- the address and the length are words, and there is a doubleword
  pub in_words : (place_address found.place < 2 ^ 32) × (0 < found.count) × (found.count < 2 ^ 29)
  in_words =
      let words = place_in_words settings (model_of m) own found.count (spacing o.boundary) goes valid some
      (goes_at settings m o valid found.count some goes is.place) (is_somewhere found.place) in
      let length = words.1 in
      (words.0, some, omega (arith, length))

  accepted : IsSound settings m → step settings names_full (model_of m) (obtain o) ≡ Accepted after (Obtained (place_address found.place) (8 * found.count))
  accepted sound =
      let x = obtain o in
      let outcome : State → ℕ → Place → Stepped = λ t count z. replied x (with_area t own count z, Obtained (address_of z) (8 * count)) in
      ap (answered settings (model_of m) x) is.none
      ∙ ap (λ (f : Option ℕ). outcome (with_own (model_of m) o.number) (unwrap_or f 0) (place_for settings (model_of m) o (unwrap_or f 0))) is.count
      ∙ ap (outcome (with_own (model_of m) o.number) found.count) (sym is.place)
      ∙ ap (λ (t : State). outcome t found.count goes) (made settings m o sound found.is_new is.is_new)

  pub obtain_carried_out : IsSound settings m → IfSome o.register (λ r. r < 16) → (plan : StoragePlan) → plan.emptied ≡ None → plan.records.now.items ≡ obtain_records m found o →
      plan.blanks ≡ place_blanks found.place → plan.fresh ≡ place_pages found.count found.place →
      plan.reply ≡ Obtained (place_address found.place) (8 * found.count) → CarriesOut settings names_full m (obtain o) plan
  obtain_carried_out sound register plan emptied records blanks fresh reply =
      let its = goes_at settings m o valid found.count some goes is.place in
      let may = obtain_allowed settings names_full (model_of m) o is.none in
      let formed = obtain_leaves_well_formed settings names_full (model_of m) after o (Obtained (place_address found.place) (8 * found.count)) valid (is_register o.register register)
      sound.well_formed (accepted sound) in
      let leads = leads_at settings m o valid found.count some sound found.place found.is_new others its (can_own settings m o sound found.is_new is.is_new may.private)
      (are_registers o.lengths o.register (place_address found.place) (8 * found.count) register) formed in
      carries_out settings names_full m (obtain o) plan (own_records own found.is_new ++ granted_records m own found.count found.place others)
      (place_blanks found.place) (place_pages found.count found.place) after
      emptied (records ∙ ap (λ (p : Subpool). own_records p found.is_new ++ granted_records m p found.count found.place others) is.subpool) blanks fresh
      (accepted sound ∙ ap (λ r. Accepted after r) (sym reply)) leads (few_blanks found.place)
      (pages_in_range settings m o valid found.count some found.place its) (pages_unassigned settings m o valid found.count some sound found.place its)
      (granted_assigns _ m own found.is_new found.count found.place others)
