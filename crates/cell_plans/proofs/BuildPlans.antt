-- The plan of a new cell pool leads to what BUILD leaves, or it's refused for the first cause.
use Rattle.std.proofs.Common.{◌≡◌, ℕ, ◌+◌, ◌*◌, ◌<◌, ◌≤◌, ◌^◌, Bool, true, false, not, ◌&&◌, nat_le, is_some, IfSome, Option, Some, None, List, [], ◌∷◌, ◌++◌, length, refl, sym, ap, ◌∙◌, subst, arith}
use Rattle.std.specs.Prelude.{unwrap_or, option_map, Ok}
use Rattle.std.proofs.Math.Logic.{∥∥₁_map}
use Rattle.std.proofs.Math.Nat.{mul-pos, mul-le-mul_left}
use Rattle.std.proofs.lemmas.Bool.{and_parts, cond-false, cond-true, not-false, not-true}
use Rattle.run_set.specs.Runs.{Run, inside}
use Rattle.vsm_model.specs.declared.Subpool.{Subpool}
use Rattle.vsm_model.specs.declared.causes.Cause.{Cause}
use Rattle.vsm_model.specs.declared.causes.Cause.TheVariants.{BadCells, CellPoolExists, TooManyCellPools, NoStorage}
use Rattle.vsm_model.specs.declared.limits.Residence.{Residence}
use Rattle.vsm_model.specs.declared.limits.Settings.{Settings}
use Rattle.vsm_model.specs.declared.replies.Reply.{Reply}
use Rattle.vsm_model.specs.declared.replies.Reply.TheVariants.{Obtained}
use Rattle.vsm_model.specs.declared.services.Build.{Build}
use Rattle.vsm_model.specs.Regions.{regions_for, settings_valid, side, doublewords}
use Rattle.vsm_model.specs.CellPools.{CellPool, cell_pool_in, with_extent}
use Rattle.vsm_model.specs.State.{State}
use Rattle.vsm_model.specs.Subpools.{seen_or_own, sees_one, with_own, with_subpool}
use Rattle.vsm_model.specs.Areas.{Place, place, is_nowhere, address_of}
use Rattle.vsm_model.specs.Causes.{Causes, first_cause}
use Rattle.vsm_model.specs.Cells.{are_cells, secondary_count, build_causes, extent_place, extent_at, new_pool, with_pool}
use Rattle.vsm_model.specs.Obtaining.{with_area}
use Rattle.vsm_model.specs.Registers.{with_registers}
use Rattle.vsm_model.specs.Services.{build}
use Rattle.vsm_model.specs.Standing.{Accepted}
use Rattle.vsm_model.specs.Standing as outcome
use Rattle.vsm_model.specs.Step.{answered, replied, step}
use Rattle.vsm_model.proofs.Chosen.{Stepped}
use Rattle.service_laws.specs.CellKept.{BuildLeavesWellFormed}
use Rattle.service_laws.proofs.CellLists.{cell_bounds}
use Rattle.service_laws.proofs.Cases.{none_from, some_from}
use Rattle.cell_pool.specs.declared.settings.CellSettings.{CellSettings}
use Rattle.cell_pool.specs.Pools.{Pool}
use Rattle.storage_changes.specs.NamedPools.{AreNamed}
use Rattle.storage_changes.specs.PoolTable.{cell_pool_of}
use Rattle.subpool_storage.specs.Subpools.{is_there, built_pool}
use Rattle.storage_changes.specs.State.{StorageState}
use Rattle.storage_changes.specs.Changes.{Change, change_of, change_building}
use Rattle.storage_changes.specs.Meaning.{model_of, IsSound}
use Rattle.storage_changes.specs.StorageActions.{own_records, register_records}
use Rattle.storage_changes.specs.Leads.{CanOwn, Leads, with_new}
use Rattle.storage_changes.specs.CellActions.{area_records, area_blanks, area_pages}
use Rattle.storage_changes.specs.CellLaws.{BuildingLeads}
use Rattle.storage_plans.specs.declared.places.AreaPlace.{AreaPlace}
use Rattle.storage_plans.specs.declared.places.AreaPlace.TheVariants as areas
use Rattle.storage_plans.specs.ObtainPlans.{place_address, place_blanks, place_pages, place_records}
use Rattle.storage_plans.specs.Places.{place_of}
use Rattle.storage_plans.specs.Plans.{Assigns, IsAccepted}
use Rattle.storage_plans.proofs.Assigning.{own_assigns, registers_keep}
use Rattle.storage_plans.proofs.AskedLengths.{is_somewhere, number_allowed, skip}
use Rattle.storage_plans.proofs.Carried.{no_registers, register_and}
use Rattle.cell_plans.specs.declared.build.BuildPlan.{BuildPlan}
use Rattle.cell_plans.specs.CellPlans.{IsBuildPlanned, IsOpen, CanBeBuilt, build_change}
use Rattle.cell_plans.proofs.ExtentPlaces.{are_unassigned, ends_in_storage, few_blanks, has_room, in_range, in_words}
use Rattle.cell_plans.proofs.PoolCells.{cells_same}

-- The causes of a BUILD.
module _ (settings : Settings) (s : State) (name : List ℕ) (header : Option (List ℕ)) (b : Build) where
  abbrev fits : Bool
  fits = are_cells b.size b.primary && are_cells b.size (secondary_count b)

  abbrev exists : Bool
  exists = is_some (cell_pool_in s.cell_pools name)

  abbrev full : Bool
  full = nat_le 256 (length s.cell_pools)

  abbrev goes : Place
  goes = extent_place settings s (new_pool settings s header b) b.primary

  abbrev fourth : Causes
  fourth = (is_nowhere goes, NoStorage) ∷ []

  abbrev third : Causes
  third = (full, TooManyCellPools) ∷ fourth

  abbrev second : Causes
  second = (exists, CellPoolExists) ∷ third

  behind_cells : b.number ≤ 127 → fits ≡ true → first_cause (build_causes settings s name header b) ≡ first_cause second
  behind_cells allowed e = number_allowed b.number ((not fits, BadCells) ∷ second) allowed ∙ skip (not fits) BadCells second (ap not e)

  behind_name : b.number ≤ 127 → fits ≡ true → exists ≡ false → first_cause (build_causes settings s name header b) ≡ first_cause third
  behind_name allowed cells e = behind_cells allowed cells ∙ skip exists CellPoolExists third e

  behind_count : b.number ≤ 127 → fits ≡ true → exists ≡ false → full ≡ false → first_cause (build_causes settings s name header b) ≡ first_cause fourth
  behind_count allowed cells new e = behind_name allowed cells new ∙ skip full TooManyCellPools fourth e

  no_cause : b.number ≤ 127 → fits ≡ true → exists ≡ false → full ≡ false → is_nowhere goes ≡ false → first_cause (build_causes settings s name header b) ≡ None
  no_cause allowed cells new few e = behind_count allowed cells new few ∙ skip (is_nowhere goes) NoStorage [] e

  -- a BUILD with a cause is refused
  pub refused : (names_full : Bool) (cause : Cause) → first_cause (build_causes settings s name header b) ≡ Some cause → step settings names_full s (build name header b) ≡ outcome.Refused cause
  refused names_full cause e = ap (answered settings s (build name header b)) e

  -- where the first extent is placed
  pub goes_is : (sd : Residence) (p : Subpool) (n : ℕ) → sd ≡ side settings b.location → p ≡ seen_or_own s b.number → n ≡ doublewords (b.primary * b.size) →
      place s (regions_for settings sd) p n 1 ≡ goes
  goes_is sd p n is_side is_subpool is_count = λ i. place s (regions_for settings (is_side i)) (is_subpool i) (is_count i) 1

-- the bytes of an extent
bytes_few : (size count : ℕ) → are_cells size count ≡ true → (0 < count * size) × (count * size ≤ 2 ^ 24)
bytes_few size count e =
    let (least, most, some, few) = cell_bounds size count e in
    let pos : 0 < size = omega (arith, least) in
    let wide : count * size ≤ count * 4096 = mul-le-mul_left count most in
    (mul-pos some pos, omega (arith, wide, few))

-- those of the first one, and their doublewords
pub first_few : (b : Build) → (are_cells b.size b.primary && are_cells b.size (secondary_count b)) ≡ true →
    (b.primary * b.size < 2 ^ 32) × (0 < doublewords (b.primary * b.size)) × (doublewords (b.primary * b.size) ≤ 2 ^ 29)
first_few b e =
    let (some, few) = bytes_few b.size b.primary (and_parts (are_cells b.size b.primary) (are_cells b.size (secondary_count b)) e).0 in
    (omega (arith, few), omega (arith, some), omega (arith, few))

module _ (settings : Settings) (names_full : Bool) (m : StorageState) (name : List ℕ) (header : Option (List ℕ)) (b : Build) (valid : settings_valid settings ≡ true)
    (can : IsOpen m name b) where
  abbrev t : State
  t = model_of m

  abbrev own : Subpool
  own = seen_or_own t b.number

  abbrev count : ℕ
  count = doublewords (b.primary * b.size)

  -- what the cell pool is built with
  abbrev pub built_with : CellSettings
  built_with = record { subpool = own; size = b.size; primary = b.primary; secondary = secondary_count b; location = side settings b.location }

  abbrev asked : CellPool
  asked = new_pool settings t header b

  some : 0 < count
  some = (first_few b can.cells).1

  -- With a place for the first extent, and a subpool that exists or is made first.
  module _ (x : AreaPlace) (is_new : Bool) (at : place_of (Some x) ≡ extent_place settings t asked b.primary) (new : is_new ≡ not (sees_one t b.number)) where
    abbrev stands : Place
    stands = place_of (Some x)

    -- the cell pool under an id
    abbrev pool : ℕ → Pool
    pool id = built_pool id name built_with header (place_address x) b.primary

    abbrev rows : List (ℕ × ℕ)
    rows = (15, 0) ∷ []

    abbrev after : State
    after = with_registers (with_pool (with_area (with_new t own is_new) own count stands) name (cell_pool_of (pool 0))) rows

    pool_is : with_extent asked (extent_at stands b.primary) ≡ cell_pool_of (pool 0)
    pool_is = λ i. record (cell_pool_of (pool 0)) { free = sym (cells_same b.size (place_address x) b.primary) i }

    owner_new : sees_one t b.number ≡ false → own.owner ≡ t.current
    owner_new e = ap (λ seen. unwrap_or seen t.current) (none_from (t.sight t.current b.number) e)

    made : (new : Bool) → new ≡ not (sees_one t b.number) → with_own t b.number ≡ with_new t own new
    made true e =
        let none = not-true (sees_one t b.number) (sym e) in
        cond-false (sees_one t b.number) t (with_subpool t b.number t.current) none ∙ ap (λ owner. with_subpool t b.number owner) (sym (owner_new none))
    made false e = cond-true (sees_one t b.number) t (with_subpool t b.number t.current) (not-false (sees_one t b.number) (sym e))

    accepted : step settings names_full t (build name header b) ≡ Accepted after (Obtained (place_address x) (8 * count))
    accepted =
        let y = build name header b in
        let with : State → Place → CellPool → Stepped = λ u g q. replied y (with_pool (with_area u own count g) name q, Obtained (address_of g) (8 * count)) in
        ap (answered settings t y) (no_cause settings t name header b can.allowed can.cells can.none can.few (ap is_nowhere (sym at) ∙ is_somewhere x))
        ∙ ap (λ (g : Place). with (with_own t b.number) g (with_extent asked (extent_at g b.primary))) (sym at)
        ∙ ap (λ (q : CellPool). with (with_own t b.number) stands q) pool_is
        ∙ ap (λ (u : State). with u stands (cell_pool_of (pool 0))) (made is_new new)

    pub place_in_words : (place_address x < 2 ^ 32) × (0 < count) × (count < 2 ^ 29)
    place_in_words = in_words settings m own (side settings b.location) count valid some x at

    -- the extent ends in storage
    high : place_address x + b.primary * b.size ≤ 2 ^ 32
    high = let end = ends_in_storage settings m own (side settings b.location) count valid some x at in omega (arith, end)

    module _ (sound : IsSound settings m) where
      can_own : (new : Bool) → new ≡ not (sees_one t b.number) → CanOwn m own new
      can_own true e =
          let none = not-true (sees_one t b.number) (sym e) in
          (owner_new none, can.allowed, ap (λ owner. m.subpools.sight owner b.number) (owner_new none) ∙ none_from (t.sight t.current b.number) none)
      can_own false e =
          let (owner, seen) = some_from (t.sight t.current b.number) (not-false (sees_one t b.number) (sym e)) in
          ap (λ owner. is_there m.subpools (record { number = b.number; owner = owner })) (ap (λ seen. unwrap_or seen t.current) seen)
          ∙ sound.well_formed.sight.seen_is_there t.current b.number owner seen

      -- the records of the place are those of the area
      same_change : (x : AreaPlace) → change_of (own_records own is_new ++ area_records own count (place_of (Some x)) ++ register_records m rows) (area_blanks (place_of (Some x))) (area_pages count (place_of (Some x)))
          ≡ change_of (own_records own is_new ++ place_records own count x ++ register_records m rows) (place_blanks x) (place_pages count x)
      same_change (areas.Inside d) = refl
      same_change (areas.Fresh page) = refl

      module _ (leads : BuildingLeads) (kept : BuildLeavesWellFormed) (named : AreNamed m.subpools.cells) (id : ℕ) (low : id < 2 ^ 32) (absent : m.subpools.cells id ≡ None) where
        abbrev change : Change
        change = change_building (pool id) (change_of (own_records own is_new ++ place_records own count x ++ register_records m rows) (place_blanks x) (place_pages count x))

        led : Leads settings m change after
        led =
            let bounds = cell_bounds b.size b.primary (and_parts (are_cells b.size b.primary) (are_cells b.size (secondary_count b)) can.cells).0 in
            let size = bounds.0 in
            let few = bounds.2 in
            let to : Change → Type 0 = λ d. Leads settings m (change_building (pool id) d) after in
            subst to (same_change x)
            (leads settings m (pool id) is_new b.primary stands rows sound named absent low can.unnamed (can_own is_new new) (omega (arith, few)) (omega (arith, size)) refl refl
            (has_room settings m own (side settings b.location) count valid some x at sound) (register_and 15 0 [] (omega arith) no_registers)
            (kept settings names_full t after name header b (Obtained (place_address x) (8 * count)) sound.well_formed accepted))

        carried : IsAccepted settings names_full m (build name header b) change (Obtained (place_address x) (8 * count))
        carried =
            let its = led in
            record {
              accepted = accepted ∙ ap (λ (u : State). Accepted u (Obtained (place_address x) (8 * count))) (sym its.leads);
              fits = its.fits;
              sound = its.sound;
            }

    -- A plan with these parts.
    module _ (plan : BuildPlan) (given : CellSettings) (is_given : given ≡ built_with) (is_name : plan.name.now ≡ name) (is_header : option_map (λ text. text.now) plan.header ≡ header)
        (short_name : length name ≤ 63) (short_header : IfSome plan.header (λ text. length text.now ≤ 24))
        (is_settings : plan.settings ≡ given) (is_start : plan.start ≡ place_address x)
        (is_records : plan.records.now.items ≡ own_records given.subpool is_new ++ place_records given.subpool (doublewords (given.primary * given.size)) x ++ register_records m rows)
        (is_blanks : plan.blanks ≡ place_blanks x) (is_fresh : plan.fresh ≡ place_pages (doublewords (given.primary * given.size)) x)
        (is_reply : plan.reply ≡ Obtained (place_address x) (8 * doublewords (given.primary * given.size))) where
      with_these : plan.settings ≡ built_with
      with_these = is_settings ∙ is_given

      records_are : plan.records.now.items ≡ own_records own is_new ++ place_records own count x ++ register_records m rows
      records_are =
          is_records ∙ ap (λ (g : CellSettings). own_records g.subpool is_new ++ place_records g.subpool (doublewords (g.primary * g.size)) x ++ register_records m rows) is_given

      fresh_is : plan.fresh ≡ place_pages count x
      fresh_is = is_fresh ∙ ap (λ (g : CellSettings). place_pages (doublewords (g.primary * g.size)) x) is_given

      reply_is : plan.reply ≡ Obtained (place_address x) (8 * count)
      reply_is = is_reply ∙ ap (λ (g : CellSettings). Obtained (place_address x) (8 * doublewords (g.primary * g.size))) is_given

      abbrev its_change : ℕ → Change
      its_change id = change_building (pool id) (change_of (own_records own is_new ++ place_records own count x ++ register_records m rows) (place_blanks x) (place_pages count x))

      change_is : (id : ℕ) → build_change plan id ≡ its_change id
      change_is id = λ i. change_building (built_pool id (is_name i) (with_these i) (is_header i) (is_start i) (with_these i).primary) (change_of (records_are i) (is_blanks i) (fresh_is i))

      can_be_built : ∥ IsSound settings m ∥₁ → CanBeBuilt m plan
      can_be_built sound =
          let bounds = cell_bounds b.size b.primary (and_parts (are_cells b.size b.primary) (are_cells b.size (secondary_count b)) can.cells).0 in
          let least_count : 0 < b.primary = (let count = bounds.2 in omega (arith, count)) in
          let least : 0 < b.size = (let size = bounds.0 in omega (arith, size)) in
          let most : b.primary ≤ 2 ^ 12 = (let few = bounds.3 in omega (arith, few)) in
          record {
            name = subst (λ (n : List ℕ). length n ≤ 63) (sym is_name) short_name;
            header = short_header;
            some = subst (λ (g : CellSettings). 0 < g.primary) (sym with_these) least_count;
            size = subst (λ (g : CellSettings). 0 < g.size) (sym with_these) least;
            count = subst (λ (g : CellSettings). g.primary ≤ 2 ^ 12) (sym with_these) most;
            high = subst (λ (n : ℕ). n + plan.settings.primary * plan.settings.size ≤ 2 ^ 32) (sym is_start)
                (subst (λ (g : CellSettings). place_address x + g.primary * g.size ≤ 2 ^ 32) (sym with_these) high);
            few = subst (λ (n : ℕ). n ≤ 5) (sym is_blanks) (few_blanks x);
            range = subst (λ (r : Run). r.start + r.len ≤ 2 ^ 20) (sym fresh_is) (in_range settings m own (side settings b.location) count valid some x at);
            unassigned = subst (λ (r : Run). (page : ℕ) → inside page r ≡ true → m.unassigned page ≡ true) (sym fresh_is)
                (are_unassigned settings m own (side settings b.location) count valid some x at sound);
          }

      its_accepted : outcome.IsAccepted (step settings names_full t (build name header b))
      its_accepted = let is : Stepped → Type 0 = λ o. outcome.IsAccepted o in subst is (sym accepted) tt

      pub planned : BuildingLeads → BuildLeavesWellFormed → AreNamed m.subpools.cells → ∥ IsSound settings m ∥₁ → IsBuildPlanned settings names_full m (build name header b) (Ok plan)
      planned leads kept named sound = (
        its_accepted,
        (λ id low absent. ∥∥₁_map sound (λ h.
            let is : Change → Reply → Type 0 = λ d r. IsAccepted settings names_full m (build name header b) d r in
            subst (λ (r : Reply). is (build_change plan id) r) (sym reply_is)
            (subst (λ (d : Change). is d (Obtained (place_address x) (8 * count))) (sym (change_is id)) (carried h leads kept named id low absent)))),
        can_be_built sound,
        omega (arith, ap (λ (g : CellSettings). g.primary) with_these),
        (λ id.
            subst (λ (d : Change). Assigns m d plan.fresh) (sym (change_is id))
            (subst (λ (r : Run). Assigns m (its_change id) r) (sym fresh_is)
            (own_assigns _ own is_new count x (register_records m rows) (registers_keep m rows)))),
      )
