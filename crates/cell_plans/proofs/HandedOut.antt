-- A cell that is handed out, and why none is.
use Rattle.std.proofs.Common.{◌≡◌, ℕ, suc, ◌+◌, ◌*◌, ◌<◌, ◌≤◌, ◌^◌, Bool, true, false, not, ◌&&◌, ◌||◌, ◌==◌, if◌then◌else◌, Option, Some, None, IfSome, Ok, List, [], ◌∷◌, ◌++◌, length, slice_get, refl, sym, ap, ◌∙◌, subst, arith}
use Rattle.std.specs.Prelude.{drop, unwrap_or}
use Rattle.std.proofs.Math.Logic.{∥∥₁_map}
use Rattle.std.proofs.Math.Nat.{mul-le-mul}
use Rattle.std.proofs.lemmas.Bool.{cond-false, cond-true, ne_eqb}
use Rattle.std.proofs.lemmas.List.{append_assoc}
use Rattle.vsm_model.specs.declared.causes.Cause.{Cause}
use Rattle.vsm_model.specs.declared.causes.Cause.TheVariants.{NoCellPool, NoStorage, TooManyNames}
use Rattle.vsm_model.specs.declared.limits.Settings.{Settings}
use Rattle.vsm_model.specs.declared.replies.Reply.{Reply}
use Rattle.vsm_model.specs.declared.replies.Reply.TheVariants.{Cell, Returned}
use Rattle.vsm_model.specs.declared.services.Get.{Get}
use Rattle.vsm_model.specs.Areas.{Place, address_of, is_nowhere, place}
use Rattle.vsm_model.specs.Causes.{Causes, answers_four, first_cause}
use Rattle.vsm_model.specs.Cells.{extent_at, extent_place, get_causes, got, handed_out, has_no_cell, pool_of, sees_pool, with_extent_area, with_pool}
use Rattle.vsm_model.specs.CellPools.{CellPool, cell_pool_in, with_extent}
use Rattle.vsm_model.specs.Regions.{doublewords, regions_for, settings_valid}
use Rattle.vsm_model.specs.Registers.{with_registers}
use Rattle.vsm_model.specs.Services.{Service, get}
use Rattle.vsm_model.specs.Standing.{Accepted, Refused}
use Rattle.vsm_model.specs.State.{State}
use Rattle.vsm_model.specs.Step.{answered, replied, step}
use Rattle.vsm_model.proofs.Chosen.{Stepped}
use Rattle.service_laws.specs.CellKept.{GetLeavesWellFormed}
use Rattle.service_laws.proofs.CellLists.{some_doublewords}
use Rattle.cell_pool.specs.declared.settings.CellSettings.{CellSettings}
use Rattle.cell_pool.specs.Pools.{Pool, extended}
use Rattle.storage_changes.specs.NamedPools.{AreNamed}
use Rattle.storage_changes.specs.PoolTable.{cell_pool_of}
use Rattle.storage_changes.specs.Changes.{change_of, outset}
use Rattle.storage_changes.specs.Steps.{walk}
use Rattle.storage_changes.specs.Walk.{Walk}
use Rattle.storage_changes.specs.Meaning.{model_of, IsSound}
use Rattle.storage_changes.specs.State.{StorageState}
use Rattle.storage_changes.specs.declared.record.Record.{Record}
use Rattle.storage_changes.specs.StorageActions.{register_records, run_of}
use Rattle.storage_changes.specs.Leads.{AreRegisters}
use Rattle.storage_changes.proofs.Rows.{none_fresh}
use Rattle.storage_plans.specs.ObtainPlans.{place_address, place_blanks, place_pages, place_records}
use Rattle.storage_plans.specs.Places.{place_of}
use Rattle.storage_plans.specs.declared.places.AreaPlace.{AreaPlace}
use Rattle.storage_plans.specs.declared.plan.StoragePlan.{StoragePlan}
use Rattle.storage_plans.proofs.AskedLengths.{is_somewhere, skip, stop}
use Rattle.storage_plans.proofs.Assigning.{none_assigned, place_assigns, registers_keep}
use Rattle.storage_plans.proofs.Carried.{four_carried_out, no_registers, register_and}
use Rattle.storage_changes.specs.CellActions.{area_blanks, area_pages, area_records, doublewords_for, extent_blanks, extent_records, handed_out_records, with_extended, with_handed_out}
use Rattle.storage_changes.specs.CellLaws.{ExtendingLeads, HandingOutLeads}
use Rattle.storage_changes.proofs.CellExtents.{first_free}
use Rattle.cell_plans.specs.CellPlans.{cells_weight, further_cells, IsCellPlanned}
use Rattle.cell_plans.specs.Handing.{cell_records, cell_registers, further_records}
use Rattle.cell_plans.specs.Seen.{IsSeen}
use Rattle.cell_plans.proofs.CellsCarried.{accepts, as_accepted, assigns, has_records}
use Rattle.cell_plans.proofs.ExtentPlaces.{are_unassigned, few_blanks, has_room, in_range, in_words, same_blanks, same_pages, same_records}
use Rattle.cell_plans.proofs.PoolCells.{extended_same}
use Rattle.cell_plans.proofs.SeenPools.{bounds, is_sound, pool_is, under_its_id}

-- the first of some cells
pub first_is : (xs : List ℕ) (cell : ℕ) → ◌≡◌ {A = Option ℕ} (Some cell) (slice_get xs 0) → xs ≡ cell ∷ drop 1 xs
first_is [] cell e = absurd (none cell e) where
  none : (cell : ℕ) → ◌≡◌ {A = Option ℕ} (Some cell) None → ⊥
  none cell e = cc
first_is (x ∷ xs) cell e = ap (λ (z : ℕ). z ∷ xs) (sym (same cell x e)) where
  same : (x y : ℕ) → ◌≡◌ {A = Option ℕ} (Some x) (Some y) → x ≡ y
  same x y e = cc

pub none_is : (xs : List ℕ) → ◌≡◌ {A = Option ℕ} None (slice_get xs 0) → xs ≡ []
none_is [] e = refl
none_is (x ∷ xs) e = absurd (some x e) where
  some : (cell : ℕ) → ◌≡◌ {A = Option ℕ} None (Some cell) → ⊥
  some cell e = cc

are_registers : (named : Option ℕ) (cell : ℕ) → IfSome named (λ r. r < 16) → AreRegisters (cell_registers named cell)
are_registers None cell h = register_and 15 0 ((1, cell) ∷ []) (omega arith) (register_and 1 cell [] (omega arith) no_registers)
are_registers (Some n) cell h =
    register_and 15 0 ((1, cell) ∷ (n, cell) ∷ []) (omega arith)
    (register_and 1 cell ((n, cell) ∷ []) (omega arith) (register_and n cell [] h no_registers))

names_a_register : (named : Option ℕ) → IfSome named (λ r. r < 16) → (r : ℕ) → named ≡ Some r → r < 16
names_a_register None h r e = absurd (none r e) where
  none : (r : ℕ) → ◌≡◌ {A = Option ℕ} None (Some r) → ⊥
  none r e = cc
names_a_register (Some n) h r e = let below : ℕ → Type 0 = λ r. r < 16 in subst below (same n r e) h where
  same : (x y : ℕ) → ◌≡◌ {A = Option ℕ} (Some x) (Some y) → x ≡ y
  same x y e = cc

not_four : (conditional : Bool) (x y : Stepped) → (if conditional && false then x else y) ≡ y
not_four true x y = refl
not_four false x y = refl

and_out : (b : Bool) → (b && false) ≡ false
and_out true = refl
and_out false = refl

no_cells : (xs : List ℕ) → xs ≡ [] → (length xs == 0) ≡ true
no_cells xs e = ap (λ (z : List ℕ). length z == 0) e

some_cells : (xs : List ℕ) (cell : ℕ) (rest : List ℕ) → xs ≡ cell ∷ rest → (length xs == 0) ≡ false
some_cells xs cell rest e = ap (λ (z : List ℕ). length z == 0) e ∙ ne_eqb (suc (length rest)) 0 (λ none. omega (arith, none))

-- the bytes of an extent are few
few_bytes : (n size : ℕ) → 1 ≤ n → n ≤ 4096 → 4 ≤ size → size ≤ 4096 → (0 < n * size) × (n * size ≤ 2 ^ 24)
few_bytes n size some few least most =
    let low = mul-le-mul some least in
    let high = mul-le-mul few most in
    (omega (arith, low), omega (arith, high))

module _ (settings : Settings) (names_full : Bool) (m : StorageState) (name : List ℕ) (g : Get) where
  abbrev s : State
  s = model_of m

  abbrev x : Service
  x = get name g

  abbrev goes_for : CellPool → Place
  goes_for pool = extent_place settings s pool pool.secondary

  abbrev storage_rows : CellPool → Causes
  storage_rows pool = (has_no_cell pool && (g.conditional || is_nowhere (goes_for pool)), NoStorage) ∷ []

  abbrev name_rows : CellPool → Causes
  name_rows pool = (names_full, TooManyNames) ∷ storage_rows pool

  by_cause : (cause : Cause) → answers_four cause ≡ false → first_cause (get_causes settings names_full s name g) ≡ Some cause
      → step settings names_full s x ≡ Refused cause
  by_cause cause four first =
      ap (answered settings s x) first
      ∙ ap (λ (b : Bool). if g.conditional && b then replied x (s, Returned 4) else Refused cause) four
      ∙ not_four g.conditional (replied x (s, Returned 4)) (Refused cause)

  module _ (id : ℕ) (p : Pool) (seen : IsSeen m name id p) where
    abbrev q : CellPool
    q = cell_pool_of p

    past_sight : first_cause (get_causes settings names_full s name g) ≡ first_cause (name_rows q)
    past_sight =
        skip (not (sees_pool s name)) NoCellPool (name_rows (pool_of s name)) (ap not seen.seen)
        ∙ ap (λ (pool : CellPool). first_cause (name_rows pool)) (pool_is m name id p seen)

    pub get_full : names_full ≡ true → step settings names_full s x ≡ Refused TooManyNames
    get_full full = by_cause TooManyNames refl (past_sight ∙ stop names_full TooManyNames (storage_rows q) full)

    past_names : names_full ≡ false → first_cause (get_causes settings names_full s name g) ≡ first_cause (storage_rows q)
    past_names fits = past_sight ∙ skip names_full TooManyNames (storage_rows q) fits

    no_cause : names_full ≡ false → (has_no_cell q && (g.conditional || is_nowhere (goes_for q))) ≡ false → first_cause (get_causes settings names_full s name g) ≡ None
    no_cause fits may = past_names fits ∙ skip (has_no_cell q && (g.conditional || is_nowhere (goes_for q))) NoStorage [] may

    no_storage : names_full ≡ false → p.cells ≡ [] → (g.conditional || is_nowhere (goes_for q)) ≡ true
        → first_cause (get_causes settings names_full s name g) ≡ Some NoStorage
    no_storage fits empty none =
        past_names fits
        ∙ stop (has_no_cell q && (g.conditional || is_nowhere (goes_for q))) NoStorage [] (λ i. no_cells p.cells empty i && none i)

    pub get_nowhere : names_full ≡ false → p.cells ≡ [] → g.conditional ≡ false → is_nowhere (goes_for q) ≡ true → step settings names_full s x ≡ Refused NoStorage
    get_nowhere fits empty plain none =
        ap (answered settings s x) (no_storage fits empty ((λ i. plain i || none i)))
        ∙ ap (λ (b : Bool). if b && true then replied x (s, Returned 4) else Refused NoStorage) plain

    -- Of what it was built with:
    module _ (cells : CellSettings) (cells_are : cells ≡ p.settings) where
      -- the numbers are within bounds,
      pub cells_fit : ∥ IsSound settings m ∥₁ → (cells.secondary ≤ 4096) × (0 < cells.secondary * cells.size) × (cells.secondary * cells.size ≤ 2 ^ 24)
      cells_fit sound =
          let fit : CellSettings → Type 0 = λ z. (z.secondary ≤ 4096) × (0 < z.secondary * z.size) × (z.secondary * z.size ≤ 2 ^ 24) in
          let its = bounds m name id p seen settings sound in
          let bytes = few_bytes p.settings.secondary p.settings.size its.2 its.3 its.0 its.1 in
          subst fit (sym cells_are) (its.3, bytes.0, bytes.1)

      -- and the place of an area is that of a further extent.
      pub place_at : (count : ℕ) → count ≡ doublewords (cells.secondary * cells.size) → (o : Option AreaPlace)
          → place_of o ≡ place s (regions_for settings cells.location) cells.subpool count 1 → place_of o ≡ goes_for q
      place_at count is o e =
          e ∙ ap (λ (n : ℕ). place s (regions_for settings cells.location) cells.subpool n 1) is
          ∙ ap (λ (z : CellSettings). place s (regions_for settings z.location) z.subpool (doublewords (z.secondary * z.size)) 1) cells_are

    pub address_is_word : settings_valid settings ≡ true → ∥ IsSound settings m ∥₁ → (to : AreaPlace) → place_of (Some to) ≡ goes_for q → place_address to < 2 ^ 32
    address_is_word valid sound to at =
        let its = bounds m name id p seen settings sound in
        (in_words settings m p.settings.subpool p.settings.location (doublewords_for p p.settings.secondary) valid (some_doublewords q p.settings.secondary its.2 its.0) to at).0

    -- what it does, by the cell pool
    abbrev further : CellPool → Place → State × Reply
    further pool goes = handed_out (with_extent_area s pool pool.secondary goes) name (with_extent pool (extent_at goes pool.secondary))

    abbrev effect_on : CellPool → State × Reply
    effect_on pool = if has_no_cell pool then further pool (goes_for pool) else handed_out s name pool

    -- The first free cell is handed out.
    module _ (cell : ℕ) (rest : List ℕ) (first : p.cells ≡ cell ∷ rest) where
      abbrev after_first : State
      after_first = with_registers (with_handed_out s p) (cell_registers g.register cell)

      first_out : got settings s name ≡ (with_handed_out s p, Cell cell)
      first_out =
          let out : List ℕ → List ℕ → State × Reply = λ n xs. (with_pool s n (record q { free = drop 1 p.cells }), Cell (unwrap_or (slice_get xs 0) 0)) in
          ap effect_on (pool_is m name id p seen)
          ∙ cond-false (has_no_cell q) (further q (goes_for q)) (handed_out s name q) (some_cells p.cells cell rest first)
          ∙ (λ i. out (sym seen.named i) (first i))

      first_accepted : names_full ≡ false → step settings names_full s x ≡ Accepted after_first (Cell cell)
      first_accepted fits =
          ap (answered settings s x) (no_cause fits (ap (λ (b : Bool). b && (g.conditional || is_nowhere (goes_for q))) (some_cells p.cells cell rest first)))
          ∙ ap (replied x) first_out

      pub first_planned : HandingOutLeads → GetLeavesWellFormed → AreNamed m.subpools.cells → settings_valid settings ≡ true → IfSome g.register (λ r. r < 16)
          → ∥ IsSound settings m ∥₁ → names_full ≡ false → (plan : StoragePlan) → plan.emptied ≡ None → plan.records.now.items ≡ cell_records m id cell g.register → plan.blanks ≡ 0
          → plan.fresh ≡ run_of 0 0 → plan.reply ≡ Cell cell → IsCellPlanned settings names_full m x (Ok plan)
      first_planned leads formed named valid register sound fits plan is_emptied is_records is_blanks is_fresh is_reply =
          let rows = cell_registers g.register cell in
          let records = cell_records m p.id cell g.register in
          let with_id = is_records ∙ ap (λ (n : ℕ). cell_records m n cell g.register) (sym seen.id_is) in
          let outcome : Reply → Stepped = λ reply. Accepted after_first reply in (
            ∥∥₁_map sound (λ h. accepts settings names_full m x plan records 0 (run_of 0 0) is_emptied with_id is_blanks is_fresh after_first
                (first_accepted fits ∙ ap outcome (sym is_reply))
                (leads settings m p cell rest rows h named (under_its_id m name id p seen) first (are_registers g.register cell register)
                (formed settings names_full s after_first name g (Cell cell) valid (names_a_register g.register register) h.well_formed (first_accepted fits)))),
            has_records settings names_full m x plan records 0 (run_of 0 0) is_emptied with_id is_blanks is_fresh (omega arith) (omega arith) (none_fresh m),
            record { none = is_emptied; few = omega (arith, is_blanks) },
            assigns settings names_full m x plan records 0 (run_of 0 0) is_emptied with_id is_blanks is_fresh (none_assigned _),
          )

    -- None is free, and the conditional form returns 4.
    pub four_planned : ∥ IsSound settings m ∥₁ → names_full ≡ false → p.cells ≡ [] → g.conditional ≡ true → (plan : StoragePlan) → plan.emptied ≡ None
        → plan.records.now.items ≡ register_records m ((15, 4) ∷ []) → plan.blanks ≡ 0 → plan.fresh ≡ run_of 0 0 → plan.reply ≡ Returned 4 → IsCellPlanned settings names_full m x (Ok plan)
    four_planned sound fits empty conditional plan is_emptied is_records is_blanks is_fresh is_reply = (
      ∥∥₁_map sound (λ h. as_accepted settings names_full m x plan
          (four_carried_out settings names_full m x NoStorage plan h
          (no_storage fits empty (ap (λ (b : Bool). b || is_nowhere (goes_for q)) conditional)) conditional refl is_emptied is_records is_blanks is_fresh is_reply)),
      has_records settings names_full m x plan (register_records m ((15, 4) ∷ [])) 0 (run_of 0 0) is_emptied is_records is_blanks is_fresh (omega arith) (omega arith) (none_fresh m),
      record { none = is_emptied; few = omega (arith, is_blanks) },
      assigns settings names_full m x plan (register_records m ((15, 4) ∷ [])) 0 (run_of 0 0) is_emptied is_records is_blanks is_fresh (none_assigned _),
    )

    -- None is free, and a further extent has a place.
    module _ (empty : p.cells ≡ []) (plain : g.conditional ≡ false) (to : AreaPlace) (at : place_of (Some to) ≡ goes_for q) (sound : ∥ IsSound settings m ∥₁) where
      abbrev goes : Place
      goes = place_of (Some to)

      abbrev count : ℕ
      count = p.settings.secondary

      abbrev grown : Pool
      grown = extended (address_of goes) count p

      abbrev after_further : State
      after_further = with_registers (with_extended s p count goes) (cell_registers g.register (address_of goes))

      some_count : 0 < count
      some_count = let least = (bounds m name id p seen settings sound).2 in omega (arith, least)

      some_size : 0 < p.settings.size
      some_size = let least = (bounds m name id p seen settings sound).0 in omega (arith, least)

      further_out : got settings s name ≡ (with_extended s p count goes, Cell (address_of goes))
      further_out =
          let out : List ℕ → CellPool → State × Reply =
          λ n pool. (with_pool (with_extent_area s q count goes) n (record pool { free = drop 1 pool.free }), Cell (unwrap_or (slice_get pool.free 0) 0)) in
          let reply : List ℕ → State × Reply =
          λ xs. (with_extended s p count goes, Cell (unwrap_or (slice_get xs 0) 0)) in
          ap effect_on (pool_is m name id p seen)
          ∙ cond-true (has_no_cell q) (further q (goes_for q)) (handed_out s name q) (no_cells p.cells empty)
          ∙ ap (further q) (sym at)
          ∙ (λ i. out (sym seen.named i) (sym (extended_same p (address_of goes) count) i))
          ∙ ap reply (first_free p (address_of goes) count empty some_count some_size)

      somewhere : is_nowhere (goes_for q) ≡ false
      somewhere = ap is_nowhere (sym at) ∙ is_somewhere to

      further_accepted : names_full ≡ false → step settings names_full s x ≡ Accepted after_further (Cell (address_of goes))
      further_accepted fits =
          ap (answered settings s x) (no_cause fits (λ i. no_cells p.cells empty i && (plain i || somewhere i)))
          ∙ ap (replied x) further_out

      some_area : 0 < doublewords_for p count
      some_area = some_doublewords q count some_count (bounds m name id p seen settings sound).0

      few : place_blanks to + extent_blanks count ≤ 2 ^ 13
      few =
          let most = (bounds m name id p seen settings sound).3 in
          let area = few_blanks to in
          omega (arith, most, area)

      weight_is : cells_weight m x ≡ count
      weight_is =
          ap (λ (b : Bool). if b then 0 else further_cells (cell_pool_in s.cell_pools name)) plain
          ∙ ap further_cells seen.row
          ∙ cond-true (has_no_cell q) q.secondary 0 (no_cells p.cells empty)

      light : (blanks : ℕ) → blanks ≡ place_blanks to + extent_blanks count → blanks ≤ 7 + 8 * cells_weight m x
      light blanks is = let area = few_blanks to in omega (arith, is, area, weight_is)

      pub further_planned : ExtendingLeads → GetLeavesWellFormed → AreNamed m.subpools.cells → settings_valid settings ≡ true → IfSome g.register (λ r. r < 16) → names_full ≡ false
          → (cells : CellSettings) → cells ≡ p.settings → (plan : StoragePlan) → plan.emptied ≡ None → plan.records.now.items ≡ further_records m id cells to g.register
          → plan.blanks ≡ place_blanks to + extent_blanks cells.secondary → plan.fresh ≡ place_pages (doublewords (cells.secondary * cells.size)) to
          → plan.reply ≡ Cell (place_address to) → IsCellPlanned settings names_full m x (Ok plan)
      further_planned leads formed named valid register fits cells cells_are plan is_emptied is_records is_blanks is_fresh is_reply =
          let rows = cell_registers g.register (address_of goes) in
          let length = doublewords_for p count in
          let extent : List Record = extent_records p.id (address_of goes) count in
          let cell : List Record = handed_out_records p.id (address_of goes) in
          let registers : List Record = register_records m rows in
          let behind : List Record → List Record = λ area. area ++ extent ++ cell ++ registers in
          let records : List Record = behind (area_records p.settings.subpool length goes) in
          let as_records : plan.records.now.items ≡ records =
          is_records ∙ (λ i. further_records m (sym seen.id_is i) (cells_are i) to g.register)
          ∙ sym (append_assoc (place_records p.settings.subpool length to ++ extent) cell registers)
          ∙ ap behind (same_records p.settings.subpool length to) in
          let as_blanks : plan.blanks ≡ area_blanks goes + extent_blanks count =
          is_blanks ∙ (λ i. place_blanks to + extent_blanks (cells_are i).secondary) ∙ ap (λ (n : ℕ). n + extent_blanks count) (same_blanks to) in
          let from_place : plan.fresh ≡ place_pages length to = is_fresh ∙ (λ i. place_pages (doublewords ((cells_are i).secondary * (cells_are i).size)) to) in
          let as_fresh : plan.fresh ≡ area_pages length goes = from_place ∙ same_pages length to in
          let from_blanks : plan.blanks ≡ place_blanks to + extent_blanks count = is_blanks ∙ (λ i. place_blanks to + extent_blanks (cells_are i).secondary) in
          let area : List Record = place_records p.settings.subpool length to in
          let behind_extent : List Record = cell_records m p.id (place_address to) g.register in
          let begin : Walk = outset m (change_of (further_records m p.id p.settings to g.register) (place_blanks to + extent_blanks count) (place_pages length to)) in
          let outcome : Reply → Stepped = λ reply. Accepted after_further reply in (
            ∥∥₁_map sound (λ h. accepts settings names_full m x plan records (area_blanks goes + extent_blanks count) (area_pages length goes)
                is_emptied as_records as_blanks as_fresh after_further
                (further_accepted fits ∙ ap outcome (sym is_reply))
                (leads settings m p count goes rows h named (under_its_id m name id p seen) empty some_count some_size (is_sound m name id p seen settings h).has_subpool
                (has_room settings m p.settings.subpool p.settings.location length valid some_area to at h) (are_registers g.register (address_of goes) register)
                (formed settings names_full s after_further name g (Cell (address_of goes)) valid (names_a_register g.register register) h.well_formed (further_accepted fits)))),
            has_records settings names_full m x plan records (place_blanks to + extent_blanks count) (place_pages length to) is_emptied as_records from_blanks from_place
                few (in_range settings m p.settings.subpool p.settings.location length valid some_area to at)
                (are_unassigned settings m p.settings.subpool p.settings.location length valid some_area to at sound),
            record { none = is_emptied; few = light plan.blanks from_blanks },
            assigns settings names_full m x plan (further_records m p.id p.settings to g.register) (place_blanks to + extent_blanks count) (place_pages length to)
                is_emptied (is_records ∙ (λ i. further_records m (sym seen.id_is i) (cells_are i) to g.register)) from_blanks from_place
                (λ k own. subst (λ (rs : List Record). (walk begin rs).state.unassigned k ≡ false) (sym (append_assoc area extent behind_extent))
                (place_assigns begin p.settings.subpool length to (extent ++ behind_extent) (tt, (tt, registers_keep m (cell_registers g.register (place_address to)))) k own)),
          )
