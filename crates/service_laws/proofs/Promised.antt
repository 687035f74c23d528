-- What GET and FREE leave.
use Rattle.std.proofs.Common.{◌≡◌, ◌⊎◌, ℕ, zero, suc, ◌+◌, ◌≤◌, Bool, true, false, not, ◌&&◌, ◌||◌, ◌==◌, if◌then◌else◌, Option, Some, None, List, [], ◌∷◌, ◌++◌, length, drop, slice_get, refl, sym, ◌∙◌, ap, subst, arith, inl, inr, true≢false}
use Rattle.std.specs.Prelude.{Contains, unwrap_or}
use Rattle.std.proofs.lemmas.Bool.{and_parts, or_parts, not-true, not-false, eqb-true}
use Rattle.std.proofs.lemmas.List.Elements.{All-contains_itself}
use Rattle.vsm_model.specs.declared.Subpool.{Subpool}
use Rattle.vsm_model.specs.declared.causes.Cause.{Cause}
use Rattle.vsm_model.specs.declared.causes.Cause.TheVariants.{NoCellPool, NotInUse, TooManyNames, NoStorage}
use Rattle.vsm_model.specs.declared.limits.Settings.{Settings}
use Rattle.vsm_model.specs.declared.replies.Reply.{Reply}
use Rattle.vsm_model.specs.declared.replies.Reply.TheVariants.{Cell, Returned}
use Rattle.vsm_model.specs.declared.services.Get.{Get}
use Rattle.vsm_model.specs.Search.{is_in}
use Rattle.vsm_model.specs.Regions.{regions_for}
use Rattle.vsm_model.specs.CellPools.{CellPool, CellExtent, cell_pool_in, with_cell_pool, cells_from, extent_cells, cells_of, extent_doublewords, with_extent}
use Rattle.vsm_model.specs.State.{State}
use Rattle.vsm_model.specs.Subpools.{sees}
use Rattle.vsm_model.specs.Areas.{Place, is_nowhere, address_of}
use Rattle.vsm_model.specs.Services.{Service, get, free, is_conditional}
use Rattle.vsm_model.specs.Standing.{Accepted, Refused}
use Rattle.vsm_model.specs.Registers.{registers_set, with_register, with_registers, named_register}
use Rattle.vsm_model.specs.Cells.{with_pool, pool_of, sees_pool, has_no_cell, extent_place, extent_at, with_extent_area, handed_out, got, get_causes, is_in_use, free_causes, freed}
use Rattle.vsm_model.specs.Causes.{first_cause, answers_four}
use Rattle.vsm_model.specs.Step.{replied, answered}
use Rattle.vsm_model.specs.WellFormed.{IsWellFormed}
use Rattle.vsm_model.proofs.Chosen.{Stepped, past, no_cause, accepted_has_its_effect}
use Rattle.vsm_model.proofs.Registered.{words_alone}
use Rattle.service_laws.specs.Extents.{AreaIsTaken}
use Rattle.service_laws.specs.CellRegisters.{AddressIsSet}
use Rattle.service_laws.specs.Promises.{HasNoFreeCell, IsSeen, IsFreed, FreeMakesACellFree, IsHandedOut, GetHandsOutACell}
use Rattle.service_laws.proofs.CellTables.{put_found, put_others}
use Rattle.service_laws.proofs.CellLists.{cell_bounds, some_doublewords}
use Rattle.service_laws.proofs.StorageLowest.{place_is_lowest}
use Rattle.service_laws.proofs.Placed.{place_from, area_taken, area_alone, area_table}
use Rattle.service_laws.proofs.Pools.{sound_of, pool_is, held}
use Rattle.service_laws.proofs.Answered.{state_is, reply_is}
use Rattle.service_laws.proofs.Named.{address_in, code_from, address_from}
use Rattle.service_laws.proofs.Registers.{code_is_set, code_is_all}
use Rattle.service_laws.proofs.Getting.{empty_list, get_may}

-- a task that sees a subpool sees it at its number
pub seen_at : (s : State) (p : Subpool) → sees s p ≡ true → s.sight s.current p.number ≡ Some p.owner
seen_at s p e =
    let (owner, is, same) = held (λ owner. owner == p.owner) (s.sight s.current p.number) e in
    is ∙ ap Some (eqb-true owner p.owner same)

pub seen_pool : (s : State) (name : List ℕ) → sees_pool s name ≡ true → IsSeen s name (pool_of s name)
seen_pool s name e =
    let is = pool_is s name e in
    record { found = is.0; seen = seen_at s (pool_of s name).subpool is.1 }

-- a cell pool that is seen, and a cell of it that's in use
pub free_may : (s : State) (name : List ℕ) (cell : ℕ) → first_cause (free_causes s name cell) ≡ None →
    (sees_pool s name ≡ true) × (is_in (cells_of (pool_of s name)) cell ≡ true) × (is_in (pool_of s name).free cell ≡ false)
free_may s name cell none =
    let first = past (not (sees_pool s name)) NoCellPool ((not (is_in_use (pool_of s name) cell), NotInUse) ∷ []) none in
    let second = past (not (is_in_use (pool_of s name) cell)) NotInUse [] first.1 in
    let used = and_parts (is_in (cells_of (pool_of s name)) cell) (not (is_in (pool_of s name).free cell)) (not-false (is_in_use (pool_of s name) cell) second.0) in
    (not-false (sees_pool s name) first.0, used.0, not-true (is_in (pool_of s name).free cell) used.1)

pub free_makes_a_cell_free : FreeMakesACellFree
free_makes_a_cell_free settings names_full s t name cell reply e =
    let done = no_cause settings names_full s t (free name cell) reply refl e in
    let may = free_may s name cell done.0 in
    let its : CellPool = pool_of s name in
    let new : CellPool = record its { free = cell ∷ its.free } in (
      subst (λ t. IsFreed s t name cell) (state_is (free name cell) (freed s name cell) t reply done.1) (record {
        pool = its;
        before = seen_pool s name may.0;
        was_cell = may.1;
        was_in_use = may.2;
        after = put_found s.cell_pools name new;
        others = λ other apart. put_others s.cell_pools name other new apart;
        same = refl;
        registers = code_from s (with_pool s name new) (with_register (with_pool s name new) 15 0) 0 refl refl (code_is_set (with_pool s name new) 0);
      }),
      sym (reply_is (free name cell) (freed s name cell) t reply done.1),
    )

-- a list with a first element
pub first_and_rest : (xs : List ℕ) → (length xs == 0) ≡ false → xs ≡ unwrap_or (slice_get xs 0) 0 ∷ drop 1 xs
first_and_rest [] e = absurd (true≢false e)
first_and_rest (x ∷ xs) e = refl

pub cells_front : (size first count : ℕ) → 1 ≤ count → (rest : List ℕ) × (cells_from size first count ≡ first ∷ rest)
cells_front size first zero some = absurd (omega (arith, some))
cells_front size first (suc count) some = (cells_from size (first + size) count, refl)

-- a state of which only the words change
abbrev worded : State → List (ℕ × ℕ) → State
worded v rows = record v { words = (with_registers v rows).words }

address_worded : (v : State) (named : Option ℕ) (address : ℕ) →
    AddressIsSet v (worded v ((15, 0) ∷ (1, address) ∷ named_register named address)) named address
address_worded v named address =
    let h = address_in v named address in
    record {
      register_1 = h.register_1;
      register_named = h.register_named;
      register_15 = h.register_15;
      other_registers = h.other_registers;
      other_tasks = h.other_tasks;
    }

module _ (settings : Settings) (s : State) (w : IsWellFormed settings s) (name : List ℕ) (g : Get) (sees_it : sees_pool s name ≡ true) where
  abbrev its : CellPool
  its = pool_of s name

  abbrev goes : Place
  goes = extent_place settings s its its.secondary

  abbrev new : CellExtent
  new = extent_at goes its.secondary

  rows : ℕ → List (ℕ × ℕ)
  rows cell = (15, 0) ∷ (1, cell) ∷ named_register g.register cell

  abbrev HandedOut : State × Reply → Type 0
  HandedOut after = (cell : ℕ) × (after.1 ≡ Cell cell) × IsHandedOut settings s (with_registers after.0 (registers_set (get name g) after.1)) name g cell

  as_worded : (v : State) (row : List (ℕ × ℕ)) (cell : ℕ) → IsHandedOut settings s (worded v row) name g cell →
      IsHandedOut settings s (with_registers v row) name g cell
  as_worded v row cell h = subst (λ t. IsHandedOut settings s t name g cell) (sym (words_alone row v)) h

  as_handed : (before after : State × Reply) → before ≡ after → HandedOut after → HandedOut before
  as_handed before after e h = subst HandedOut (sym e) h

  free_out : has_no_cell its ≡ false → HandedOut (handed_out s name its)
  free_out some =
      let cell : ℕ = unwrap_or (slice_get its.free 0) 0 in
      let after : CellPool = record its { free = drop 1 its.free } in
      let v : State = with_pool s name after in
      let row : List (ℕ × ℕ) = (15, 0) ∷ (1, cell) ∷ named_register g.register cell in (
        cell,
        refl,
        as_worded v row cell (record {
          pool = its;
          before = seen_pool s name sees_it;
          source = inl (record {
            rest = drop 1 its.free;
            was_first = first_and_rest its.free some;
            after = put_found s.cell_pools name after;
            same = refl;
          });
          others = λ other apart. put_others s.cell_pools name other after apart;
          registers = address_from s v (worded v row) g.register cell refl refl (address_worded v g.register cell);
        }),
      )

  further_out : g.conditional ≡ false → has_no_cell its ≡ true → is_nowhere goes ≡ false →
      HandedOut (handed_out (with_extent_area s its its.secondary goes) name (with_extent its new))
  further_out plain none there =
      let sound = sound_of s name its w.cell_pools (pool_is s name sees_it).0 in
      let bounds = cell_bounds its.size its.secondary sound.bounds.1 in
      let some : 1 ≤ its.secondary = bounds.2 in
      let count = extent_doublewords its its.secondary in
      let address : ℕ = address_of goes in
      let (r, one, clear) = place_from s its.subpool count (Contains (regions_for settings its.location)) (regions_for settings its.location)
      (All-contains_itself (regions_for settings its.location)) there in
      let u : State = with_extent_area s its its.secondary goes in
      let a : AreaIsTaken r s u its.subpool address count = area_taken s w.pages.in_page its.subpool count r goes clear in
      let alone = area_alone s its.subpool count goes in
      let (rest, cells) = cells_front its.size address its.secondary some in
      let empty = empty_list its.free none in
      let all : its.free ++ extent_cells its.size new ≡ address ∷ rest = ap (λ xs. xs ++ extent_cells its.size new) empty ∙ cells in
      let after : CellPool = record (with_extent its new) { free = rest } in
      let v : State = with_pool u name after in
      let row : List (ℕ × ℕ) = (15, 0) ∷ (1, address) ∷ named_register g.register address in
      let now : handed_out u name (with_extent its new) ≡ (v, Cell address) =
      λ i. (with_pool u name (record (with_extent its new) { free = drop 1 (all i) }), Cell (unwrap_or (slice_get (all i) 0) 0)) in
      let same_current : u.current ≡ s.current = ap (λ (x : State). x.current) alone in
      let same_words : u.words ≡ s.words = ap (λ (x : State). x.words) alone in
      let same_table : u.cell_pools ≡ s.cell_pools = area_table s its.subpool count goes in
      as_handed (handed_out u name (with_extent its new)) (v, Cell address) now (
        address,
        refl,
        as_worded v row address (record {
          pool = its;
          before = seen_pool s name sees_it;
          source = inr (
            plain,
            record {
              none_free = empty;
              region = r;
              on_its_side = one;
              area = record {
                on_doubleword = a.on_doubleword;
                in_region = a.in_region;
                was_free = a.was_free;
                taken = a.taken;
                in_subpool = a.in_subpool;
                others = a.others;
                needed = a.needed;
                zero_bytes = a.zero_bytes;
                same_bytes = a.same_bytes;
              };
              lowest = place_is_lowest s its.subpool count 1 (some_doublewords its its.secondary some bounds.0) (regions_for settings its.location) there;
              rest = rest;
              cells = cells;
              after = put_found u.cell_pools name after;
              same = ap (λ (x : State). record x { words = (with_registers v row).words; cell_pools = with_cell_pool u.cell_pools name after }) alone;
            },
          );
          others = λ other apart. put_others u.cell_pools name other after apart ∙ ap (λ table. cell_pool_in table other) same_table;
          registers = address_from s v (worded v row) g.register address same_current same_words (address_worded v g.register address);
        }),
      )

  either_out : (has_no_cell its && (g.conditional || is_nowhere goes)) ≡ false → HandedOut (got settings s name)
  either_out room =
      elim (has_no_cell its) as (λ b. has_no_cell its ≡ b → (b && (g.conditional || is_nowhere goes)) ≡ false →
      HandedOut (if b then handed_out (with_extent_area s its its.secondary goes) name (with_extent its new) else handed_out s name its)) [
        | true ↦ λ none room. let parts = or_parts g.conditional (is_nowhere goes) room in further_out parts.0 none parts.1
        | false ↦ λ some room. free_out some
      ] refl room

refused_is_not : (c : Cause) (t : State) (r : Reply) → ◌≡◌ {A = Stepped} (Refused c) (Accepted t r) → ⊥
refused_is_not c t r e = cc

some_cause : (c : Cause) → ◌≡◌ {A = Option Cause} (Some c) None → ⊥
some_cause c e = cc

same_cause : (c d : Cause) → ◌≡◌ {A = Option Cause} (Some c) (Some d) → c ≡ d
same_cause c d e = cc

-- one that is accepted has no cause, or one for which 4 is returned
pub answered_four : (settings : Settings) (s : State) (x : Service) (o : Option Cause) (t : State) (r : Reply) → answered settings s x o ≡ Accepted t r →
    (o ≡ None) ⊎ ((c : Cause) × (o ≡ Some c) × (answers_four c ≡ true))
answered_four settings s x None t r e = inl refl
answered_four settings s x (Some c) t r e = inr (c, refl, four (is_conditional x) (answers_four c) e) where
  four : (conditional b : Bool) → (if conditional && b then replied x (s, Returned 4) else Refused c) ≡ Accepted t r → b ≡ true
  four true true e = refl
  four true false e = absurd (refused_is_not c t r e)
  four false b e = absurd (refused_is_not c t r e)

-- of the causes of GET only lack of storage returns 4
want_of_storage : (a b c : Bool) (k : Cause) → first_cause ((a, NoCellPool) ∷ (b, TooManyNames) ∷ (c, NoStorage) ∷ []) ≡ Some k → answers_four k ≡ true →
    (a ≡ false) × (b ≡ false) × (c ≡ true)
want_of_storage true b c k e four = absurd (true≢false (sym four ∙ sym (ap answers_four (same_cause NoCellPool k e))))
want_of_storage false true c k e four = absurd (true≢false (sym four ∙ sym (ap answers_four (same_cause TooManyNames k e))))
want_of_storage false false true k e four = (refl, refl, refl)
want_of_storage false false false k e four = absurd (some_cause k (sym e))

pub has_no_free_cell : (settings : Settings) (names_full : Bool) (s : State) (name : List ℕ) (g : Get) (k : Cause) →
    first_cause (get_causes settings names_full s name g) ≡ Some k → answers_four k ≡ true → HasNoFreeCell s name
has_no_free_cell settings names_full s name g k e four =
    let place_or_form = g.conditional || is_nowhere (extent_place settings s (pool_of s name) (pool_of s name).secondary) in
    let want = want_of_storage (not (sees_pool s name)) names_full (has_no_cell (pool_of s name) && place_or_form) k e four in
    (pool_of s name, seen_pool s name (not-false (sees_pool s name) want.0), empty_list (pool_of s name).free (and_parts (has_no_cell (pool_of s name)) place_or_form want.2).0)

names_room : (settings : Settings) (names_full : Bool) (s : State) (name : List ℕ) (g : Get) →
    first_cause (get_causes settings names_full s name g) ≡ None → names_full ≡ false
names_room settings names_full s name g none =
    let rest = (has_no_cell (pool_of s name) && (g.conditional || is_nowhere (extent_place settings s (pool_of s name) (pool_of s name).secondary)), NoStorage) ∷ [] in
    (past names_full TooManyNames rest (past (not (sees_pool s name)) NoCellPool ((names_full, TooManyNames) ∷ rest) none).1).0

pub get_hands_out_a_cell : GetHandsOutACell
get_hands_out_a_cell settings names_full s t name g reply w e =
    elim (answered_four settings s (get name g) (first_cause (get_causes settings names_full s name g)) t reply e) [
      | inl none ↦
          let done : replied (get name g) (got settings s name) ≡ Accepted t reply = sym (ap (answered settings s (get name g)) none) ∙ e in
          let may = get_may settings names_full s name g none in
          let (cell, is, handed) = either_out settings s w name g may.0 may.1 in
          inl (
            cell,
            sym (reply_is (get name g) (got settings s name) t reply done) ∙ is,
            subst (λ t. IsHandedOut settings s t name g cell) (state_is (get name g) (got settings s name) t reply done) handed,
            names_room settings names_full s name g none,
          )
      | inr one ↦ elim (accepted_has_its_effect settings names_full s t (get name g) reply e) [
        | inl done ↦ absurd (some_cause one.0 (sym one.1 ∙ done.0))
        | inr four ↦ inr (four.0, four.1, has_no_free_cell settings names_full s name g one.0 one.1 one.2, code_is_all s t 4 four.2)
      ]
    ]
