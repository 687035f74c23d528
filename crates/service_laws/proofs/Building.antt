-- BUILD leaves a well-formed state well-formed.
use Rattle.std.proofs.Common.{◌≡◌, ◌≢◌, ℕ, ◌/◌, ◌<◌, ◌≤◌, Bool, true, false, not, ◌&&◌, ◌||◌, nat_le, nat_lt, ◌==◌, if◌then◌else◌, Option, Some, None, is_some, List, [], ◌∷◌, ◌++◌, length, refl, sym, ◌∙◌, ap, subst, arith, inl, inr, true≢false}
use Rattle.std.specs.Prelude.{All, AllPairs, Contains, unwrap_or}
use Rattle.std.proofs.lemmas.Bool.{cases_Bool, and_parts, and_from, or_cases, or_left, or_right, not-false, eqb-true, eq-eqb, both_ways, cond-true, cond-false, leb-false, ltb-false}
use Rattle.std.proofs.lemmas.List.{append-nil}
use Rattle.std.proofs.lemmas.List.Elements.{All-nil, All-weaker, All-contains_itself}
use Rattle.vsm_model.specs.declared.Subpool.{Subpool}
use Rattle.vsm_model.specs.declared.causes.Cause.TheVariants.{UnsupportedSubpool, SubpoolNotAllowed, BadCells, CellPoolExists, TooManyCellPools, NoStorage}
use Rattle.vsm_model.specs.declared.limits.Settings.{Settings}
use Rattle.vsm_model.specs.declared.services.Build.{Build}
use Rattle.vsm_model.specs.Search.{is_in, all_pass}
use Rattle.vsm_model.specs.Regions.{Region, regions_for, within, pages_for}
use Rattle.vsm_model.specs.CellPools.{CellPool, CellExtent, cell_pool_in, extent_cells, cells_of, extent_doublewords, with_extent}
use Rattle.vsm_model.specs.State.{State, is_task}
use Rattle.vsm_model.specs.Subpools.{sees_one, seen_or_own, with_own, with_subpool}
use Rattle.vsm_model.specs.Areas.{Place, Inside, Fresh, Nowhere, is_free, is_nowhere, address_of}
use Rattle.vsm_model.specs.Services.{build}
use Rattle.vsm_model.specs.Causes.{Causes, first_cause, number_causes}
use Rattle.vsm_model.specs.Cells.{extent_place, extent_at, with_extent_area, new_pool, are_cells, secondary_count, build_causes, built}
use Rattle.vsm_model.specs.WellFormed.{IsWellFormed, SightIsSound, PoolIsSound, IsInSubpool}
use Rattle.vsm_model.proofs.Chosen.{past, no_cause}
use Rattle.vsm_model.proofs.Registered.{pool_still}
use Rattle.service_laws.specs.Extents.{AreaIsTaken, ExtentsHaveCells}
use Rattle.service_laws.specs.CellKept.{BuildLeavesWellFormed}
use Rattle.service_laws.proofs.Lists.{pairs_nil}
use Rattle.service_laws.proofs.CellLists.{all_in, cell_bounds, cells_distinct}
use Rattle.service_laws.proofs.Placed.{IsOpenIn, place_from, in_regions, area_taken, area_alone, area_table, picked, same_some, none_or_some}
use Rattle.service_laws.proofs.Pools.{added_kept, have_cells}
use Rattle.service_laws.proofs.Answered.{left_well_formed}

-- Only subpools and sight change if a task gets a subpool of its own.
pub own_alone : (s : State) (n : ℕ) → with_own s n ≡ record s { subpools = (with_own s n).subpools; sight = (with_own s n).sight }
own_alone s n =
    elim (sees_one s n) as (λ b. (if b then s else with_subpool s n s.current)
    ≡ record s { subpools = (if b then s else with_subpool s n s.current).subpools; sight = (if b then s else with_subpool s n s.current).sight }) [
      | true ↦ refl
      | false ↦ refl
    ]

module _ (settings : Settings) (s : State) (w : IsWellFormed settings s) (n : ℕ) where
  abbrev v : State
  v = with_subpool s n s.current

  task_at : (t : ℕ) → t ≡ s.current → is_task s t ≡ true
  task_at t is = subst (λ k. is_task s k ≡ true) (sym is) w.tasks.current_is_task

  subpool_sight : n ≤ 127 → SightIsSound v
  subpool_sight private = record {
    owner_is_task = λ m t there.
        elim (or_cases ((m == n) && (t == s.current)) (s.subpools m t) there) [
          | inl new ↦ task_at t (eqb-true t s.current (and_parts (m == n) (t == s.current) new).1)
          | inr old ↦ w.sight.owner_is_task m t old
        ];
    owner_sees = λ m t there.
        elim (cases_Bool ((t == s.current) && (m == n))) [
          | inl own ↦ cond-true _ _ _ own ∙ ap Some (sym (eqb-true t s.current (and_parts (t == s.current) (m == n) own).0))
          | inr other ↦ cond-false _ _ _ other
              ∙ elim (or_cases ((m == n) && (t == s.current)) (s.subpools m t) there) [
                | inl new ↦ let parts = and_parts (m == n) (t == s.current) new in
                    absurd (both_ways _ other (and_from (t == s.current) (m == n) parts.1 parts.0))
                | inr old ↦ w.sight.owner_sees m t old
              ]
        ];
    is_private = λ m t there.
        elim (or_cases ((m == n) && (t == s.current)) (s.subpools m t) there) [
          | inl new ↦ let same = eqb-true m n (and_parts (m == n) (t == s.current) new).0 in omega (arith, same, private)
          | inr old ↦ w.sight.is_private m t old
        ];
    seer_is_task = λ t m o e.
        picked ((t == s.current) && (m == n)) (Some s.current) (s.sight t m) (Some o) _ e
        (λ own _. task_at t (eqb-true t s.current (and_parts (t == s.current) (m == n) own).0))
        (λ _ old. w.sight.seer_is_task t m o old);
    seen_is_there = λ t m o e.
        picked ((t == s.current) && (m == n)) (Some s.current) (s.sight t m) (Some o) _ e
        (λ own is. or_left ((m == n) && (o == s.current)) (s.subpools m o)
        (and_from (m == n) (o == s.current) (and_parts (t == s.current) (m == n) own).1 (eq-eqb o s.current (sym (same_some s.current o is)))))
        (λ _ old. or_right ((m == n) && (o == s.current)) (s.subpools m o) (w.sight.seen_is_there t m o old));
    sees_zero = λ t is.
        elim (cases_Bool ((t == s.current) && (0 == n))) [
          | inl own ↦ (
            s.current,
            cond-true _ _ _ own,
            or_left (t == s.current) _ (and_parts (t == s.current) (0 == n) own).0,
          )
          | inr other ↦ let (owner, sees, above) = w.sight.sees_zero t is in (owner, cond-false _ _ _ other ∙ sees, above)
        ];
  }

  pool_stays : (q : CellPool) → PoolIsSound s q → PoolIsSound v q
  pool_stays q h =
      pool_still s v q
      (λ e. or_right ((q.subpool.number == n) && (q.subpool.owner == s.current)) (s.subpools q.subpool.number q.subpool.owner) e)
      (λ x h. record { has_cells = h.has_cells; on_doubleword = h.on_doubleword; is_taken = h.is_taken; in_pages = h.in_pages }) h

  subpool_kept : n ≤ 127 → IsWellFormed settings v
  subpool_kept private = record {
    pages = record {
      in_region = w.pages.in_region;
      has_subpool = λ k p e. or_right ((p.number == n) && (p.owner == s.current)) (s.subpools p.number p.owner) (w.pages.has_subpool k p e);
      has_taken = w.pages.has_taken;
      in_page = w.pages.in_page;
      has_bytes = w.pages.has_bytes;
      are_bytes = w.pages.are_bytes;
    };
    sight = subpool_sight private;
    tasks = record {
      root = w.tasks.root;
      below_root = w.tasks.below_root;
      current_is_task = w.tasks.current_is_task;
      numbered = w.tasks.numbered;
      are_words = w.tasks.are_words;
      no_task = w.tasks.no_task;
      no_register = w.tasks.no_register;
    };
    cell_pools = record {
      ascending = w.cell_pools.ascending;
      few = w.cell_pools.few;
      each = λ k d below. pool_stays _ (w.cell_pools.each k d below);
      apart = w.cell_pools.apart;
    };
  }

  -- the task then sees a subpool at the number, and it exists
  pub own_kept : n ≤ 127 → IsWellFormed settings (with_own s n) × ((with_own s n).subpools n (seen_or_own s n).owner ≡ true)
  own_kept private =
      elim (none_or_some (s.sight s.current n)) [
        | inl none ↦
            let unseen : sees_one s n ≡ false = ap (λ (o : Option ℕ). is_some o) none in
            let is : with_own s n ≡ v = cond-false (sees_one s n) s v unseen in
            let mine : (seen_or_own s n).owner ≡ s.current = ap (λ o. unwrap_or o s.current) none in (
              subst (IsWellFormed settings) (sym is) (subpool_kept private),
              ap (λ (u : State). u.subpools n (seen_or_own s n).owner) is
                  ∙ or_left ((n == n) && ((seen_or_own s n).owner == s.current)) (s.subpools n (seen_or_own s n).owner)
                  (and_from (n == n) ((seen_or_own s n).owner == s.current) (eq-eqb n n refl) (eq-eqb (seen_or_own s n).owner s.current mine)),
            )
        | inr some ↦
            let seen : sees_one s n ≡ true = ap (λ (o : Option ℕ). is_some o) some.1 in
            let is : with_own s n ≡ s = cond-true (sees_one s n) s v seen in
            let its : (seen_or_own s n).owner ≡ some.0 = ap (λ o. unwrap_or o s.current) some.1 in (
              subst (IsWellFormed settings) (sym is) w,
              ap (λ (u : State). u.subpools n (seen_or_own s n).owner) is
                  ∙ ap (λ o. s.subpools n o) its ∙ w.sight.seen_is_there s.current n some.0 some.1,
            )
      ]

-- a place that is open is still open
pub open_still : (s t : State) (p : Subpool) (count : ℕ) (r : Region) (goes : Place) → t.pages ≡ s.pages → t.taken ≡ s.taken →
    IsOpenIn s p count r goes → IsOpenIn t p count r goes
open_still s t p count r (Inside d) same still h =
    ap (λ (f : (ℕ → Option Subpool) × (ℕ → Bool)). all_pass (λ k. within r (k / 512) && is_free (record s { pages = f.0; taken = f.1 }) p k) d count) (λ i. (same i, still i)) ∙ h
open_still s t p count r (Fresh page) same still h =
    ap (λ (f : ℕ → Option Subpool). all_pass (λ k. within r k && not (is_some (f k))) page (pages_for count)) same ∙ h
open_still s t p count r Nowhere same still h = h

-- a number without a cause is one of private storage
pub private_number : (n : ℕ) (rows : Causes) → first_cause (number_causes n ++ rows) ≡ None → (n ≤ 127) × (first_cause rows ≡ None)
private_number n rows e =
    let first = past ((n == 131) || (n == 132)) UnsupportedSubpool ((nat_lt 127 n, SubpoolNotAllowed) ∷ rows) e in
    let second = past (nat_lt 127 n) SubpoolNotAllowed rows first.1 in
    (ltb-false 127 n second.0, second.1)

some_is_none : {A : Type 0} (o : Option A) → is_some o ≡ false → o ≡ None
some_is_none None e = refl
some_is_none (Some x) e = absurd (true≢false e)

module _ (settings : Settings) (s : State) (w : IsWellFormed settings s) (name : List ℕ) (header : Option (List ℕ)) (b : Build)
    (private : b.number ≤ 127) (valid : (are_cells b.size b.primary ≡ true) × (are_cells b.size (secondary_count b) ≡ true))
    (none : cell_pool_in s.cell_pools name ≡ None) (room : length s.cell_pools < 256) where
  abbrev pool : CellPool
  pool = new_pool settings s header b

  abbrev goes : Place
  goes = extent_place settings s pool b.primary

  abbrev new : CellExtent
  new = extent_at goes b.primary

  built_kept : is_nowhere goes ≡ false → IsWellFormed settings (built settings s name header b).0
  built_kept there =
      let own = own_kept settings s w b.number private in
      let t : State = with_own s b.number in
      let is = own_alone s b.number in
      let count = extent_doublewords pool b.primary in
      let bounds = cell_bounds b.size b.primary valid.0 in
      let some : 1 ≤ b.primary = bounds.2 in
      let size = bounds.0 in
      let (r, one, clear) = place_from s pool.subpool count (Contains (regions_for settings pool.location)) (regions_for settings pool.location)
      (All-contains_itself (regions_for settings pool.location)) there in
      let same_table : t.cell_pools ≡ s.cell_pools = ap (λ (u : State). u.cell_pools) is in
      let still = open_still s t pool.subpool count r goes (ap (λ (u : State). u.pages) is) (ap (λ (u : State). u.taken) is) clear in
      let u : State = with_extent_area t pool b.primary goes in
      let a : AreaIsTaken r t u pool.subpool (address_of goes) count = area_taken t own.0.pages.in_page pool.subpool count r goes still in
      let alone = area_alone t pool.subpool count goes in
      let p : PoolIsSound t pool = record {
        has_subpool = own.1;
        in_subpool = All-nil (IsInSubpool t pool);
        are_cells_of_it = All-nil (λ cell. is_in (cells_of pool) cell ≡ true);
        distinct = pairs_nil (λ cell other. cell ≢ other);
        bounds = valid;
      } in
      let cells : List ℕ = extent_cells b.size new in
      let are_its : All (λ cell. is_in (cells_of (with_extent pool new)) cell ≡ true) cells =
      All-weaker (λ cell. is_in cells cell ≡ true) (λ cell. is_in (cells_of (with_extent pool new)) cell ≡ true)
      (λ cell e. ap (λ xs. is_in xs cell) (append-nil cells) ∙ e) cells (all_in cells) in
      let distinct : AllPairs (λ cell other. cell ≢ other) cells = cells_distinct b.size (address_of goes) b.primary (omega (arith, size)) in
      let held : ExtentsHaveCells t = subst ExtentsHaveCells (sym is) (have_cells s w.cell_pools) in
      let no_cells = All-nil (λ (x : CellExtent). 1 ≤ x.cells) in
      let region = in_regions settings pool.location r one in
      let untabled = area_table t pool.subpool count goes in
      added_kept settings t u own.0 held alone untabled pool p no_cells r region (address_of goes) b.primary some a name cells distinct are_its
      (ap (λ table. cell_pool_in table name) same_table ∙ none) (subst (λ table. length table < 256) (sym same_table) room) refl

-- Without a cause the numbers are valid, the name is new, and there's room for one more and a place.
pub record MayBuild (settings : Settings) (s : State) (name : List ℕ) (header : Option (List ℕ)) (b : Build) : Type 0 where
  pub private : b.number ≤ 127
  pub valid : (are_cells b.size b.primary ≡ true) × (are_cells b.size (secondary_count b) ≡ true)
  pub none : cell_pool_in s.cell_pools name ≡ None
  pub room : length s.cell_pools < 256
  pub there : is_nowhere (extent_place settings s (new_pool settings s header b) b.primary) ≡ false

pub may_build : (settings : Settings) (s : State) (name : List ℕ) (header : Option (List ℕ)) (b : Build) →
    first_cause (build_causes settings s name header b) ≡ None → MayBuild settings s name header b
may_build settings s name header b e =
    let fifth : Causes = (is_nowhere (extent_place settings s (new_pool settings s header b) b.primary), NoStorage) ∷ [] in
    let fourth : Causes = (nat_le 256 (length s.cell_pools), TooManyCellPools) ∷ fifth in
    let third : Causes = (is_some (cell_pool_in s.cell_pools name), CellPoolExists) ∷ fourth in
    let cells = are_cells b.size b.primary && are_cells b.size (secondary_count b) in
    let number = private_number b.number ((not cells, BadCells) ∷ third) e in
    let one = past (not cells) BadCells third number.1 in
    let two = past (is_some (cell_pool_in s.cell_pools name)) CellPoolExists fourth one.1 in
    let three = past (nat_le 256 (length s.cell_pools)) TooManyCellPools fifth two.1 in
    record {
      private = number.0;
      valid = and_parts (are_cells b.size b.primary) (are_cells b.size (secondary_count b)) (not-false cells one.0);
      none = some_is_none (cell_pool_in s.cell_pools name) two.0;
      room = leb-false 256 (length s.cell_pools) three.0;
      there = (past _ NoStorage [] three.1).0;
    }

pub build_leaves_well_formed : BuildLeavesWellFormed
build_leaves_well_formed settings names_full s t name header b reply w e =
    let done = no_cause settings names_full s t (build name header b) reply refl e in
    let may = may_build settings s name header b done.0 in
    let kept = built_kept settings s w name header b may.private may.valid may.none may.room may.there in
    left_well_formed settings (build name header b) (built settings s name header b) t reply (omega arith, omega arith, tt) kept done.1
