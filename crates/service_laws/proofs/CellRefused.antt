-- A service on a cell pool is refused for the first cause whose condition holds.
use Rattle.std.proofs.Common.{◌≡◌, ◌⊎◌, ℕ, ◌%◌, ◌≤◌, Bool, true, false, not, ◌&&◌, ◌||◌, nat_le, nat_lt, ◌==◌, Option, Some, None, is_some, List, [], ◌∷◌, length, refl, sym, ◌∙◌, ap, subst, inl, inr, true≢false}
use Rattle.std.proofs.lemmas.Bool.{and_parts, and_from, and_cases, or_cases, or_parts, both_ways, not-true, not-false, eqb-true, eqb-false, eq-eqb, leb-true, leb-false, le-leb, ltb-true, ltb-false, cond-true}
use Rattle.std.proofs.lemmas.List.Elements.{All-contains}
use Rattle.vsm_model.specs.declared.Subpool.{Subpool}
use Rattle.vsm_model.specs.declared.causes.Cause.{Cause}
use Rattle.vsm_model.specs.declared.causes.Cause.TheVariants.{UnsupportedSubpool, SubpoolNotAllowed, TooManyNames, NoStorage, BadCells, CellPoolExists, TooManyCellPools, NoCellPool, NotInUse}
use Rattle.vsm_model.specs.declared.limits.Settings.{Settings}
use Rattle.vsm_model.specs.declared.replies.Reply.{Reply}
use Rattle.vsm_model.specs.declared.replies.Reply.TheVariants.{Returned}
use Rattle.vsm_model.specs.declared.services.Get.{Get}
use Rattle.vsm_model.specs.Search.{holds, is_in}
use Rattle.vsm_model.specs.Regions.{regions_for}
use Rattle.vsm_model.specs.CellPools.{CellPool, cell_pool_in, cells_of, extent_doublewords}
use Rattle.vsm_model.specs.State.{State}
use Rattle.vsm_model.specs.Subpools.{sees}
use Rattle.vsm_model.specs.Areas.{place, is_nowhere}
use Rattle.vsm_model.specs.Services.{Service, build, get, free, delete, is_conditional}
use Rattle.vsm_model.specs.Causes.{Causes, first_cause, answers_four}
use Rattle.vsm_model.specs.Standing.{Accepted, Refused}
use Rattle.vsm_model.specs.Cells.{are_cells, secondary_count, sees_pool, pool_of, has_no_cell, extent_place, new_pool, is_in_use, get_causes}
use Rattle.vsm_model.specs.Step.{answered, replied}
use Rattle.vsm_model.proofs.Chosen.{Stepped, refused_for_the_first}
use Rattle.service_laws.specs.StorageLowestAddress as area
use Rattle.service_laws.specs.CellFirstCauses.{AreCells, HasNoRoom, HasItsNumbers, IsFirstOfBuild, SeesNone, IsFirstOfGet, IsFirstOfFree, IsFirstOfDelete, BuildIsRefusedForTheFirst, GetIsRefusedForTheFirst, FreeIsRefusedForTheFirst, DeleteIsRefusedForTheFirst}
use Rattle.service_laws.proofs.StorageLowest.{nowhere_has_no_room}
use Rattle.service_laws.proofs.CellLists.{some_doublewords, cell_bounds}
use Rattle.service_laws.proofs.Pools.{sound_of, pool_is}
use Rattle.service_laws.proofs.Getting.{empty_list}
use Rattle.service_laws.proofs.Promised.{seen_pool}

same_cause : (c d : Cause) → ◌≡◌ {A = Option Cause} (Some c) (Some d) → c ≡ d
same_cause c d e = cc

none_is_not : (c : Cause) → ◌≡◌ {A = Option Cause} None (Some c) → ⊥
none_is_not c e = cc

-- the first cause is this one, or one after it
at_cause : (b : Bool) (first cause : Cause) (rows : Causes) (P : Type 0) → first_cause ((b, first) ∷ rows) ≡ Some cause →
    (b ≡ true → first ≡ cause → P) → (b ≡ false → first_cause rows ≡ Some cause → P) → P
at_cause true first cause rows P e here rest = here refl (same_cause first cause e)
at_cause false first cause rows P e here rest = rest refl e

-- the bounds of cells, in words
cells_are : (size count : ℕ) → are_cells size count ≡ true → AreCells size count
cells_are size count e =
    let a = and_parts (((size % 4) == 0) && nat_le 4 size && nat_le size 4096 && nat_le 1 count) (nat_le count 4096) e in
    let b = and_parts (((size % 4) == 0) && nat_le 4 size && nat_le size 4096) (nat_le 1 count) a.0 in
    let c = and_parts (((size % 4) == 0) && nat_le 4 size) (nat_le size 4096) b.0 in
    let d = and_parts ((size % 4) == 0) (nat_le 4 size) c.0 in
    record {
      in_fours = eqb-true (size % 4) 0 d.0;
      least = leb-true 4 size d.1;
      most = leb-true size 4096 c.1;
      some = leb-true 1 count b.1;
      few = leb-true count 4096 a.1;
    }

are_the_cells : (size count : ℕ) → AreCells size count → are_cells size count ≡ true
are_the_cells size count h =
    and_from (((size % 4) == 0) && nat_le 4 size && nat_le size 4096 && nat_le 1 count) (nat_le count 4096)
    (and_from (((size % 4) == 0) && nat_le 4 size && nat_le size 4096) (nat_le 1 count)
    (and_from (((size % 4) == 0) && nat_le 4 size) (nat_le size 4096)
    (and_from ((size % 4) == 0) (nat_le 4 size) (eq-eqb (size % 4) 0 h.in_fours) (le-leb 4 size h.least))
    (le-leb size 4096 h.most)) (le-leb 1 count h.some)) (le-leb count 4096 h.few)

no_room : (s : State) (p : Subpool) (count : ℕ) → 1 ≤ count → (settings : Settings) (pool : CellPool) →
    is_nowhere (place s (regions_for settings pool.location) p count 1) ≡ true → HasNoRoom settings pool.location s p count
no_room s p count some settings pool e r one =
    All-contains (λ r. area.HasNoRoom r s p count 1) (regions_for settings pool.location) r (nowhere_has_no_room s p count 1 some (regions_for settings pool.location) e) one

some_pool : (o : Option CellPool) → is_some o ≡ true → (q : CellPool) × (o ≡ Some q)
some_pool None e = absurd (true≢false (sym e))
some_pool (Some q) e = (q, refl)

no_pool_there : (o : Option CellPool) → is_some o ≡ false → o ≡ None
no_pool_there None e = refl
no_pool_there (Some q) e = absurd (true≢false e)

pub build_is_refused : BuildIsRefusedForTheFirst
build_is_refused settings names_full s name header b cause e =
    let F : Cause → Type 0 = IsFirstOfBuild settings s name b in
    let is = refused_for_the_first settings names_full s (build name header b) cause e in
    let pool : CellPool = new_pool settings s header b in
    let fifth : Causes = (is_nowhere (extent_place settings s pool b.primary), NoStorage) ∷ [] in
    let fourth : Causes = (nat_le 256 (length s.cell_pools), TooManyCellPools) ∷ fifth in
    let third : Causes = (is_some (cell_pool_in s.cell_pools name), CellPoolExists) ∷ fourth in
    let valid : Bool = are_cells b.size b.primary && are_cells b.size (secondary_count b) in
    let second : Causes = (not valid, BadCells) ∷ third in
    at_cause ((b.number == 131) || (b.number == 132)) UnsupportedSubpool cause ((nat_lt 127 b.number, SubpoolNotAllowed) ∷ second) (F cause) is
    (λ one same. subst F same (either b.number (or_cases (b.number == 131) (b.number == 132) one))) (λ other is.
    let apart = or_parts (b.number == 131) (b.number == 132) other in
    at_cause (nat_lt 127 b.number) SubpoolNotAllowed cause second (F cause) is
    (λ above same. subst F same (ltb-true 127 b.number above, eqb-false b.number 131 apart.0, eqb-false b.number 132 apart.1)) (λ private is.
    let low = ltb-false 127 b.number private in
    at_cause (not valid) BadCells cause third (F cause) is
    (λ bad same. subst F same (
      low,
      λ h. both_ways valid (not-true valid bad)
          (and_from (are_cells b.size b.primary) (are_cells b.size (secondary_count b)) (are_the_cells b.size b.primary h.0) (are_the_cells b.size (secondary_count b) h.1)),
    )) (λ good is.
    let parts = and_parts (are_cells b.size b.primary) (are_cells b.size (secondary_count b)) (not-false valid good) in
    let numbers : HasItsNumbers b = (cells_are b.size b.primary parts.0, cells_are b.size (secondary_count b) parts.1) in
    at_cause (is_some (cell_pool_in s.cell_pools name)) CellPoolExists cause fourth (F cause) is
    (λ there same. subst F same (low, numbers, some_pool (cell_pool_in s.cell_pools name) there)) (λ new is.
    let none = no_pool_there (cell_pool_in s.cell_pools name) new in
    at_cause (nat_le 256 (length s.cell_pools)) TooManyCellPools cause fifth (F cause) is
    (λ many same. subst F same (low, numbers, none, leb-true 256 (length s.cell_pools) many)) (λ few is.
    at_cause (is_nowhere (extent_place settings s pool b.primary)) NoStorage cause [] (F cause) is
    (λ nowhere same. subst F same (
      low,
      numbers,
      none,
      leb-false 256 (length s.cell_pools) few,
      no_room s pool.subpool (extent_doublewords pool b.primary) (some_doublewords pool b.primary numbers.0.some numbers.0.least) settings pool nowhere,
    ))
    (λ _ is. absurd (none_is_not cause is)))))))
  where
    either : (n : ℕ) → ((n == 131) ≡ true) ⊎ ((n == 132) ≡ true) → (n ≡ 131) ⊎ (n ≡ 132)
    either n (inl is) = inl (eqb-true n 131 is)
    either n (inr is) = inr (eqb-true n 132 is)

-- a cell pool that isn't seen
sees_none : (s : State) (name : List ℕ) → sees_pool s name ≡ false → SeesNone s name
sees_none s name e pool h =
    let own : sees s pool.subpool ≡ true = ap (holds (λ owner. owner == pool.subpool.owner)) h.seen ∙ eq-eqb pool.subpool.owner pool.subpool.owner refl in
    both_ways (sees_pool s name) e (ap (holds (λ (p : CellPool). sees s p.subpool)) h.found ∙ own)

pub get_is_refused : GetIsRefusedForTheFirst
get_is_refused settings names_full s name g cause w e =
    let F : Cause → Type 0 = IsFirstOfGet settings names_full s name g in
    let is = refused_for_the_first settings names_full s (get name g) cause e in
    let its : CellPool = pool_of s name in
    let nowhere : Bool = is_nowhere (extent_place settings s its its.secondary) in
    let third : Causes = (has_no_cell its && (g.conditional || nowhere), NoStorage) ∷ [] in
    at_cause (not (sees_pool s name)) NoCellPool cause ((names_full, TooManyNames) ∷ third) (F cause) is
    (λ unseen same. subst F same (sees_none s name (not-true (sees_pool s name) unseen))) (λ seen is.
    let seen_it = not-false (sees_pool s name) seen in
    at_cause names_full TooManyNames cause third (F cause) is
    (λ full same. subst F same ((its, seen_pool s name seen_it), full)) (λ room is.
    at_cause (has_no_cell its && (g.conditional || nowhere)) NoStorage cause [] (F cause) is
    (λ want same.
    let parts = and_parts (has_no_cell its) (g.conditional || nowhere) want in
    let plain : g.conditional ≡ false = not_conditional g.conditional settings s (get name g) cause refl (sym same)
    (sym (ap (answered settings s (get name g)) (first_is settings names_full s name g cause e)) ∙ e) in
    let sound = sound_of s name its w.cell_pools (pool_is s name seen_it).0 in
    let bounds = cell_bounds its.size its.secondary sound.bounds.1 in
    let no_place : nowhere ≡ true = sym (ap (λ b. b || nowhere) plain) ∙ parts.1 in
    subst F same (
      room,
      plain,
      (
        its,
        seen_pool s name seen_it,
        empty_list its.free parts.0,
        no_room s its.subpool (extent_doublewords its its.secondary) (some_doublewords its its.secondary bounds.2 bounds.0) settings its no_place,
      ),
    ))
    (λ _ is. absurd (none_is_not cause is))))
  where
    first_is : (settings : Settings) (names_full : Bool) (s : State) (name : List ℕ) (g : Get) (cause : Cause) →
        answered settings s (get name g) (first_cause (get_causes settings names_full s name g)) ≡ Refused cause →
        first_cause (get_causes settings names_full s name g) ≡ Some cause
    first_is settings names_full s name g cause e = refused_for_the_first settings names_full s (get name g) cause e

    refused_is_not : (c : Cause) (o : Stepped) → o ≡ Refused c → (t : State) (r : Reply) → o ≡ Accepted t r → ⊥
    refused_is_not c o e t r f = cc

    not_conditional : (b : Bool) (settings : Settings) (s : State) (x : Service) (cause : Cause) → is_conditional x ≡ b → cause ≡ NoStorage →
        answered settings s x (Some cause) ≡ Refused cause → b ≡ false
    not_conditional false settings s x cause is want e = refl
    not_conditional true settings s x cause is want e =
        let four : (is_conditional x && answers_four cause) ≡ true = and_from (is_conditional x) (answers_four cause) is (ap answers_four want) in
        absurd (refused_is_not cause (answered settings s x (Some cause)) e _ _
        (cond-true (is_conditional x && answers_four cause) (replied x (s, Returned 4)) (Refused cause) four))

pub free_is_refused : FreeIsRefusedForTheFirst
free_is_refused settings names_full s name cell cause e =
    let F : Cause → Type 0 = IsFirstOfFree s name cell in
    let is = refused_for_the_first settings names_full s (free name cell) cause e in
    let its : CellPool = pool_of s name in
    at_cause (not (sees_pool s name)) NoCellPool cause ((not (is_in_use its cell), NotInUse) ∷ []) (F cause) is
    (λ unseen same. subst F same (sees_none s name (not-true (sees_pool s name) unseen))) (λ seen is.
    at_cause (not (is_in_use its cell)) NotInUse cause [] (F cause) is
    (λ idle same. subst F same (
      its,
      seen_pool s name (not-false (sees_pool s name) seen),
      either its cell (and_cases (is_in (cells_of its) cell) (not (is_in its.free cell)) (not-true (is_in_use its cell) idle)),
    ))
    (λ _ is. absurd (none_is_not cause is)))
  where
    either : (p : CellPool) (c : ℕ) → (is_in (cells_of p) c ≡ false) ⊎ (not (is_in p.free c) ≡ false) → (is_in (cells_of p) c ≡ false) ⊎ (is_in p.free c ≡ true)
    either p c (inl e) = inl e
    either p c (inr e) = inr (not-false (is_in p.free c) e)

pub delete_is_refused : DeleteIsRefusedForTheFirst
delete_is_refused settings names_full s name cause e =
    let F : Cause → Type 0 = IsFirstOfDelete s name in
    let is = refused_for_the_first settings names_full s (delete name) cause e in
    at_cause (not (sees_pool s name)) NoCellPool cause [] (F cause) is
    (λ unseen same. subst F same (sees_none s name (not-true (sees_pool s name) unseen)))
    (λ _ is. absurd (none_is_not cause is))
