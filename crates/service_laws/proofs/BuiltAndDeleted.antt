-- What BUILD and DELETE leave.
use Rattle.std.proofs.Common.{◌≡◌, ℕ, ◌/◌, Bool, true, false, not, ◌&&◌, ◌||◌, ◌==◌, if◌then◌else◌, Option, Some, None, is_some, List, [], refl, sym, ◌∙◌, ap, subst, inl, inr}
use Rattle.std.specs.Prelude.{Contains, unwrap_or}
use Rattle.std.specs.List.{list_any}
use Rattle.std.proofs.lemmas.Bool.{and_from, and_parts, and_left, and_right, not-false, eq-eqb, cond-true, cond-false, or_left, false_from_ne_true}
use Rattle.std.proofs.lemmas.List.Elements.{All-contains_itself}
use Rattle.vsm_model.specs.declared.Subpool.{Subpool}
use Rattle.vsm_model.specs.declared.causes.Cause.TheVariants.{NoCellPool}
use Rattle.vsm_model.specs.declared.limits.Settings.{Settings}
use Rattle.vsm_model.specs.declared.services.Build.{Build}
use Rattle.vsm_model.specs.Search.{holds}
use Rattle.vsm_model.specs.Regions.{Region, regions_for}
use Rattle.vsm_model.specs.CellPools.{CellPool, cell_pool_in, without_cell_pool, extent_doublewords, with_extent}
use Rattle.vsm_model.specs.State.{State}
use Rattle.vsm_model.specs.Subpools.{same_subpool, sees_one, seen_or_own, with_own, with_subpool}
use Rattle.vsm_model.specs.Areas.{Place, address_of}
use Rattle.vsm_model.specs.Services.{build, delete}
use Rattle.vsm_model.specs.Releasing.{is_idle}
use Rattle.vsm_model.specs.Registers.{with_register}
use Rattle.vsm_model.specs.Cells.{with_pool, pool_of, sees_pool, extent_place, extent_at, with_extent_area, new_pool, built, deleted}
use Rattle.vsm_model.specs.WellFormed.{IsWellFormed}
use Rattle.vsm_model.proofs.Chosen.{past, no_cause}
use Rattle.service_laws.specs.Extents.{lies_in, AreaIsTaken}
use Rattle.service_laws.specs.Promises.{SubpoolIsThere, IsBuilt, BuildMakesACellPool, IsDeleted, DeleteGivesItsExtentsBack}
use Rattle.service_laws.proofs.CellLists.{cell_bounds, some_doublewords}
use Rattle.service_laws.proofs.StorageLowest.{place_is_lowest}
use Rattle.service_laws.proofs.CellTables.{put_found, put_others, without_found, without_others}
use Rattle.service_laws.proofs.Placed.{place_from, area_taken, area_alone, area_table, picked, same_some, none_some, none_or_some, owned_by}
use Rattle.service_laws.proofs.Pools.{pool_is}
use Rattle.service_laws.proofs.Emptied.{idle_from, busy_at}
use Rattle.service_laws.proofs.Deleting.{left_over, left_is, used}
use Rattle.service_laws.proofs.Building.{own_alone, own_kept, open_still, MayBuild, may_build}
use Rattle.service_laws.proofs.Answered.{state_is, reply_is}
use Rattle.service_laws.proofs.Named.{code_from}
use Rattle.service_laws.proofs.Registers.{code_is_set, not_both}
use Rattle.service_laws.proofs.Promised.{seen_pool}

-- the subpool that the task then sees
module _ (settings : Settings) (s : State) (w : IsWellFormed settings s) (n : ℕ) where
  new_there : s.sight s.current n ≡ None → SubpoolIsThere s (with_subpool s n s.current) n s.current
  new_there none = record {
    seen = cond-true ((s.current == s.current) && (n == n)) (Some s.current) (s.sight s.current n)
        (and_from (s.current == s.current) (n == n) (eq-eqb s.current s.current refl) (eq-eqb n n refl));
    there = or_left ((n == n) && (s.current == s.current)) (s.subpools n s.current)
        (and_from (n == n) (s.current == s.current) (eq-eqb n n refl) (eq-eqb s.current s.current refl));
    one_that_it_saw = λ o e. absurd (none_some o (sym none ∙ e));
    else_its_own = λ _. refl;
    other_sight = λ task m other. cond-false ((task == s.current) && (m == n)) (Some s.current) (s.sight task m) (not_both task s.current m n other);
    other_subpools = λ m o other. ap (λ b. b || s.subpools m o) (not_both m n o s.current other);
  }

  old_there : (owner : ℕ) → s.sight s.current n ≡ Some owner → SubpoolIsThere s s n owner
  old_there owner is = record {
    seen = is;
    there = w.sight.seen_is_there s.current n owner is;
    one_that_it_saw = λ o e. same_some owner o (sym is ∙ e);
    else_its_own = λ none. absurd (none_some owner (sym none ∙ is));
    other_sight = λ task m other. refl;
    other_subpools = λ m o other. refl;
  }

  own_there : SubpoolIsThere s (with_own s n) n (seen_or_own s n).owner
  own_there =
      elim (none_or_some (s.sight s.current n)) [
        | inl none ↦
            let is : with_own s n ≡ with_subpool s n s.current =
            cond-false (sees_one s n) s (with_subpool s n s.current) (ap (λ (o : Option ℕ). is_some o) none) in
            let mine : (seen_or_own s n).owner ≡ s.current = ap (λ o. unwrap_or o s.current) none in
            subst (λ (u : State). SubpoolIsThere s u n (seen_or_own s n).owner) (sym is)
            (subst (λ o. SubpoolIsThere s (with_subpool s n s.current) n o) (sym mine) (new_there none))
        | inr some ↦
            let is : with_own s n ≡ s =
            cond-true (sees_one s n) s (with_subpool s n s.current) (ap (λ (o : Option ℕ). is_some o) some.1) in
            let its : (seen_or_own s n).owner ≡ some.0 = ap (λ o. unwrap_or o s.current) some.1 in
            subst (λ (u : State). SubpoolIsThere s u n (seen_or_own s n).owner) (sym is)
            (subst (λ o. SubpoolIsThere s s n o) (sym its) (old_there some.0 some.1))
      ]

-- a state with the same subpools and sight
there_still : (s u t : State) (n o : ℕ) → t.sight ≡ u.sight → t.subpools ≡ u.subpools → SubpoolIsThere s u n o → SubpoolIsThere s t n o
there_still s u t n o same still h =
    let moved = subst (λ (f : (ℕ → ℕ → Option ℕ) × (ℕ → ℕ → Bool)). SubpoolIsThere s (record u { sight = f.0; subpools = f.1 }) n o)
    (λ i. (sym same i, sym still i)) (record {
      seen = h.seen;
      there = h.there;
      one_that_it_saw = h.one_that_it_saw;
      else_its_own = h.else_its_own;
      other_sight = h.other_sight;
      other_subpools = h.other_subpools;
    }) in
    record {
      seen = moved.seen;
      there = moved.there;
      one_that_it_saw = moved.one_that_it_saw;
      else_its_own = moved.else_its_own;
      other_sight = moved.other_sight;
      other_subpools = moved.other_subpools;
    }

-- an area that is taken from a state with the same storage is taken from this one
area_from : (s u t : State) (r : Region) (its : Subpool) (address count : ℕ) → u.pages ≡ s.pages → u.taken ≡ s.taken → u.bytes ≡ s.bytes →
    AreaIsTaken r u t its address count → AreaIsTaken r s t its address count
area_from s u t r its address count same still kept a =
    let moved = subst (λ (f : (ℕ → Option Subpool) × (ℕ → Bool) × (ℕ → Option ℕ)).
    AreaIsTaken r (record u { pages = f.0; taken = f.1; bytes = f.2 }) t its address count) (λ i. (same i, still i, kept i)) (record {
      on_doubleword = a.on_doubleword;
      in_region = a.in_region;
      was_free = a.was_free;
      taken = a.taken;
      in_subpool = a.in_subpool;
      others = a.others;
      needed = a.needed;
      zero_bytes = a.zero_bytes;
      same_bytes = a.same_bytes;
    }) in
    record {
      on_doubleword = moved.on_doubleword;
      in_region = moved.in_region;
      was_free = moved.was_free;
      taken = moved.taken;
      in_subpool = moved.in_subpool;
      others = moved.others;
      needed = moved.needed;
      zero_bytes = moved.zero_bytes;
      same_bytes = moved.same_bytes;
    }

module _ (settings : Settings) (s : State) (w : IsWellFormed settings s) (name : List ℕ) (header : Option (List ℕ)) (b : Build) (may : MayBuild settings s name header b) where
  abbrev pool : CellPool
  pool = new_pool settings s header b

  abbrev goes : Place
  goes = extent_place settings s pool b.primary

  is_built : IsBuilt settings s (with_register (built settings s name header b).0 15 0) name header b (address_of goes)
  is_built =
      let v : State = with_own s b.number in
      let own = own_kept settings s w b.number may.private in
      let is = own_alone s b.number in
      let count = extent_doublewords pool b.primary in
      let bounds = cell_bounds b.size b.primary may.valid.0 in
      let (r, one, clear) = place_from s pool.subpool count (Contains (regions_for settings pool.location)) (regions_for settings pool.location)
      (All-contains_itself (regions_for settings pool.location)) may.there in
      let same_pages : v.pages ≡ s.pages = ap (λ (u : State). u.pages) is in
      let same_taken : v.taken ≡ s.taken = ap (λ (u : State). u.taken) is in
      let same_bytes : v.bytes ≡ s.bytes = ap (λ (u : State). u.bytes) is in
      let still = open_still s v pool.subpool count r goes same_pages same_taken clear in
      let u : State = with_extent_area v pool b.primary goes in
      let alone = area_alone v pool.subpool count goes in
      let new : CellPool = with_extent pool (extent_at goes b.primary) in
      let t : State = with_register (with_pool u name new) 15 0 in
      let a : AreaIsTaken r v u pool.subpool (address_of goes) count = area_taken v own.0.pages.in_page pool.subpool count r goes still in
      let same_table : u.cell_pools ≡ s.cell_pools = area_table v pool.subpool count goes ∙ ap (λ (x : State). x.cell_pools) is in
      let same_current : u.current ≡ s.current = ap (λ (x : State). x.current) alone ∙ ap (λ (x : State). x.current) is in
      let same_words : u.words ≡ s.words = ap (λ (x : State). x.words) alone ∙ ap (λ (x : State). x.words) is in
      record {
        private = may.private;
        valid = may.valid;
        was_new = may.none;
        room = may.room;
        owner = (seen_or_own s b.number).owner;
        subpool = there_still s v t b.number (seen_or_own s b.number).owner (ap (λ (x : State). x.sight) alone) (ap (λ (x : State). x.subpools) alone)
            (own_there settings s w b.number);
        region = r;
        on_its_side = one;
        area = area_from s v t r pool.subpool (address_of goes) count same_pages same_taken same_bytes (record {
          on_doubleword = a.on_doubleword;
          in_region = a.in_region;
          was_free = a.was_free;
          taken = a.taken;
          in_subpool = a.in_subpool;
          others = a.others;
          needed = a.needed;
          zero_bytes = a.zero_bytes;
          same_bytes = a.same_bytes;
        });
        lowest = place_is_lowest s pool.subpool count 1 (some_doublewords pool b.primary bounds.2 bounds.0) (regions_for settings pool.location) may.there;
        after = put_found u.cell_pools name new;
        others = λ other apart. put_others u.cell_pools name other new apart ∙ ap (λ table. cell_pool_in table other) same_table;
        current = same_current;
        same_parents = ap (λ (x : State). x.parents) alone ∙ ap (λ (x : State). x.parents) is;
        registers = code_from s (with_pool u name new) t 0 same_current same_words (code_is_set (with_pool u name new) 0);
      }

pub build_makes_a_cell_pool : BuildMakesACellPool
build_makes_a_cell_pool settings names_full s t name header b reply w e =
    let done = no_cause settings names_full s t (build name header b) reply refl e in
    let may = may_build settings s name header b done.0 in
    let at = address_of (extent_place settings s (new_pool settings s header b) b.primary) in (
      at,
      sym (reply_is (build name header b) (built settings s name header b) t reply done.1),
      subst (λ t. IsBuilt settings s t name header b at) (state_is (build name header b) (built settings s name header b) t reply done.1)
          (is_built settings s w name header b may),
    )

same_self : (p : Subpool) → same_subpool p p ≡ true
same_self p = and_from (p.number == p.number) (p.owner == p.owner) (eq-eqb p.number p.number refl) (eq-eqb p.owner p.owner refl)

module _ (settings : Settings) (s : State) (w : IsWellFormed settings s) (name : List ℕ) (seen : sees_pool s name ≡ true) where
  abbrev its : CellPool
  its = pool_of s name

  found : cell_pool_in s.cell_pools name ≡ Some its
  found = (pool_is s name seen).0

  abbrev gone : ℕ → Bool
  gone d = list_any (lies_in its d) its.extents

  abbrev left : ℕ → Bool
  left k = not (gone k) && s.taken k

  abbrev leaves : ℕ → Bool
  leaves k = holds (same_subpool its.subpool) (s.pages k) && is_idle left k

  -- a page that is as it was doesn't leave
  unmoved : (k : ℕ) → (if leaves k then None else s.pages k) ≡ s.pages k → leaves k ≡ false
  unmoved k same =
      false_from_ne_true (leaves k) (λ e.
      let none : s.pages k ≡ None = sym same ∙ cond-true (leaves k) None (s.pages k) e in
      let its_page = owned_by its.subpool (s.pages k) (and_parts (holds (same_subpool its.subpool) (s.pages k)) (is_idle left k) e).0 in
      none_some its.subpool (sym none ∙ its_page))

  is_deleted : IsDeleted s (with_register (left_over settings s w name its found) 15 0) name
  is_deleted = record {
    pool = its;
    before = seen_pool s name seen;
    gone = without_found s.cell_pools name;
    others = λ other apart. without_others s.cell_pools name other apart;
    were_taken = λ d e. (used settings s w name its found d e).0;
    in_subpool = λ d e. (used settings s w name its found d e).1;
    taken = λ d. refl;
    idle_leaves = λ k e none. cond-true (leaves k) None (s.pages k)
        (and_from (holds (same_subpool its.subpool) (s.pages k)) (is_idle left k) (ap (holds (same_subpool its.subpool)) e ∙ same_self its.subpool)
        (idle_from left k none));
    stays = λ k p d e at taken. cond-false (leaves k) None (s.pages k)
        (and_right (holds (same_subpool its.subpool) (s.pages k)) (is_idle left k) (busy_at left k d at taken)) ∙ e;
    others_stay = λ k p e other. cond-false (leaves k) None (s.pages k)
        (and_left (holds (same_subpool its.subpool) (s.pages k)) (is_idle left k)
        (false_from_ne_true (holds (same_subpool its.subpool) (s.pages k)) (λ own. other (same_some p its.subpool (sym e ∙ owned_by its.subpool (s.pages k) own)))))
        ∙ e;
    none_new = λ k p e. picked (leaves k) None (s.pages k) (Some p) _ e (λ _ is. absurd (none_some p is)) (λ _ old. old);
    no_bytes = λ a p e away.
        picked (leaves (a / 4096)) None (s.pages (a / 4096)) None _ away
        (λ idle _. cond-true (leaves (a / 4096)) None (s.bytes a) idle)
        (λ _ none. absurd (none_some p (sym none ∙ e)));
    same_bytes = λ a same. cond-false (leaves (a / 4096)) None (s.bytes a) (unmoved (a / 4096) same);
    same = refl;
    registers = code_from s (left_over settings s w name its found) (with_register (left_over settings s w name its found) 15 0) 0 refl refl
        (code_is_set (left_over settings s w name its found) 0);
  }

pub delete_gives_its_extents_back : DeleteGivesItsExtentsBack
delete_gives_its_extents_back settings names_full s t name reply w e =
    let done = no_cause settings names_full s t (delete name) reply refl e in
    let first = past (not (sees_pool s name)) NoCellPool [] done.0 in
    let seen = not-false (sees_pool s name) first.0 in
    let found = (pool_is s name seen).0 in
    let is : (deleted s name).0 ≡ left_over settings s w name (pool_of s name) found =
    ap (λ (u : State). record u { cell_pools = without_cell_pool s.cell_pools name }) (left_is settings s w name (pool_of s name) found) in (
      subst (λ t. IsDeleted s t name) (sym (ap (λ u. with_register u 15 0) is) ∙ state_is (delete name) (deleted s name) t reply done.1)
          (is_deleted settings s w name seen),
      sym (reply_is (delete name) (deleted s name) t reply done.1),
    )
