-- Each change of a state that an obtain, a release or a store makes leaves it well-formed.
use Rattle.std.proofs.Common.{◌≡◌, ℕ, zero, suc, ◌+◌, ◌-◌, ◌*◌, ◌/◌, ◌%◌, ◌<◌, ◌≤◌, Bool, true, false, not, ◌&&◌, ◌==◌, if◌then◌else◌, List, [], ◌∷◌, length, slice_get, map, Some, None, is_some, arith, refl, sym, ◌∙◌, ap, subst, inl, inr}
use Rattle.std.specs.Prelude.{All, unwrap_or, ◌⊎◌}
use Rattle.std.proofs.lemmas.Bool.{cases_Bool, and_parts, or_cases, and_from, or_left, or_right, both_ways, cond-true, cond-false, and_cases, not-true, not-false, eqb-true, eq-eqb, false_from_ne_true}
use Rattle.vsm_model.specs.declared.Subpool.{Subpool}
use Rattle.vsm_model.specs.declared.limits.Settings.{Settings}
use Rattle.vsm_model.specs.Search.{all_pass, some_pass, holds}
use Rattle.vsm_model.specs.Regions.{Region, among, within, pages_for}
use Rattle.vsm_model.specs.CellPools.{CellPool, CellExtent, extent_doublewords}
use Rattle.vsm_model.specs.State.{State, is_task}
use Rattle.vsm_model.specs.Subpools.{same_subpool, with_subpool, sees_one, with_own, seen_or_own}
use Rattle.vsm_model.specs.Areas.{is_free, is_open_run, Place, Inside, Fresh, Nowhere}
use Rattle.vsm_model.specs.Bytes.{are_there, with_bytes}
use Rattle.vsm_model.specs.Obtaining.{with_taken, with_pages, with_area}
use Rattle.vsm_model.specs.Releasing.{is_idle, is_not_taken, without_area, without_storage}
use Rattle.vsm_model.specs.WellFormed.{PagesAreSound, SightIsSound, TasksAreSound, IsInSubpool, PoolIsSound, IsWellFormed}
use Rattle.vsm_model.proofs.Least.{all_pass_at}
use Rattle.vsm_model.proofs.Registered.{pool_still}
use Rattle.service_laws.proofs.Cases.{same_some, none_some, belongs_is, among_in, in_among, chosen, is_some_of, both_some, all_pass_witness, none_pass_at}
use Rattle.service_laws.proofs.StorageTables.{pairs_of_part, all_passing, ascending_part, fewer}
use Rattle.service_laws.proofs.Places.{IsOf, Goes}

-- sight and tasks stay if nothing of them changes
same_sight : (s t : State) → t.parents ≡ s.parents → t.subpools ≡ s.subpools → t.sight ≡ s.sight → SightIsSound s → SightIsSound t
same_sight s t parents subpools sight w =
    subst (λ f. SightIsSound (record t { parents = f })) (sym parents)
    (subst (λ f. SightIsSound (record t { parents = s.parents; subpools = f })) (sym subpools)
    (subst (λ f. SightIsSound (record t { parents = s.parents; subpools = s.subpools; sight = f })) (sym sight)
    (record { owner_is_task = w.owner_is_task; owner_sees = w.owner_sees; is_private = w.is_private; seer_is_task = w.seer_is_task; seen_is_there = w.seen_is_there; sees_zero = w.sees_zero })))

same_tasks : (s t : State) → t.current ≡ s.current → t.parents ≡ s.parents → t.words ≡ s.words → TasksAreSound s → TasksAreSound t
same_tasks s t current parents words w =
    subst (λ n. TasksAreSound (record t { current = n })) (sym current)
    (subst (λ f. TasksAreSound (record t { current = s.current; parents = f })) (sym parents)
    (subst (λ f. TasksAreSound (record t { current = s.current; parents = s.parents; words = f })) (sym words)
    (record { root = w.root; below_root = w.below_root; current_is_task = w.current_is_task; numbered = w.numbered; are_words = w.are_words; no_task = w.no_task; no_register = w.no_register })))

module _ (settings : Settings) (s : State) (w : IsWellFormed settings s) where
  task_at : (t : ℕ) → t ≡ s.current → is_task s t ≡ true
  task_at t is = subst (λ k. is_task s k ≡ true) (sym is) w.tasks.current_is_task

  -- another subpool
  subpool_sight : (n : ℕ) → n ≤ 127 → SightIsSound (with_subpool s n s.current)
  subpool_sight n private = record {
    owner_is_task = λ m t there.
        elim (or_cases ((m == n) && (t == s.current)) (s.subpools m t) there) [
          | inl new ↦ task_at t (eqb-true t s.current (and_parts (m == n) (t == s.current) new).1)
          | inr old ↦ w.sight.owner_is_task m t old
        ];
    owner_sees = λ m t there.
        elim (cases_Bool ((t == s.current) && (m == n))) [
          | inl own ↦ cond-true _ _ _ own ∙ ap Some (sym (eqb-true t s.current (and_parts (t == s.current) (m == n) own).0))
          | inr other ↦ cond-false _ _ _ other
              ∙ elim (or_cases ((m == n) && (t == s.current)) (s.subpools m t) there) [
                | inl new ↦ let parts = and_parts (m == n) (t == s.current) new in
                    absurd (both_ways _ other (and_from (t == s.current) (m == n) parts.1 parts.0))
                | inr old ↦ w.sight.owner_sees m t old
              ]
        ];
    is_private = λ m t there.
        elim (or_cases ((m == n) && (t == s.current)) (s.subpools m t) there) [
          | inl new ↦ let same = eqb-true m n (and_parts (m == n) (t == s.current) new).0 in omega (arith, same, private)
          | inr old ↦ w.sight.is_private m t old
        ];
    seer_is_task = λ t m v e.
        chosen ((t == s.current) && (m == n)) (Some s.current) (s.sight t m) (Some v) _ e
        (λ own _. task_at t (eqb-true t s.current (and_parts (t == s.current) (m == n) own).0))
        (λ _ old. w.sight.seer_is_task t m v old);
    seen_is_there = λ t m v e.
        chosen ((t == s.current) && (m == n)) (Some s.current) (s.sight t m) (Some v) _ e
        (λ own is. or_left ((m == n) && (v == s.current)) (s.subpools m v)
        (and_from (m == n) (v == s.current) (and_parts (t == s.current) (m == n) own).1 (eq-eqb v s.current (sym (same_some s.current v is)))))
        (λ _ old. or_right ((m == n) && (v == s.current)) (s.subpools m v) (w.sight.seen_is_there t m v old));
    sees_zero = λ t is.
        elim (cases_Bool ((t == s.current) && (0 == n))) [
          | inl own ↦ (
            s.current,
            cond-true _ _ _ own,
            or_left (t == s.current) _ (and_parts (t == s.current) (0 == n) own).0,
          )
          | inr other ↦ let (owner, sees, above) = w.sight.sees_zero t is in (owner, cond-false _ _ _ other ∙ sees, above)
        ];
  }

  subpool_kept : (n : ℕ) → n ≤ 127 → IsWellFormed settings (with_subpool s n s.current)
  subpool_kept n private = record {
    pages = record {
      in_region = w.pages.in_region;
      has_subpool = λ k p e. or_right ((p.number == n) && (p.owner == s.current)) (s.subpools p.number p.owner) (w.pages.has_subpool k p e);
      has_taken = w.pages.has_taken;
      in_page = w.pages.in_page;
      has_bytes = w.pages.has_bytes;
      are_bytes = w.pages.are_bytes;
    };
    sight = subpool_sight n private;
    tasks = same_tasks s (with_subpool s n s.current) refl refl refl w.tasks;
    cell_pools = record {
      ascending = w.cell_pools.ascending;
      few = w.cell_pools.few;
      each = λ k d below. pool_still s (with_subpool s n s.current) _
          (λ there. or_right _ _ there)
          (λ x i. record { has_cells = i.has_cells; on_doubleword = i.on_doubleword; is_taken = i.is_taken; in_pages = i.in_pages })
          (w.cell_pools.each k d below);
      apart = w.cell_pools.apart;
    };
  }

  -- the subpool that the task sees at the number, or a new one of its own
  pub own_kept : (n : ℕ) → n ≤ 127 → IsWellFormed settings (with_own s n)
  own_kept n private =
      elim (sees_one s n) as (λ b. IsWellFormed settings (if b then s else with_subpool s n s.current)) [
        | true ↦ w
        | false ↦ subpool_kept n private
      ]

  pub own_is_there : (n : ℕ) → (with_own s n).subpools (seen_or_own s n).number (seen_or_own s n).owner ≡ true
  own_is_there n =
      elim (s.sight s.current n) as (λ o. s.sight s.current n ≡ o → (if is_some o then s else with_subpool s n s.current).subpools n (unwrap_or o s.current) ≡ true) [
        | None ↦ λ none. or_left ((n == n) && (s.current == s.current)) (s.subpools n s.current) (and_from (n == n) (s.current == s.current) (eq-eqb n n refl) (eq-eqb s.current s.current refl))
        | Some owner ↦ λ seen. w.sight.seen_is_there s.current n owner seen
      ] refl

  -- an area of free doublewords is taken
  taken_kept : (r : Region) (p : Subpool) (d count : ℕ) → all_pass (λ k. within r (k / 512) && is_free s p k) d count ≡ true → IsWellFormed settings (with_taken s d count)
  taken_kept r p d count free = record {
    pages = record {
      in_region = w.pages.in_region;
      has_subpool = w.pages.has_subpool;
      has_taken = λ k q e. let (j, at, taken) = w.pages.has_taken k q e in (j, at, or_right (among d count j) (s.taken j) taken);
      in_page = λ j taken.
          elim (or_cases (among d count j) (s.taken j) taken) [
            | inl new ↦
                let place = among_in d count j new in
                let here = all_pass_at (λ k. within r (k / 512) && is_free s p k) d count j free place.0 place.1 in
                ap is_some (belongs_is p (s.pages (j / 512)) (and_parts _ _ (and_parts _ _ here).1).0)
            | inr old ↦ w.pages.in_page j old
          ];
      has_bytes = w.pages.has_bytes;
      are_bytes = w.pages.are_bytes;
    };
    sight = same_sight s (with_taken s d count) refl refl refl w.sight;
    tasks = same_tasks s (with_taken s d count) refl refl refl w.tasks;
    cell_pools = record {
      ascending = w.cell_pools.ascending;
      few = w.cell_pools.few;
      each = λ k e below. pool_still s (with_taken s d count) _ (λ there. there)
          (λ x i. record { has_cells = i.has_cells; on_doubleword = i.on_doubleword; is_taken = λ j own. or_right (among d count j) (s.taken j) (i.is_taken j own); in_pages = i.in_pages })
          (w.cell_pools.each k e below);
      apart = w.cell_pools.apart;
    };
  }

  -- an area in new pages is taken
  module _ (r : Region) (its : IsOf settings r) (p : Subpool) (there : s.subpools p.number p.owner ≡ true) (page count : ℕ) (run : is_open_run s r (pages_for count) page ≡ true) where
    after : State
    after = with_taken (with_pages s p page (pages_for count)) (512 * page) count

    open_at : (k : ℕ) → among page (pages_for count) k ≡ true → (within r k && not (is_some (s.pages k))) ≡ true
    open_at k new =
        let at = among_in page (pages_for count) k new in
        all_pass_at (λ j. within r j && not (is_some (s.pages j))) page (pages_for count) k run at.0 at.1

    -- a page that was assigned is none of them
    not_new : (k : ℕ) (q : Subpool) → s.pages k ≡ Some q → among page (pages_for count) k ≡ false
    not_new k q e =
        false_from_ne_true (among page (pages_for count) k)
        (λ new. both_ways (is_some (s.pages k)) (not-true (is_some (s.pages k)) (and_parts (within r k) _ (open_at k new)).1) (ap is_some e))

    fresh_pages : PagesAreSound settings after
    unfolding after
    fresh_pages = record {
      in_region = λ k q e.
          chosen (among page (pages_for count) k) (Some p) (s.pages k) (Some q) _ e
          (λ new _. its k (and_parts (within r k) _ (open_at k new)).0)
          (λ _ old. w.pages.in_region k q old);
      has_subpool = λ k q e.
          chosen (among page (pages_for count) k) (Some p) (s.pages k) (Some q) _ e
          (λ _ is. subst (λ (q : Subpool). s.subpools q.number q.owner ≡ true) (same_some p q is) there)
          (λ _ old. w.pages.has_subpool k q old);
      has_taken = λ k q e.
          chosen (among page (pages_for count) k) (Some p) (s.pages k) (Some q) _ e
          (λ new _. let at = among_in page (pages_for count) k new in
          (512 * k, omega arith, or_left (among (512 * page) count (512 * k)) (s.taken (512 * k)) (in_among (512 * page) count (512 * k) (omega arith) (omega arith))))
          (λ _ old. let (j, at, taken) = w.pages.has_taken k q old in (j, at, or_right (among (512 * page) count j) (s.taken j) taken));
      in_page = λ j taken.
          is_some_of (among page (pages_for count) (j / 512)) (Some p) (s.pages (j / 512)) (λ _. refl)
          (λ out. elim (or_cases (among (512 * page) count j) (s.taken j) taken) [
            | inl new ↦ let at = among_in (512 * page) count j new in
                absurd (both_ways _ out (in_among page (pages_for count) (j / 512) (omega arith) (omega arith)))
            | inr old ↦ w.pages.in_page j old
          ]);
      has_bytes = λ a. both_some (among page (pages_for count) (a / 4096)) (Some 0) (s.bytes a) (Some p) (s.pages (a / 4096)) refl (w.pages.has_bytes a);
      are_bytes = λ a byte e.
          chosen (among page (pages_for count) (a / 4096)) (Some 0) (s.bytes a) (Some byte) _ e
          (λ _ is. let same = same_some 0 byte is in omega (arith, same))
          (λ _ old. w.pages.are_bytes a byte old);
    }

    fresh_kept : IsWellFormed settings (with_taken (with_pages s p page (pages_for count)) (512 * page) count)
    unfolding after
    fresh_kept = record {
      pages = fresh_pages;
      sight = same_sight s after refl refl refl w.sight;
      tasks = same_tasks s after refl refl refl w.tasks;
      cell_pools = record {
        ascending = w.cell_pools.ascending;
        few = w.cell_pools.few;
        each = λ k e below. pool_still s after _ (λ there. there)
            (λ x i. record {
              has_cells = i.has_cells;
              on_doubleword = i.on_doubleword;
              is_taken = λ j own. or_right (among (512 * page) count j) (s.taken j) (i.is_taken j own);
              in_pages = λ j own. cond-false (among page (pages_for count) (j / 512)) (Some p) (s.pages (j / 512)) (not_new (j / 512) _ (i.in_pages j own)) ∙ i.in_pages j own;
            })
            (w.cell_pools.each k e below);
        apart = w.cell_pools.apart;
      };
    }

  -- an area goes to its place
  pub area_kept : (p : Subpool) → s.subpools p.number p.owner ≡ true → (count boundary : ℕ) (goes : Place) → Goes (IsOf settings) s p count boundary goes → IsWellFormed settings (with_area s p count goes)
  area_kept p there count boundary (Inside d) (r, its, fit) =
      taken_kept r p d count (and_parts ((d % boundary) == 0) (all_pass (λ k. within r (k / 512) && is_free s p k) d count) fit).1
  area_kept p there count boundary (Fresh page) (r, its, run) = fresh_kept r its p there page count run
  area_kept p there count boundary Nowhere goes = w

  -- an area in use is released
  module _ (p : Subpool) (d count : ℕ) (used : some_pass (is_not_taken s p) d count ≡ false) where
    left : ℕ → Bool
    left k = not (among d count k) && s.taken k

    its_own : (j : ℕ) → among d count j ≡ true → (holds (same_subpool p) (s.pages (j / 512)) && s.taken j) ≡ true
    its_own j own = not-false _ (none_pass_at (is_not_taken s p) d count j used own)

    -- a page that keeps a taken doubleword stays
    busy : (k j : ℕ) → j / 512 ≡ k → left j ≡ true → (holds (same_subpool p) (s.pages k) && is_idle left k) ≡ false
    unfolding is_idle
    busy k j at taken =
        false_from_ne_true (holds (same_subpool p) (s.pages k) && is_idle left k) (λ gone.
        let idle = and_parts (holds (same_subpool p) (s.pages k)) (is_idle left k) gone in
        both_ways (left j) (not-true (left j) (all_pass_at (λ j. not (left j)) (k * 512) 512 j idle.1 (omega (arith, at)) (omega (arith, at)))) taken)

    released_pages : PagesAreSound settings (without_area s p d count)
    unfolding is_idle left
    released_pages = record {
      in_region = λ k q e.
          chosen (holds (same_subpool p) (s.pages k) && is_idle left k) None (s.pages k) (Some q) _ e
          (λ _ is. absurd (none_some q is)) (λ _ old. w.pages.in_region k q old);
      has_subpool = λ k q e.
          chosen (holds (same_subpool p) (s.pages k) && is_idle left k) None (s.pages k) (Some q) _ e
          (λ _ is. absurd (none_some q is)) (λ _ old. w.pages.has_subpool k q old);
      has_taken = λ k q e.
          chosen (holds (same_subpool p) (s.pages k) && is_idle left k) None (s.pages k) (Some q) _ e
          (λ _ is. absurd (none_some q is))
          (λ stays old.
          elim (and_cases (holds (same_subpool p) (s.pages k)) (is_idle left k) stays) [
            | inl other ↦
                let (j, at, taken) = w.pages.has_taken k q old in
                elim (cases_Bool (among d count j)) [
                  | inl given ↦ absurd (both_ways (holds (same_subpool p) (s.pages k)) other
                      (subst (λ k. holds (same_subpool p) (s.pages k) ≡ true) at (and_parts _ _ (its_own j given)).0))
                  | inr out ↦ (j, at, and_from (not (among d count j)) (s.taken j) (ap not out) taken)
                ]
            | inr still ↦
                let (j, from, below, at) = all_pass_witness (λ j. not (left j)) (k * 512) 512 still in
                (j, omega arith, not-false (left j) at)
          ]);
      in_page = λ j taken.
          ap is_some (cond-false (holds (same_subpool p) (s.pages (j / 512)) && is_idle left (j / 512)) None (s.pages (j / 512)) (busy (j / 512) j refl taken))
          ∙ w.pages.in_page j (and_parts (not (among d count j)) (s.taken j) taken).1;
      has_bytes = λ a. both_some (holds (same_subpool p) (s.pages (a / 4096)) && is_idle left (a / 4096)) None (s.bytes a) None (s.pages (a / 4096)) refl (w.pages.has_bytes a);
      are_bytes = λ a byte e.
          chosen (holds (same_subpool p) (s.pages (a / 4096)) && is_idle left (a / 4096)) None (s.bytes a) (Some byte) _ e
          (λ _ is. absurd (none_some byte is)) (λ _ old. w.pages.are_bytes a byte old);
    }

    -- an extent that has none of its doublewords stays in its subpool
    extent_stays : (pool : CellPool) (x : CellExtent) → ((j : ℕ) → among (x.address / 8) (extent_doublewords pool x.cells) j ≡ true → among d count j ≡ false) →
        IsInSubpool s pool x → IsInSubpool (without_area s p d count) pool x
    unfolding left
    extent_stays pool x apart i = record {
      has_cells = i.has_cells;
      on_doubleword = i.on_doubleword;
      is_taken = λ j own. and_from (not (among d count j)) (s.taken j) (ap not (apart j own)) (i.is_taken j own);
      in_pages = λ j own.
          cond-false (holds (same_subpool p) (s.pages (j / 512)) && is_idle left (j / 512)) None (s.pages (j / 512))
          (busy (j / 512) j refl (and_from (not (among d count j)) (s.taken j) (ap not (apart j own)) (i.is_taken j own)))
          ∙ i.in_pages j own;
    }

    pub released_kept :
        All (λ row. All (λ x. (j : ℕ) → among (x.address / 8) (extent_doublewords row.1 x.cells) j ≡ true → among d count j ≡ false) row.1.extents) s.cell_pools →
        IsWellFormed settings (without_area s p d count)
    released_kept apart = record {
      pages = released_pages;
      sight = same_sight s (without_area s p d count) refl refl refl w.sight;
      tasks = same_tasks s (without_area s p d count) refl refl refl w.tasks;
      cell_pools = record {
        ascending = w.cell_pools.ascending;
        few = w.cell_pools.few;
        each = λ k row below.
            let was = w.cell_pools.each k row below in
            record {
              has_subpool = was.has_subpool;
              in_subpool = λ i x under. extent_stays _ _ (apart k row below i x under) (was.in_subpool i x under);
              are_cells_of_it = was.are_cells_of_it;
              distinct = was.distinct;
              bounds = was.bounds;
            };
        apart = w.cell_pools.apart;
      };
    }

  -- a whole subpool is emptied
  module _ (p : Subpool) where
    emptied : State
    emptied = without_storage s (same_subpool p)

    emptied_pages : PagesAreSound settings emptied
    unfolding emptied
    emptied_pages = record {
      in_region = λ k q e.
          chosen (holds (same_subpool p) (s.pages k)) None (s.pages k) (Some q) _ e
          (λ _ is. absurd (none_some q is)) (λ _ old. w.pages.in_region k q old);
      has_subpool = λ k q e.
          chosen (holds (same_subpool p) (s.pages k)) None (s.pages k) (Some q) _ e
          (λ _ is. absurd (none_some q is)) (λ _ old. w.pages.has_subpool k q old);
      has_taken = λ k q e.
          chosen (holds (same_subpool p) (s.pages k)) None (s.pages k) (Some q) _ e
          (λ _ is. absurd (none_some q is))
          (λ other old. let (j, at, taken) = w.pages.has_taken k q old in
          (j, at, and_from (not (holds (same_subpool p) (s.pages (j / 512)))) (s.taken j) (ap (λ i. not (holds (same_subpool p) (s.pages i))) at ∙ ap not other) taken));
      in_page = λ j taken.
          let parts = and_parts (not (holds (same_subpool p) (s.pages (j / 512)))) (s.taken j) taken in
          ap is_some (cond-false (holds (same_subpool p) (s.pages (j / 512))) None (s.pages (j / 512)) (not-true _ parts.0)) ∙ w.pages.in_page j parts.1;
      has_bytes = λ a. both_some (holds (same_subpool p) (s.pages (a / 4096))) None (s.bytes a) None (s.pages (a / 4096)) refl (w.pages.has_bytes a);
      are_bytes = λ a byte e.
          chosen (holds (same_subpool p) (s.pages (a / 4096))) None (s.bytes a) (Some byte) _ e
          (λ _ is. absurd (none_some byte is)) (λ _ old. w.pages.are_bytes a byte old);
    }

    -- a cell pool of another subpool stays
    other_stays : (row : List ℕ × CellPool) → PoolIsSound s row.1 → not (same_subpool p row.1.subpool) ≡ true → PoolIsSound emptied row.1
    unfolding emptied
    other_stays row was other =
        pool_still s emptied row.1 (λ there. there)
        (λ x i. record {
          has_cells = i.has_cells;
          on_doubleword = i.on_doubleword;
          is_taken = λ j own. and_from (not (holds (same_subpool p) (s.pages (j / 512)))) (s.taken j) (ap (λ o. not (holds (same_subpool p) o)) (i.in_pages j own) ∙ other) (i.is_taken j own);
          in_pages = λ j own.
              cond-false (holds (same_subpool p) (s.pages (j / 512))) None (s.pages (j / 512)) (ap (holds (same_subpool p)) (i.in_pages j own) ∙ not-true _ other) ∙ i.in_pages j own;
        }) was

    pub emptied_kept : IsWellFormed settings (without_storage s (same_subpool p))
    unfolding emptied
    emptied_kept = record {
      pages = emptied_pages;
      sight = same_sight s emptied refl refl refl w.sight;
      tasks = same_tasks s emptied refl refl refl w.tasks;
      cell_pools = record {
        ascending = ascending_part (λ row. not (same_subpool p row.1.subpool)) s.cell_pools w.cell_pools.ascending;
        few = let less = fewer (λ row. not (same_subpool p row.1.subpool)) s.cell_pools in let most = w.cell_pools.few in omega (arith, less, most);
        each = all_passing (λ row. PoolIsSound s row.1) (λ row. PoolIsSound emptied row.1) (λ row. not (same_subpool p row.1.subpool)) s.cell_pools other_stays w.cell_pools.each;
        apart = pairs_of_part (λ row. map (λ x. (x.address, x.address + 8 * extent_doublewords row.1 x.cells)) row.1.extents)
            (λ row. not (same_subpool p row.1.subpool)) (λ x y. (x.1 ≤ y.0) ⊎ (y.1 ≤ x.0)) s.cell_pools w.cell_pools.apart;
      };
    }

  -- bytes of assigned pages are stored
  module _ (address : ℕ) (bytes : List ℕ) (there : are_there s address (length bytes) ≡ true) (are : All (λ byte. byte < 256) bytes) where
    byte_is_there : (bytes : List ℕ) (k : ℕ) → k < length bytes → is_some (slice_get bytes k) ≡ true
    byte_is_there [] k h = absurd (omega (arith, h))
    byte_is_there (b ∷ bytes) zero h = refl
    byte_is_there (b ∷ bytes) (suc k) h = byte_is_there bytes k (omega (arith, h))

    byte_at : (bytes : List ℕ) (k byte : ℕ) → All (λ byte. byte < 256) bytes → slice_get bytes k ≡ Some byte → byte < 256
    byte_at [] k byte are e = absurd (none_some byte e)
    byte_at (b ∷ bytes) zero byte are e = let same = same_some b byte e in let first = are 0 0 (omega arith) in subst (λ n. n < 256) same first
    byte_at (b ∷ bytes) (suc k) byte are e = byte_at bytes k byte (λ j d below. are (suc j) d (omega (arith, below))) e

    stored_there : (a : ℕ) → is_some (if among address (length bytes) a then slice_get bytes (a - address) else s.bytes a) ≡ is_some (s.pages (a / 4096))
    stored_there a =
        elim (cases_Bool (among address (length bytes) a)) [
          | inl own ↦
              let at = among_in address (length bytes) a own in
              ap is_some (cond-true (among address (length bytes) a) (slice_get bytes (a - address)) (s.bytes a) own)
              ∙ byte_is_there bytes (a - address) (omega (arith, at.0, at.1))
              ∙ sym (all_pass_at (λ a. is_some (s.bytes a)) address (length bytes) a there at.0 at.1)
              ∙ w.pages.has_bytes a
          | inr other ↦ ap is_some (cond-false (among address (length bytes) a) (slice_get bytes (a - address)) (s.bytes a) other) ∙ w.pages.has_bytes a
        ]

    pub stored_kept : IsWellFormed settings (with_bytes s address bytes)
    stored_kept = record {
      pages = record {
        in_region = w.pages.in_region;
        has_subpool = w.pages.has_subpool;
        has_taken = w.pages.has_taken;
        in_page = w.pages.in_page;
        has_bytes = stored_there;
        are_bytes = λ a byte e.
            chosen (among address (length bytes) a) (slice_get bytes (a - address)) (s.bytes a) (Some byte) _ e
            (λ _ is. byte_at bytes (a - address) byte are is) (λ _ old. w.pages.are_bytes a byte old);
      };
      sight = same_sight s (with_bytes s address bytes) refl refl refl w.sight;
      tasks = same_tasks s (with_bytes s address bytes) refl refl refl w.tasks;
      cell_pools = record {
        ascending = w.cell_pools.ascending;
        few = w.cell_pools.few;
        each = λ k d below. pool_still s (with_bytes s address bytes) _ (λ there. there)
            (λ x i. record { has_cells = i.has_cells; on_doubleword = i.on_doubleword; is_taken = i.is_taken; in_pages = i.in_pages })
            (w.cell_pools.each k d below);
        apart = w.cell_pools.apart;
      };
    }
