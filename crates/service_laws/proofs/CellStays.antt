-- A cell that is in use stays in use until it's freed or its cell pool is gone.
use Rattle.std.proofs.Common.{◌≡◌, ◌≢◌, ◌⊎◌, ℕ, ◌/◌, Ordering, Less, Equal, Greater, Bool, true, false, not, ◌||◌, ◌==◌, if◌then◌else◌, Option, Some, None, List, [], ◌∷◌, ◌++◌, map, filter, refl, sym, ◌∙◌, ap, subst, arith, inl, inr, true≢false}
use Rattle.std.specs.Prelude.{unwrap_or}
use Rattle.std.specs.Option.{option_map}
use Rattle.std.specs.Ordering.{eq_by_cmp, is_lt, is_eq}
use Rattle.std.specs.FinMap.{is_sorted}
use Rattle.std.specs.FinMap.Entries.{below_all}
use Rattle.std.proofs.lemmas.Bool.{cases_Bool, and_parts, and_from, or_parts, or_right, both_ways, not-true, false_from_ne_true, eqb-true}
use Rattle.vsm_model.specs.declared.limits.Settings.{Settings}
use Rattle.vsm_model.specs.declared.replies.Reply.{Reply}
use Rattle.vsm_model.specs.declared.services.Attach.{Attach}
use Rattle.vsm_model.specs.declared.services.Get.{Get}
use Rattle.vsm_model.specs.Search.{is_in}
use Rattle.vsm_model.specs.CellPools.{CellPool, CellPools, CellExtent, cell_pool_in, extent_cells, cells_of, extent_doublewords, with_extent}
use Rattle.vsm_model.specs.State.{State}
use Rattle.vsm_model.specs.Ending.{is_in_subtree}
use Rattle.vsm_model.specs.Subpools.{same_subpool, seen_or_own, with_own}
use Rattle.vsm_model.specs.Services.{Service, obtain, release, whole, attach, detach, end_task, run, store, build, get, free, delete}
use Rattle.vsm_model.specs.Standing.{Accepted}
use Rattle.vsm_model.specs.Registers.{registers_set}
use Rattle.vsm_model.specs.Obtaining.{longest, place_for}
use Rattle.vsm_model.specs.Passing.{handed_on, with_gift, with_gifts, with_share, with_shares, numbers_in}
use Rattle.vsm_model.specs.Tasks.{free_number, with_task, with_zero, attached}
use Rattle.vsm_model.specs.Cells.{is_in_use}
use Rattle.vsm_model.specs.Step.{step, effect}
use Rattle.vsm_model.specs.WellFormed.{IsWellFormed}
use Rattle.vsm_model.proofs.Chosen.{accepted_has_its_effect}
use Rattle.vsm_model.proofs.Registered.{words_alone}
use Rattle.service_laws.specs.Promises.{IsFreed, IsHandedOut, IsFirstFree, IsFirstOfFurther, OthersStay}
use Rattle.service_laws.specs.InUse.{IsInUse, CanEnd, StaysInUse}
use Rattle.service_laws.proofs.CellTables.{order, same_name, same_pool, below_none}
use Rattle.service_laws.proofs.CellLists.{in_left, cell_within, cell_bounds}
use Rattle.service_laws.proofs.Spans.{in-among}
use Rattle.service_laws.proofs.Placed.{area_table}
use Rattle.service_laws.proofs.Pools.{sound_of}
use Rattle.service_laws.proofs.Getting.{cells_grown}
use Rattle.service_laws.proofs.Building.{own_alone}
use Rattle.service_laws.proofs.Answered.{state_is}
use Rattle.service_laws.proofs.Promised.{free_makes_a_cell_free, get_hands_out_a_cell}
use Rattle.service_laws.proofs.BuiltAndDeleted.{build_makes_a_cell_pool, delete_gives_its_extents_back}
use Rattle.service_laws.proofs.Apart.{same_or_other, cell_is_taken}

less : (o : Ordering) → is_lt o ≡ true → is_eq o ≡ false
less Less e = refl
less Equal e = absurd (true≢false (sym e))
less Greater e = absurd (true≢false (sym e))

module _ (keep : CellPool → Bool) where
  abbrev kept_rows : CellPools → CellPools
  kept_rows table = filter (λ row. keep row.1) table

  below_kept : (first : List ℕ) (table : CellPools) → below_all order first table ≡ true → below_all order first (kept_rows table) ≡ true
  below_kept first [] below = refl
  below_kept first (row ∷ table) below =
      let parts = and_parts (is_lt (order first row.0)) (below_all order first table) below in
      elim (keep row.1) as (λ b. below_all order first (if b then row ∷ kept_rows table else kept_rows table) ≡ true) [
        | true ↦ and_from (is_lt (order first row.0)) (below_all order first (kept_rows table)) parts.0 (below_kept first table parts.1)
        | false ↦ below_kept first table parts.1
      ]

  none_above : (name : List ℕ) (table : CellPools) → below_all order name table ≡ true → cell_pool_in table name ≡ None
  none_above name [] below = refl
  none_above name (row ∷ table) below =
      let parts = and_parts (is_lt (order name row.0)) (below_all order name table) below in
      ap (λ b. if b then Some row.1 else cell_pool_in table name) (less (order name row.0) parts.0) ∙ none_above name table parts.1

  abbrev StaysOrNot : CellPools → List ℕ → CellPool → Type 0
  StaysOrNot table name pool = (cell_pool_in table name ≡ Some pool) ⊎ (cell_pool_in table name ≡ None)

  -- a cell pool that isn't kept is gone
  pub found_kept : (table : CellPools) (name : List ℕ) (pool : CellPool) → is_sorted order table ≡ true → cell_pool_in table name ≡ Some pool →
      StaysOrNot (kept_rows table) name pool
  found_kept [] name pool up found = inl found
  found_kept (row ∷ table) name pool up found =
      let parts = and_parts (below_all order row.0 table) (is_sorted order table) up in
      elim (order name row.0) as (λ o. order name row.0 ≡ o → StaysOrNot (kept_rows (row ∷ table)) name pool) [
        | Less ↦ λ e. absurd (some_none pool (sym found ∙ ap (λ o. if is_eq o then Some row.1 else cell_pool_in table name) e ∙ below_none name row.0 table e parts.0))
        | Equal ↦ λ e.
            let value : Some row.1 ≡ Some pool = sym (ap (λ o. if is_eq o then Some row.1 else cell_pool_in table name) e) ∙ found in
            let above : below_all order name table ≡ true = ap (λ k. below_all order k table) (same_name name row.0 e) ∙ parts.0 in
            elim (keep row.1) as (λ b. StaysOrNot (if b then row ∷ kept_rows table else kept_rows table) name pool) [
              | true ↦ inl (ap (λ o. if is_eq o then Some row.1 else cell_pool_in (kept_rows table) name) e ∙ value)
              | false ↦ inr (none_above name (kept_rows table) (below_kept name table above))
            ]
        | Greater ↦ λ e.
            let rest = found_kept table name pool parts.1 (sym (ap (λ o. if is_eq o then Some row.1 else cell_pool_in table name) e) ∙ found) in
            let still : cell_pool_in (row ∷ kept_rows table) name ≡ cell_pool_in (kept_rows table) name =
            ap (λ o. if is_eq o then Some row.1 else cell_pool_in (kept_rows table) name) e in
            elim (keep row.1) as (λ b. StaysOrNot (if b then row ∷ kept_rows table else kept_rows table) name pool) [
              | true ↦ either still rest
              | false ↦ rest
            ]
      ] refl where
        some_none : (p : CellPool) → ◌≡◌ {A = Option CellPool} (Some p) None → ⊥
        some_none p e = cc

        either : {o p : Option CellPool} → o ≡ p → (p ≡ Some pool) ⊎ (p ≡ None) → (o ≡ Some pool) ⊎ (o ≡ None)
        either e (inl is) = inl (e ∙ is)
        either e (inr is) = inr (e ∙ is)

-- with other values the names have those
mapped_pool : (f : CellPool → CellPool) (table : CellPools) (name : List ℕ) →
    cell_pool_in (map (λ row. (row.0, f row.1)) table) name ≡ option_map f (cell_pool_in table name)
mapped_pool f [] name = refl
mapped_pool f (row ∷ table) name =
    elim (eq_by_cmp order name row.0) as (λ b. (if b then Some (f row.1) else cell_pool_in (map (λ row. (row.0, f row.1)) table) name)
    ≡ option_map f (if b then Some row.1 else cell_pool_in table name)) [
      | true ↦ refl
      | false ↦ mapped_pool f table name
    ]

module _ (name : List ℕ) (cell : ℕ) where
  abbrev Stays : CellPools → Type 0
  Stays table = IsInUse table name cell ⊎ (cell_pool_in table name ≡ None)

  same_use : (table new : CellPools) → new ≡ table → IsInUse table name cell → IsInUse new name cell
  same_use table new e busy = subst (λ t. IsInUse t name cell) (sym e) busy

  kept_use : (keep : CellPool → Bool) (table : CellPools) → is_sorted order table ≡ true → IsInUse table name cell → Stays (filter (λ row. keep row.1) table)
  kept_use keep table up (pool, found, used) =
      elim (found_kept keep table name pool up found) [
        | inl still ↦ inl (pool, still, used)
        | inr gone ↦ inr gone
      ]

  gift_use : (s : State) (old new number : ℕ) → IsInUse s.cell_pools name cell → IsInUse (with_gift s old new number).cell_pools name cell
  gift_use s old new number (pool, found, used) = (
    record pool { subpool = handed_on number old new pool.subpool },
    mapped_pool (λ p. record p { subpool = handed_on number old new p.subpool }) s.cell_pools name
        ∙ ap (option_map (λ (p : CellPool). record p { subpool = handed_on number old new p.subpool })) found,
    used,
  )

  gifts_use : (numbers : List ℕ) (s : State) (task : ℕ) → IsInUse s.cell_pools name cell → IsInUse (with_gifts s task numbers).cell_pools name cell
  gifts_use [] s task busy = busy
  gifts_use (number ∷ numbers) s task busy = gifts_use numbers (with_gift s s.current task number) task (gift_use s s.current task number busy)

  pub own_table : (s : State) (number : ℕ) → (with_own s number).cell_pools ≡ s.cell_pools
  own_table s number = ap (λ (u : State). u.cell_pools) (own_alone s number)

  pub shares_table : (numbers : List ℕ) (s : State) (task : ℕ) → (with_shares s task numbers).cell_pools ≡ s.cell_pools
  shares_table [] s task = refl
  shares_table (number ∷ numbers) s task = shares_table numbers (with_share s task number) task ∙ own_table s number

  pub zero_table : (s : State) (task : ℕ) (shares : Bool) → (with_zero s task shares).cell_pools ≡ s.cell_pools
  zero_table s task true = own_table s 0
  zero_table s task false = refl

  attached_use : (s : State) (a : Attach) → IsInUse s.cell_pools name cell → IsInUse (attached s a).0.cell_pools name cell
  attached_use s a busy =
      let task : ℕ = unwrap_or (free_number s) 0 in
      let began : State = with_zero (with_task s task) task a.shares_zero in
      let given : List ℕ = unwrap_or (numbers_in s a.given) [] in
      same_use (with_gifts began task given).cell_pools _ (shares_table (unwrap_or (numbers_in s a.shared) []) (with_gifts began task given) task)
      (gifts_use given began task (same_use s.cell_pools began.cell_pools (zero_table (with_task s task) task a.shares_zero) busy))

  -- the table of what is left is that of the effect
  by_effect : (settings : Settings) (names_full : Bool) (s t : State) (x : Service) (reply : Reply) → step settings names_full s x ≡ Accepted t reply →
      (P : CellPools → Type 0) → P s.cell_pools → P (effect settings s x).0.cell_pools → P t.cell_pools
  by_effect settings names_full s t x reply e P before after_it =
      elim (accepted_has_its_effect settings names_full s t x reply e) [
        | inl done ↦
            let after : State = (effect settings s x).0 in
            let same : t.cell_pools ≡ after.cell_pools =
            ap (λ (u : State). u.cell_pools) (sym (state_is x (effect settings s x) t reply done.1))
            ∙ ap (λ (u : State). u.cell_pools) (words_alone (registers_set x (effect settings s x).1) after) in
            subst P (sym same) after_it
        | inr four ↦ subst P (sym (ap (λ (u : State). u.cell_pools) four.2)) before
      ]

  abbrev Kept : Service → CellPools → Type 0
  Kept x table = IsInUse table name cell ⊎ (x ≡ free name cell) ⊎ (CanEnd x name × (cell_pool_in table name ≡ None))

  -- a service that leaves the cell in use,
  kept_by : (settings : Settings) (names_full : Bool) (s t : State) (x : Service) (reply : Reply) → step settings names_full s x ≡ Accepted t reply →
      IsInUse s.cell_pools name cell → IsInUse (effect settings s x).0.cell_pools name cell → Kept x t.cell_pools
  kept_by settings names_full s t x reply e before after_it =
      inl (by_effect settings names_full s t x reply e (λ table. IsInUse table name cell) before after_it)

  -- and one by which its cell pool can be gone
  ended_by : (settings : Settings) (names_full : Bool) (s t : State) (x : Service) (reply : Reply) → step settings names_full s x ≡ Accepted t reply →
      CanEnd x name → IsInUse s.cell_pools name cell → Stays (effect settings s x).0.cell_pools → Kept x t.cell_pools
  ended_by settings names_full s t x reply e can before after_it =
      elim (by_effect settings names_full s t x reply e Stays (inl before) after_it) [
        | inl still ↦ inl still
        | inr gone ↦ inr (inr (can, gone))
      ]

  others_use : (s t : State) (other : List ℕ) → OthersStay s t other → name ≢ other → IsInUse s.cell_pools name cell → IsInUse t.cell_pools name cell
  others_use s t other stay apart (pool, found, used) = (pool, stay name apart ∙ found, used)

  -- the first free cell isn't the one in use
  after_first : (s t : State) (pool : CellPool) (handed : ℕ) → cell_pool_in s.cell_pools name ≡ Some pool → IsFirstFree s t name pool handed →
      IsInUse s.cell_pools name cell → IsInUse t.cell_pools name cell
  after_first s t pool handed at h (q, found, used) =
      let is : q ≡ pool = same_pool q pool (sym found ∙ at) in
      let parts = and_parts (is_in (cells_of pool) cell) (not (is_in pool.free cell)) (subst (λ (r : CellPool). is_in_use r cell ≡ true) is used) in
      let not_free : is_in (handed ∷ h.rest) cell ≡ false = ap (λ xs. is_in xs cell) (sym h.was_first) ∙ not-true (is_in pool.free cell) parts.1 in (
        record pool { free = h.rest },
        h.after,
        and_from (is_in (cells_of pool) cell) (not (is_in h.rest cell)) parts.0 (ap not (or_parts (handed == cell) (is_in h.rest cell) not_free).1),
      )

  -- nor is a cell of another extent
  after_further : (settings : Settings) (s t : State) (w : IsWellFormed settings s) (pool : CellPool) (handed : ℕ) → cell_pool_in s.cell_pools name ≡ Some pool →
      IsFirstOfFurther settings s t name pool handed → IsInUse s.cell_pools name cell → IsInUse t.cell_pools name cell
  after_further settings s t w pool handed at h (q, found, used) =
      let is : q ≡ pool = same_pool q pool (sym found ∙ at) in
      let parts = and_parts (is_in (cells_of pool) cell) (not (is_in pool.free cell)) (subst (λ (r : CellPool). is_in_use r cell ≡ true) is used) in
      let sound = sound_of s name pool w.cell_pools at in
      let size = (cell_bounds pool.size pool.primary sound.bounds.0).0 in
      let new : CellExtent = record { address = handed; cells = pool.secondary } in
      let not_new : is_in h.rest cell ≡ false =
      false_from_ne_true (is_in h.rest cell) (λ e.
      let its : is_in (extent_cells pool.size new) cell ≡ true = ap (λ xs. is_in xs cell) h.cells ∙ or_right (handed == cell) (is_in h.rest cell) e in
      let place = cell_within pool new cell its in
      let low = place.0 in
      let high = place.1 in
      let on = h.area.on_doubleword in
      both_ways (s.taken (cell / 8))
      (h.area.was_free (cell / 8) (in-among (handed / 8) (extent_doublewords pool pool.secondary) (cell / 8) (omega (arith, low)) (omega (arith, high, size, on))))
      (cell_is_taken s pool cell sound parts.0)) in (
        record pool { extents = pool.extents ++ new ∷ []; free = h.rest },
        h.after,
        and_from (is_in (cells_of (with_extent pool new)) cell) (not (is_in h.rest cell))
            (ap (λ xs. is_in xs cell) (cells_grown pool new) ∙ in_left (cells_of pool) (extent_cells pool.size new) cell parts.0) (ap not not_new),
      )

  after_get : (settings : Settings) (s t : State) (w : IsWellFormed settings s) (other : List ℕ) (g : Get) (handed : ℕ) → IsHandedOut settings s t other g handed →
      IsInUse s.cell_pools name cell → IsInUse t.cell_pools name cell
  after_get settings s t w other g handed h busy =
      elim (same_or_other name other) [
        | inr apart ↦ others_use s t other h.others apart busy
        | inl same ↦
            let at : cell_pool_in s.cell_pools name ≡ Some h.pool = ap (cell_pool_in s.cell_pools) same ∙ h.before.found in
            elim h.source [
              | inl first ↦ after_first s t h.pool handed at (subst (λ n. IsFirstFree s t n h.pool handed) (sym same) first) busy
              | inr further ↦ after_further settings s t w h.pool handed at (subst (λ n. IsFirstOfFurther settings s t n h.pool handed) (sym same) further.1) busy
            ]
      ]

  after_free : (s t : State) (other : List ℕ) (freed : ℕ) → IsFreed s t other freed → IsInUse s.cell_pools name cell → Kept (free other freed) t.cell_pools
  after_free s t other freed h busy =
      elim (same_or_other name other) [
        | inr apart ↦ inl (others_use s t other h.others apart busy)
        | inl same ↦
            elim (cases_Bool (freed == cell)) [
              | inl this ↦ inr (inl (λ i. free (sym same i) (eqb-true freed cell this i)))
              | inr another ↦
                  let is : busy.0 ≡ h.pool = same_pool busy.0 h.pool (sym busy.1 ∙ ap (cell_pool_in s.cell_pools) same ∙ h.before.found) in
                  let parts = and_parts (is_in (cells_of h.pool) cell) (not (is_in h.pool.free cell)) (subst (λ (r : CellPool). is_in_use r cell ≡ true) is busy.2) in
                  inl (
                    record h.pool { free = freed ∷ h.pool.free },
                    ap (cell_pool_in t.cell_pools) same ∙ h.after,
                    and_from (is_in (cells_of h.pool) cell) (not (is_in (freed ∷ h.pool.free) cell)) parts.0
                        (ap not (ap (λ b. b || is_in h.pool.free cell) another ∙ not-true (is_in h.pool.free cell) parts.1)),
                  )
            ]
      ]

some_is_not : (p : CellPool) → ◌≡◌ {A = Option CellPool} None (Some p) → ⊥
some_is_not p e = cc

pub stays_in_use : StaysInUse
stays_in_use settings names_full s t (obtain o) reply name cell w e busy =
    let count : ℕ = unwrap_or (longest settings s o) 0 in
    kept_by name cell settings names_full s t (obtain o) reply e busy
    (same_use name cell s.cell_pools _
    (area_table (with_own s o.number) (seen_or_own s o.number) count (place_for settings s o count) ∙ own_table name cell s o.number) busy)
stays_in_use settings names_full s t (release r) reply name cell w e busy =
    kept_by name cell settings names_full s t (release r) reply e busy busy
stays_in_use settings names_full s t (whole number) reply name cell w e busy =
    ended_by name cell settings names_full s t (whole number) reply e tt busy
    (kept_use name cell (λ pool. not (same_subpool (seen_or_own s number) pool.subpool)) s.cell_pools w.cell_pools.ascending busy)
stays_in_use settings names_full s t (attach a) reply name cell w e busy =
    kept_by name cell settings names_full s t (attach a) reply e busy (attached_use name cell s a busy)
stays_in_use settings names_full s t (detach task) reply name cell w e busy =
    ended_by name cell settings names_full s t (detach task) reply e tt busy
    (kept_use name cell (λ pool. not (is_in_subtree s task pool.subpool.owner)) s.cell_pools w.cell_pools.ascending busy)
stays_in_use settings names_full s t end_task reply name cell w e busy =
    ended_by name cell settings names_full s t end_task reply e tt busy
    (kept_use name cell (λ pool. not (pool.subpool.owner == s.current)) s.cell_pools w.cell_pools.ascending busy)
stays_in_use settings names_full s t (run task) reply name cell w e busy =
    kept_by name cell settings names_full s t (run task) reply e busy busy
stays_in_use settings names_full s t (store address bytes) reply name cell w e busy =
    kept_by name cell settings names_full s t (store address bytes) reply e busy busy
stays_in_use settings names_full s t (build other header b) reply name cell w e busy =
    let built = (build_makes_a_cell_pool settings names_full s t other header b reply w e).2 in
    elim (same_or_other name other) [
      | inl same ↦ absurd (some_is_not busy.0 (sym (ap (cell_pool_in s.cell_pools) same ∙ built.was_new) ∙ busy.1))
      | inr apart ↦ inl (others_use name cell s t other built.others apart busy)
    ]
stays_in_use settings names_full s t (get other g) reply name cell w e busy =
    elim (get_hands_out_a_cell settings names_full s t other g reply w e) [
      | inl done ↦ inl (after_get name cell settings s t w other g done.0 done.2 busy)
      | inr four ↦ inl (same_use name cell s.cell_pools t.cell_pools (ap (λ (u : State). u.cell_pools) four.3.same) busy)
    ]
stays_in_use settings names_full s t (free other freed) reply name cell w e busy =
    after_free name cell s t other freed (free_makes_a_cell_free settings names_full s t other freed reply e).0 busy
stays_in_use settings names_full s t (delete other) reply name cell w e busy =
    let deleted = (delete_gives_its_extents_back settings names_full s t other reply w e).0 in
    elim (same_or_other name other) [
      | inl same ↦ inr (inr (sym same, ap (cell_pool_in t.cell_pools) same ∙ deleted.gone))
      | inr apart ↦ inl (others_use name cell s t other deleted.others apart busy)
    ]
