-- Two storages exchange cell pools.
use Rattle.std.proofs.Common.{◌≡◌, ℕ, ◌+◌, ◌-◌, ◌<◌, ◌≤◌, Bool, true, false, ◌⊎◌, inl, inr, ◌++◌, length, Option, Some, None, IsSome, refl, sym, ap, ◌∙◌, arith, subst, ◌==◌}
use Rattle.std.proofs.lemmas.Bool.{cond-true}
use Rattle.std.specs.Prelude.{IfSome, slice_get, if◌then◌else◌}
use Rattle.vsm_elements.specs.Store.{Store, at}
use Rattle.vsm_elements.specs.Ownership.{Leaves, Apart}
use Rattle.vsm_elements.specs.Owners.{times, Moves}
use Rattle.vsm_elements.proofs.TimesLemmas.{times-append, times-none, some-from}
use Rattle.vsm_elements.proofs.MoveLemmas.{none-or-some, others-kept, moves-of, moves-by, moves-like, moves-follow, apart-from}
use Rattle.subpool_set.proofs.KeyLemmas.{none_some, eqb_refl}
use Rattle.cell_pool.specs.declared.pools.CellPools.{CellPools}
use Rattle.vsm_model.specs.declared.Subpool.{Subpool}
use Rattle.cell_pool.specs.Named.{AreNamed}
use Rattle.cell_pool.specs.Pools.{Pool, lies_in, holds_of, either_of, exchanged, extended, retracted, IsExtended, GoTogether}
use Rattle.cell_pool.specs.declared.settings.Extent.{Extent}
use Rattle.cell_pool.specs.CellPools.{pool, by_id, owned, IsCellPools}
use Rattle.cell_pool.specs.Laws.{AreOne}
use Rattle.cell_pool.proofs.LawLemmas.{pools_are_one, some_extent, last_is}
use Rattle.subpool_storage.specs.declared.storage.SubpoolStorage.{SubpoolStorage}
use Rattle.subpool_storage.specs.Subpools.{Subpools, with_storage_of, CanExchange, HasPool, IsSingle}
use Rattle.subpool_storage.specs.SubpoolStorage.{subpools_of, hold_queues, hold, Stands}
use Rattle.subpool_storage.proofs.SubpoolLemmas.{same_subpools}
use Rattle.subpool_storage.proofs.KeptLemmas.{ids_are_owned}
use Rattle.subpool_storage.proofs.ExchangeLemmas.{QueuesExchanged}
use Rattle.subpool_storage.proofs.LiftLemmas.{SetSame, set_same, set_live, cells_once}

-- a cell pool that is what it is with another extent
pub is_extended : (x : Option Pool) (start count : ℕ) → IfSome x (λ p. p ≡ extended start count (retracted count p)) → IfSome x (λ p. IsExtended p)
is_extended None start count h = tt
is_extended (Some p) start count h = record { rest = retracted count p; last = record { start = start; count = count }; is = h }

pub count_is : (x : Option Pool) (start count : ℕ) (e : Extent) → IsSome x → IfSome x (λ p. p ≡ extended start count (retracted count p))
    → IfSome x (λ p. slice_get p.extents (length p.extents - 1) ≡ Some e) → e.count ≡ count
count_is None start count e here h got = absurd (gone None refl here) where
  gone : (o : Option Pool) → o ≡ None → IsSome o → ⊥
  gone o none some = cc
count_is (Some p) start count e here h got =
    let x : IsExtended p = record { rest = retracted count p; last = record { start = start; count = count }; is = h } in
    sym (ap (λ (z : Extent). z.count) (last_is p x (length p.extents - 1) e (omega (arith, some_extent p x)) got))

-- a name that is single is so from the other side too
pub single_back : (m k : Subpools) (id : ℕ) → ((p : Pool) → HasPool m k id p → IsSingle m k id p.name) → (p : Pool) → HasPool k m id p → IsSingle k m id p.name
single_back m k id single p has i x there same = single p (turned id p has) i x (turned i x there) same where
  turned : (j : ℕ) (y : Pool) → HasPool k m j y → HasPool m k j y
  turned j y (inl e) = inr e
  turned j y (inr e) = inl e

-- cell pools with names of their own can be exchanged with none
pub bare_can_exchange : (m k : Subpools) (p : Subpool) → AreNamed m.cells → ((id : ℕ) → k.cells id ≡ None) → CanExchange m k p
bare_can_exchange m k p named bare i j x y (inl e) (inl w) same = ap (lies_in p) (some_is (sym e ∙ ap m.cells (named.once i j x y e w same) ∙ w)) where
  some_is : Some x ≡ Some y → x ≡ y
  some_is z = cc
bare_can_exchange m k p named bare i j x y (inr e) w same = absurd (none_some (k.cells i) x (bare i) e)
bare_can_exchange m k p named bare i j x y (inl e) (inr w) same = absurd (none_some (k.cells j) y (bare j) w)

-- and back, once they are exchanged
pub back_can_exchange : (m k : Subpools) (p : Subpool) → CanExchange m k p → CanExchange (with_storage_of k m p) (with_storage_of m k p) p
back_can_exchange m k p can i j x y e w same = can i j x y (was i x e) (was j y w) same where
  either_one : (b : Bool) (a c : Option Pool) (z : Pool) → (if b then a else c) ≡ Some z → (a ≡ Some z) ⊎ (c ≡ Some z)
  either_one true a c z h = inl h
  either_one false a c z h = inr h

  turned : (id : ℕ) (z : Pool) → (k.cells id ≡ Some z) ⊎ (m.cells id ≡ Some z) → HasPool m k id z
  turned id z (inl h) = inr h
  turned id z (inr h) = inl h

  was : (id : ℕ) (z : Pool) → HasPool (with_storage_of k m p) (with_storage_of m k p) id z → HasPool m k id z
  was id z (inl h) = either_one (holds_of (lies_in p) (either_of (k.cells id) (m.cells id))) (m.cells id) (k.cells id) z h
  was id z (inr h) = turned id z (either_one (holds_of (lies_in p) (either_of (m.cells id) (k.cells id))) (k.cells id) (m.cells id) z h)

pub exchanged_back : (m k m' k' : Subpools) (p : Subpool) → m' ≡ with_storage_of m k p → k' ≡ with_storage_of k m p → CanExchange m k p → CanExchange k' m' p
exchanged_back m k m' k' p e w can =
    let P : Subpools → Type 0 = λ z. CanExchange z m' p in
    let Q : Subpools → Type 0 = λ z. CanExchange (with_storage_of k m p) z p in
    subst P (sym w) (subst Q (sym e) (back_can_exchange m k p can))

-- the cell pool that was added
pub is_new : (id : ℕ) (x : Option Pool) (p : Pool) (y : Option Pool) → x ≡ (if id == id then Some p else y) → x ≡ Some p
is_new id x p y e = e ∙ cond-true (id == id) (Some p) y (eqb_refl id)

pub of_new : (P : Pool → Type 0) (x : Option Pool) (p : Pool) → x ≡ Some p → P p → IfSome x P
of_new P x p e h = let Q : Option Pool → Type 0 = λ z. IfSome z P in subst Q (sym e) h

pub some_new : (x : Option Pool) (p : Pool) → x ≡ Some p → IsSome x
some_new x p e = let Q : Option Pool → Type 0 = λ z. IsSome z in subst Q (sym e) refl

module _ (s : Store) (q r : SubpoolStorage) (h : Stands s q) (g : Stands s r) (once : (i : ℕ) → hold s q i + hold s r i ≤ 1) where
  -- the cell pools of both have no element in common
  pub cells_apart : Apart (owned s q.cells) (owned s r.cells)
  unfolding hold
  cells_apart = apart-from (owned s q.cells) (owned s r.cells) (λ i. omega (arith, once i))

  -- a cell pool whose name no other one has is of one of the two, and its name is free among the others
  pub name_is_free : (id : ℕ) → ((p : Pool) → HasPool (subpools_of s q) (subpools_of s r) id p → IsSingle (subpools_of s q) (subpools_of s r) id p.name) → IfSome (by_id s q.cells id) (λ p. pool s r.cells p.name ≡ None)
  unfolding subpools_of Stands hold
  name_is_free id single = go (by_id s q.cells id) refl where
    one : AreOne s r.cells
    one = pools_are_one s r.cells g.cells

    free : (p : Pool) → by_id s q.cells id ≡ Some p → (y : Option Pool) → pool s r.cells p.name ≡ y → pool s r.cells p.name ≡ None
    free p e None f = f
    free p e (Some x) f =
        let k : (x.name ≡ p.name) × (by_id s r.cells x.id ≡ Some x) = one.names p.name x f in
        let same : x.id ≡ id = single p (inl e) x.id x (inr k.1) k.0 in
        let here : 0 < times id (owned s q.cells) = ids_are_owned s q.cells id p e in
        let there : 0 < times id (owned s r.cells) = ids_are_owned s r.cells id x (ap (by_id s r.cells) (sym same) ∙ k.1) in
        absurd (omega (arith, here, there, once id))

    go : (y : Option Pool) → by_id s q.cells id ≡ y → IfSome y (λ p. pool s r.cells p.name ≡ None)
    go None e = tt
    go (Some p) e = free p e (pool s r.cells p.name) refl

  -- once they are exchanged
  module _ (t : Store) (here there : CellPools) (stand : IsCellPools t here) (stand_too : IsCellPools t there) (apart : Apart (owned t here) (owned t there)) (leaves : Leaves s t (owned s q.cells ++ owned s r.cells) (owned t here ++ owned t there)) where
    abbrev pub q_now : SubpoolStorage
    q_now = record { set = q.set; cells = here }

    abbrev pub r_now : SubpoolStorage
    r_now = record { set = r.set; cells = there }

    abbrev had : ℕ → ℕ
    had i = times i (owned s q.cells) + times i (owned s r.cells)

    abbrev has : ℕ → ℕ
    has i = times i (owned t here) + times i (owned t there)

    abbrev rest : ℕ → ℕ
    rest i = hold_queues s q i + hold_queues s r i

    moves : Moves s t had has
    moves = moves-like s t (λ i. times i (owned s q.cells ++ owned s r.cells)) (λ i. times i (owned t here ++ owned t there)) had has (moves-of s t (owned s q.cells ++ owned s r.cells) (owned t here ++ owned t there) leaves)
        (λ i. sym (times-append i (owned s q.cells) (owned s r.cells))) (λ i. sym (times-append i (owned t here) (owned t there)))

    beside : (i : ℕ) → had i + rest i ≤ 1
    unfolding hold
    beside i = omega (arith, once i)

    live : (i : ℕ) → 0 < rest i → IsSome (at s i)
    unfolding Stands
    live i p = elim (none-or-some (hold_queues s q i)) [
      | inl z ↦ set_live s r (record { set = g.set; queues = g.queues }) i (omega (arith, p, z))
      | inr z ↦ set_live s q (record { set = h.set; queues = h.queues }) i z
    ]

    has_once : (i : ℕ) → has i ≤ 1
    has_once i = elim (none-or-some (times i (owned t here))) [
      | inl z ↦ omega (arith, z, cells_once t there stand_too i)
      | inr z ↦ omega (arith, cells_once t here stand i, times-none i (owned t there) (apart i (some-from i (owned t here) z)))
    ]

    same : ((i : ℕ) → 0 < rest i → at t i ≡ at s i) × ((i : ℕ) → has i + rest i ≤ 1)
    same = others-kept s t had has rest moves beside live has_once

    set_here : SetSame s t q
    unfolding Stands
    set_here = set_same s t q (record { set = h.set; queues = h.queues }) (λ i p. same.0 i (omega (arith, p)))

    set_there : SetSame s t r
    unfolding Stands
    set_there = set_same s t r (record { set = g.set; queues = g.queues }) (λ i p. same.0 i (omega (arith, p)))

    pub cells_stand : Stands t q_now
    unfolding Stands
    cells_stand = record { set = set_here.stands.set; queues = set_here.stands.queues; cells = stand; apart = λ i. omega (arith, same.1 i, set_here.count i) }

    pub cells_stand_too : Stands t r_now
    unfolding Stands
    cells_stand_too = record { set = set_there.stands.set; queues = set_there.stands.queues; cells = stand_too; apart = λ i. omega (arith, same.1 i, set_there.count i) }

    pub cells_are : (cells : ℕ → Option Pool) → ((id : ℕ) → by_id t here id ≡ cells id) → subpools_of t q_now ≡ record (subpools_of s q) { cells = cells }
    unfolding subpools_of
    cells_are cells e = same_subpools (subpools_of t q_now) (record (subpools_of s q) { cells = cells }) set_here.sights set_here.pages set_here.free e

    pub cells_are_too : (cells : ℕ → Option Pool) → ((id : ℕ) → by_id t there id ≡ cells id) → subpools_of t r_now ≡ record (subpools_of s r) { cells = cells }
    unfolding subpools_of
    cells_are_too cells e = same_subpools (subpools_of t r_now) (record (subpools_of s r) { cells = cells }) set_there.sights set_there.pages set_there.free e

    pub cells_parted : (i : ℕ) → hold t q_now i + hold t r_now i ≤ 1
    unfolding hold
    cells_parted i = omega (arith, same.1 i, set_here.count i, set_there.count i)

    pub cells_move : Moves s t (λ i. hold s q i + hold s r i) (λ i. hold t q_now i + hold t r_now i)
    unfolding hold
    cells_move = moves-by s t had has (λ i. hold s q i + hold s r i) (λ i. hold t q_now i + hold t r_now i) moves (λ i. omega arith) (λ i. omega (arith, set_here.count i, set_there.count i))

-- if the queues of a subpool were exchanged before, and then its cell pools, all its storage is
module _ (s t : Store) (q r : SubpoolStorage) (p : Subpool) (x : QueuesExchanged s t q r p) where
  -- the cell pools are what they were
  pub as_before : (id : ℕ) → by_id t q.cells id ≡ (subpools_of s q).cells id
  unfolding subpools_of
  as_before id = ap (λ (z : Subpools). z.cells id) x.subpools

  pub others_as_before : (id : ℕ) → by_id t r.cells id ≡ (subpools_of s r).cells id
  unfolding subpools_of
  others_as_before id = ap (λ (z : Subpools). z.cells id) x.other_subpools

  -- and still go together
  pub go_together : CanExchange (subpools_of s q) (subpools_of s r) p → GoTogether p (by_id t q.cells) (by_id t r.cells)
  go_together can i j a b e w same = can i j a b (inl (sym (as_before i) ∙ e)) (inr (sym (others_as_before j) ∙ w)) same

  module _ (u : Store) (here there : CellPools) (stand : IsCellPools u here) (stand_too : IsCellPools u there) (apart : Apart (owned u here) (owned u there)) (leaves : Leaves t u (owned t q.cells ++ owned t r.cells) (owned u here ++ owned u there)) where
    pub storage_stands : Stands u (record { set = q.set; cells = here })
    storage_stands = cells_stand t q r x.stands x.others x.parted u here there stand stand_too apart leaves

    pub other_storage_stands : Stands u (record { set = r.set; cells = there })
    other_storage_stands = cells_stand_too t q r x.stands x.others x.parted u here there stand stand_too apart leaves

    pub storage_is : ((id : ℕ) → by_id u here id ≡ exchanged p (by_id t q.cells id) (by_id t r.cells id)) → subpools_of u (record { set = q.set; cells = here }) ≡ with_storage_of (subpools_of s q) (subpools_of s r) p
    storage_is ids =
        cells_are t q r x.stands x.others x.parted u here there stand stand_too apart leaves (with_storage_of (subpools_of s q) (subpools_of s r) p).cells (λ id. ids id ∙ (λ i. exchanged p (as_before id i) (others_as_before id i)))
        ∙ ap (λ (z : Subpools). record z { cells = (with_storage_of (subpools_of s q) (subpools_of s r) p).cells }) x.subpools

    pub other_storage_is : ((id : ℕ) → by_id u there id ≡ exchanged p (by_id t r.cells id) (by_id t q.cells id)) → subpools_of u (record { set = r.set; cells = there }) ≡ with_storage_of (subpools_of s r) (subpools_of s q) p
    other_storage_is ids =
        cells_are_too t q r x.stands x.others x.parted u here there stand stand_too apart leaves (with_storage_of (subpools_of s r) (subpools_of s q) p).cells (λ id. ids id ∙ (λ i. exchanged p (others_as_before id i) (as_before id i)))
        ∙ ap (λ (z : Subpools). record z { cells = (with_storage_of (subpools_of s r) (subpools_of s q) p).cells }) x.other_subpools

    pub storage_parted : (i : ℕ) → hold u (record { set = q.set; cells = here }) i + hold u (record { set = r.set; cells = there }) i ≤ 1
    storage_parted = cells_parted t q r x.stands x.others x.parted u here there stand stand_too apart leaves

    pub storage_moves : Moves s u (λ i. hold s q i + hold s r i) (λ i. hold u (record { set = q.set; cells = here }) i + hold u (record { set = r.set; cells = there }) i)
    storage_moves = moves-follow s t u (λ i. hold s q i + hold s r i) (λ i. hold t q i + hold t r i) (λ i. hold u (record { set = q.set; cells = here }) i + hold u (record { set = r.set; cells = there }) i)
        x.moves (cells_move t q r x.stands x.others x.parted u here there stand stand_too apart leaves)
