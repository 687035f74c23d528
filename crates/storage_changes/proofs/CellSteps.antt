-- The storage of a subpool and a cell pool that change places with what is parked, the last extent of a cell pool and
-- its first free cell; and back.
use Rattle.std.proofs.Common.{◌≡◌, ℕ, ◌+◌, ◌*◌, ◌≤◌, ◌⊎◌, inl, inr, Bool, true, false, not, ◌==◌, if◌then◌else◌, List, Option, Some, None, IsSome, refl, sym, ap, ◌∙◌, arith, subst}
use Rattle.std.specs.Option.{option_map}
use Rattle.std.proofs.lemmas.Bool.{eq-eqb, eqb-true}
use Rattle.vsm_model.specs.declared.Subpool.{Subpool}
use Rattle.vsm_model.specs.Subpools.{same_subpool}
use Rattle.cell_pool.specs.Pools.{Pool, at_id, lies_in, either_of, holds_of, exchanged, meets, without_first, with_first, extended, retracted}
use Rattle.cell_pool.proofs.LawLemmas.{retracts_back}
use Rattle.subpool_storage.specs.Subpools.{Subpools, with_storage_of, with_pool_of, with_changed, HasPool, IsSingle}
use Rattle.storage_changes.specs.declared.record.QueuesRecord.{QueuesRecord}
use Rattle.storage_changes.specs.declared.record.CellPoolRecord.{CellPoolRecord}
use Rattle.storage_changes.specs.declared.record.CellExtentRecord.{CellExtentRecord}
use Rattle.storage_changes.specs.declared.record.CellRecord.{CellRecord}
use Rattle.storage_changes.specs.Walk.{Walk, flip}
use Rattle.storage_changes.specs.Steps.{queues_step, cell_pool_step, cell_extent_step, extent_elements, cell_step}
use Rattle.storage_changes.specs.Fits.{QueuesFits, CellPoolFits, AreUnderTheirIds, IsExtent, CellExtentFits, IsCell, CellFits}
use Rattle.storage_changes.proofs.Cases.{cond-kept, cond-in, cond-out, subpools-same, state-same, walk-same}

some-is : (p q : Pool) → Some p ≡ Some q → p ≡ q
some-is p q e = cc

-- The cell pools of a subpool, which change places with those that are parked: none both exists and is parked.

abbrev NotBoth : Option Pool → Option Pool → Type 0
NotBoth x y = IsSome x → y ≡ None

not-both-turned : (x y : Option Pool) → NotBoth x y → NotBoth y x
not-both-turned None y h s = refl
not-both-turned (Some a) None h s = cc
not-both-turned (Some a) (Some b) h s = let f : Some b ≡ None = h refl in cc

module _ (p : Subpool) where
  pair-back : (x y : Option Pool) → NotBoth x y → exchanged p (exchanged p x y) (exchanged p y x) ≡ x
  pair-back None None h = refl
  pair-back None (Some b) h = go (lies_in p b) refl where
    go : (c : Bool) → lies_in p b ≡ c → exchanged p (if c then Some b else None) (if c then None else Some b) ≡ None
    go true e = cond-in (lies_in p b) None (Some b) e
    go false e = cond-out (lies_in p b) (Some b) None e
  pair-back (Some a) None h = go (lies_in p a) refl where
    go : (c : Bool) → lies_in p a ≡ c → exchanged p (if c then None else Some a) (if c then Some a else None) ≡ Some a
    go true e = cond-in (lies_in p a) (Some a) None e
    go false e = cond-out (lies_in p a) None (Some a) e
  pair-back (Some a) (Some b) h = let f : Some b ≡ None = h refl in cc

  pair-apart : (x y : Option Pool) → NotBoth x y → NotBoth (exchanged p x y) (exchanged p y x)
  pair-apart None None h = λ s. refl
  pair-apart None (Some b) h = go (lies_in p b) where
    go : (c : Bool) → NotBoth (if c then Some b else None) (if c then None else Some b)
    go true s = refl
    go false s = cc
  pair-apart (Some a) None h = go (lies_in p a) where
    go : (c : Bool) → NotBoth (if c then None else Some a) (if c then Some a else None)
    go true s = cc
    go false s = refl
  pair-apart (Some a) (Some b) h = let f : Some b ≡ None = h refl in cc

  exchanged-back : (m n : Subpools) → ((id : ℕ) → NotBoth (m.cells id) (n.cells id)) → with_storage_of (with_storage_of m n p) (with_storage_of n m p) p ≡ m
  exchanged-back m n apart = subpools-same (with_storage_of (with_storage_of m n p) (with_storage_of n m p) p) m (λ task number. refl)
      (λ q page. cond-kept (same_subpool q p) (m.pages q page) (n.pages q page) (n.pages q page))
      (λ q d. cond-kept (same_subpool q p) (m.free q d) (n.free q d) (n.free q d))
      (λ id. pair-back (m.cells id) (n.cells id) (apart id))

  one-had : (c : Bool) (x y : Option Pool) (q : Pool) → (if c then y else x) ≡ Some q → (x ≡ Some q) ⊎ (y ≡ Some q)
  one-had true x y q e = inr e
  one-had false x y q e = inl e

  other-had : (c : Bool) (x y : Option Pool) (q : Pool) → (if c then x else y) ≡ Some q → (x ≡ Some q) ⊎ (y ≡ Some q)
  other-had true x y q e = inl e
  other-had false x y q e = inr e

  -- what exists or is parked then was so before
  had-pool : (m n : Subpools) (id : ℕ) (q : Pool) → HasPool (with_storage_of m n p) (with_storage_of n m p) id q → HasPool m n id q
  had-pool m n id q (inl e) = one-had (holds_of (lies_in p) (either_of (m.cells id) (n.cells id))) (m.cells id) (n.cells id) q e
  had-pool m n id q (inr e) = other-had (holds_of (lies_in p) (either_of (n.cells id) (m.cells id))) (m.cells id) (n.cells id) q e

pub queues-back : (w : Walk) (r : QueuesRecord) → QueuesFits w r → queues_step (flip (queues_step w r)) r ≡ flip w
queues-back w r h =
    let v = queues_step (flip (queues_step w r)) r in
    walk-same v (flip w)
    (state-same v.state w.state refl (exchanged-back r.subpool w.state.subpools w.parked h.apart) (λ page. refl) (λ a. refl))
    (λ a. refl) (λ a. refl)
    (exchanged-back r.subpool w.parked w.state.subpools (λ id. not-both-turned (w.state.subpools.cells id) (w.parked.cells id) (h.apart id)))
    refl

pub queues-fits : (w : Walk) (r : QueuesRecord) → QueuesFits w r → QueuesFits (flip (queues_step w r)) r
queues-fits w r h = record {
  there = h.there;
  parked = h.parked;
  apart = λ id. pair-apart r.subpool (w.state.subpools.cells id) (w.parked.cells id) (h.apart id);
  names = λ i j x y here there. h.names i j x y (had-pool r.subpool w.state.subpools w.parked i x here) (had-pool r.subpool w.state.subpools w.parked j y there);
}

-- one cell pool, which changes places with what is parked

module _ (m n : Subpools) (k : ℕ) where
  abbrev there : Subpools
  there = with_pool_of m n k

  abbrev parked : Subpools
  parked = with_pool_of n m k

  pool-back : with_pool_of there parked k ≡ m
  pool-back = subpools-same (with_pool_of there parked k) m (λ task number. refl) (λ q page. refl) (λ q d. refl)
      (λ i. cond-kept (i == k) (m.cells i) (n.cells i) (n.cells i))

  pool-at : there.cells k ≡ n.cells k
  pool-at = cond-in (k == k) (n.cells k) (m.cells k) (eq-eqb k k refl)

  either-had : (c : Bool) (x y : Option Pool) (q : Pool) → ((if c then y else x) ≡ Some q) ⊎ ((if c then x else y) ≡ Some q) → (x ≡ Some q) ⊎ (y ≡ Some q)
  either-had true x y q (inl e) = inr e
  either-had true x y q (inr e) = inl e
  either-had false x y q (inl e) = inl e
  either-had false x y q (inr e) = inr e

  single-back : (name : List ℕ) → IsSingle m n k name → IsSingle there parked k name
  single-back name h i q has = h i q (either-had (i == k) (m.cells i) (n.cells i) q has)

module _ (w : Walk) (k : ℕ) where
  abbrev one : Bool → CellPoolRecord
  one b = record { pool = k; present = b }

  abbrev m : Subpools
  m = w.state.subpools

  abbrev n : Subpools
  n = w.parked

  one-fits : (b : Bool) → CellPoolFits w (one b) → CellPoolFits (flip (cell_pool_step w (one b))) (one (not b))
  one-fits true h = record {
    here = (let P : Option Pool → Type 0 = λ x. IsSome x in subst P (sym (pool-at m n k)) h.here);
    not_there = pool-at n m k ∙ h.not_there;
    single = λ p e. single-back m n k p.name (h.single p (sym (pool-at m n k) ∙ e));
  }
  one-fits false h = record {
    here = (let P : Option Pool → Type 0 = λ x. IsSome x in subst P (sym (pool-at n m k)) h.here);
    not_there = pool-at m n k ∙ h.not_there;
    single = λ p e. single-back m n k p.name (h.single p (sym (pool-at n m k) ∙ e));
  }

pub cell_pool-back : (w : Walk) (r : CellPoolRecord) → cell_pool_step (flip (cell_pool_step w r)) (record r { present = not r.present }) ≡ flip w
cell_pool-back w r =
    let v = cell_pool_step (flip (cell_pool_step w r)) (record r { present = not r.present }) in
    walk-same v (flip w)
    (state-same v.state w.state refl (pool-back w.state.subpools w.parked r.pool) (λ page. refl) (λ a. refl))
    (λ a. refl) (λ a. refl) (pool-back w.parked w.state.subpools r.pool) refl

pub cell_pool-fits : (w : Walk) (r : CellPoolRecord) → CellPoolFits w r → CellPoolFits (flip (cell_pool_step w r)) (record r { present = not r.present })
cell_pool-fits w r h = one-fits w r.pool r.present h

-- A change of the cell pool of an id, which keeps the ids.

module _ (m : Subpools) (ids : AreUnderTheirIds m.cells) (k : ℕ) (f : Pool → Pool) (keeps : (p : Pool) → (f p).id ≡ p.id) where
  abbrev changed : Subpools
  changed = with_changed m k f

  changed-id : (p : Pool) → (at_id k f p).id ≡ p.id
  changed-id p = go (k == p.id) where
    go : (c : Bool) → (if c then f p else p).id ≡ p.id
    go true = keeps p
    go false = refl

  pub ids-changed : AreUnderTheirIds changed.cells
  ids-changed i p e = go (m.cells i) refl e where
    go : (x : Option Pool) → m.cells i ≡ x → option_map (at_id k f) x ≡ Some p → p.id ≡ i
    go None a b = cc
    go (Some q) a b = ap (λ (z : Pool). z.id) (sym (some-is (at_id k f q) p b)) ∙ changed-id q ∙ ids i q a

  pub there-changed : IsSome (m.cells k) → IsSome (changed.cells k)
  there-changed s = go (m.cells k) s where
    go : (x : Option Pool) → IsSome x → IsSome (option_map (at_id k f) x)
    go None a = a
    go (Some q) a = refl

  changed-at : (i : ℕ) (p : Pool) → m.cells i ≡ Some p → (k == p.id) ≡ true → m.cells k ≡ Some p
  changed-at i p e c = let same : k ≡ i = eqb-true k p.id c ∙ ids i p e in ap m.cells same ∙ e

  -- the cell pool of the id is the changed one
  pub is-changed : (q : Pool) → changed.cells k ≡ Some q → (p : Pool) × (m.cells k ≡ Some p) × (f p ≡ q)
  is-changed q e = go (m.cells k) refl e where
    go : (x : Option Pool) → m.cells k ≡ x → option_map (at_id k f) x ≡ Some q → (p : Pool) × (m.cells k ≡ Some p) × (f p ≡ q)
    go None a b = cc
    go (Some p) a b = (p, a, sym (cond-in (k == p.id) (f p) p (eq-eqb k p.id (sym (ids k p a)))) ∙ some-is (at_id k f p) q b)

  module _ (g : Pool → Pool) (back : (p : Pool) → m.cells k ≡ Some p → g (f p) ≡ p) where
    one-back : (i : ℕ) (p : Pool) → m.cells i ≡ Some p → at_id k g (at_id k f p) ≡ p
    one-back i p e = go (k == p.id) refl where
      go : (c : Bool) → (k == p.id) ≡ c → at_id k g (if c then f p else p) ≡ p
      go true c = cond-in (k == (f p).id) (g (f p)) (f p) (eq-eqb k (f p).id (eqb-true k p.id c ∙ sym (keeps p))) ∙ back p (changed-at i p e c)
      go false c = cond-out (k == p.id) (g p) p c

    at-back : (i : ℕ) (x : Option Pool) → m.cells i ≡ x → option_map (at_id k g) (option_map (at_id k f) x) ≡ x
    at-back i None e = refl
    at-back i (Some p) e = ap (λ (z : Pool). Some z) (one-back i p e)

    pub changed-back : with_changed changed k g ≡ m
    changed-back = subpools-same (with_changed changed k g) m (λ task number. refl) (λ q page. refl) (λ q d. refl) (λ i. at-back i (m.cells i) refl)

-- the last extent of a cell pool

module _ (w : Walk) (k start count : ℕ) where
  abbrev run : Bool → CellExtentRecord
  run b = record { pool = k; start = start; count = count; present = b }

  abbrev behind : Bool → Walk
  behind b = flip (cell_extent_step w (run b))

  abbrev back : Bool → Walk
  back b = cell_extent_step (behind b) (run (not b))

  extent-spare : (b : Bool) → CellExtentFits w (run b) → (back b).spare ≡ w.spare
  extent-spare true h = omega (arith, h.room)
  extent-spare false h = omega arith

  extent-room : (b : Bool) → extent_elements (run (not b)) ≤ (behind b).spare + (if not b then 0 else extent_elements (run (not b)))
  extent-room true = omega arith
  extent-room false = omega arith

  extents-back : (b : Bool) → CellExtentFits w (run b) → (back b).state.subpools ≡ w.state.subpools
  extents-back true h = changed-back w.state.subpools h.ids k (extended start count) (λ p. refl) (retracted count) (λ p e. retracts_back p start count)
  extents-back false h = changed-back w.state.subpools h.ids k (retracted count) (λ p. refl) (extended start count) (λ p e. sym ((h.extent p e).last refl))

  run-back : (b : Bool) → CellExtentFits w (run b) → back b ≡ flip w
  run-back b h = walk-same (back b) (flip w)
      (state-same (back b).state w.state refl (extents-back b h) (λ page. refl) (λ a. refl))
      (λ a. refl) (λ a. refl) refl (extent-spare b h)

  was-added : (p : Pool) → IsExtent (run true) p p → IsExtent (run false) (extended start count p) (retracted count (extended start count p))
  was-added p h = record {
    some = h.some;
    range = h.range;
    apart = ap (meets start (count * p.settings.size)) (retracts_back p start count) ∙ h.apart;
    last = λ s. ap (extended start count) (sym (retracts_back p start count));
  }

  is-gone : (p : Pool) → IsExtent (run false) p (retracted count p) → IsExtent (run true) (retracted count p) (retracted count p)
  is-gone p h = record { some = h.some; range = h.range; apart = h.apart; last = λ s. cc }

  run-fits : (b : Bool) → CellExtentFits w (run b) → CellExtentFits (behind b) (run (not b))
  run-fits true h = record {
    ids = ids-changed w.state.subpools h.ids k (extended start count) (λ p. refl);
    there = there-changed w.state.subpools h.ids k (extended start count) (λ p. refl) h.there;
    extent = λ q e. (let t = is-changed w.state.subpools h.ids k (extended start count) (λ p. refl) q e in
        let P : Pool → Type 0 = λ z. IsExtent (run false) z (retracted count z) in
        subst P t.2 (was-added t.0 (h.extent t.0 t.1)));
    room = extent-room true;
  }
  run-fits false h = record {
    ids = ids-changed w.state.subpools h.ids k (retracted count) (λ p. refl);
    there = there-changed w.state.subpools h.ids k (retracted count) (λ p. refl) h.there;
    extent = λ q e. (let t = is-changed w.state.subpools h.ids k (retracted count) (λ p. refl) q e in
        let P : Pool → Type 0 = λ z. IsExtent (run true) z z in
        subst P t.2 (is-gone t.0 (h.extent t.0 t.1)));
    room = extent-room false;
  }

pub cell_extent-back : (w : Walk) (r : CellExtentRecord) → CellExtentFits w r → cell_extent_step (flip (cell_extent_step w r)) (record r { present = not r.present }) ≡ flip w
cell_extent-back w r h = run-back w r.pool r.start r.count r.present h

pub cell_extent-fits : (w : Walk) (r : CellExtentRecord) → CellExtentFits w r → CellExtentFits (flip (cell_extent_step w r)) (record r { present = not r.present })
cell_extent-fits w r h = run-fits w r.pool r.start r.count r.present h

-- the first free cell of a cell pool

module _ (w : Walk) (k cell : ℕ) where
  abbrev first : Bool → CellRecord
  first b = record { pool = k; cell = cell; free = b }

  abbrev behind-cell : Bool → Walk
  behind-cell b = flip (cell_step w (first b))

  abbrev back-cell : Bool → Walk
  back-cell b = cell_step (behind-cell b) (first (not b))

  cells-back : (b : Bool) → CellFits w (first b) → (back-cell b).state.subpools ≡ w.state.subpools
  cells-back true h = changed-back w.state.subpools h.ids k (with_first cell) (λ p. refl) without_first (λ p e. refl)
  cells-back false h = changed-back w.state.subpools h.ids k without_first (λ p. refl) (with_first cell) (λ p e. sym ((h.cell p e).first refl))

  first-back : (b : Bool) → CellFits w (first b) → back-cell b ≡ flip w
  first-back b h = walk-same (back-cell b) (flip w)
      (state-same (back-cell b).state w.state refl (cells-back b h) (λ page. refl) (λ a. refl))
      (λ a. refl) (λ a. refl) refl refl

  was-put : (p : Pool) → IsCell (first true) p p → IsCell (first false) (with_first cell p) (without_first (with_first cell p))
  was-put p h = record { used = h.used; first = λ s. refl }

  is-taken : (p : Pool) → IsCell (first false) p (without_first p) → IsCell (first true) (without_first p) (without_first p)
  is-taken p h = record { used = h.used; first = λ s. cc }

  first-fits : (b : Bool) → CellFits w (first b) → CellFits (behind-cell b) (first (not b))
  first-fits true h = record {
    ids = ids-changed w.state.subpools h.ids k (with_first cell) (λ p. refl);
    there = there-changed w.state.subpools h.ids k (with_first cell) (λ p. refl) h.there;
    cell = λ q e. (let t = is-changed w.state.subpools h.ids k (with_first cell) (λ p. refl) q e in
        let P : Pool → Type 0 = λ z. IsCell (first false) z (without_first z) in
        subst P t.2 (was-put t.0 (h.cell t.0 t.1)));
  }
  first-fits false h = record {
    ids = ids-changed w.state.subpools h.ids k without_first (λ p. refl);
    there = there-changed w.state.subpools h.ids k without_first (λ p. refl) h.there;
    cell = λ q e. (let t = is-changed w.state.subpools h.ids k without_first (λ p. refl) q e in
        let P : Pool → Type 0 = λ z. IsCell (first true) z z in
        subst P t.2 (is-taken t.0 (h.cell t.0 t.1)));
  }

pub cell-back : (w : Walk) (r : CellRecord) → CellFits w r → cell_step (flip (cell_step w r)) (record r { free = not r.free }) ≡ flip w
cell-back w r h = first-back w r.pool r.cell r.free h

pub cell-fits : (w : Walk) (r : CellRecord) → CellFits w r → CellFits (flip (cell_step w r)) (record r { free = not r.free })
cell-fits w r h = first-fits w r.pool r.cell r.free h
