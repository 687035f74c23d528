-- The queues of subpools, if a call on rows leaves them unchanged.
use Rattle.std.proofs.Common.{◌≡◌, ℕ, Bool, true, false, ◌==◌, List, [], ◌++◌, Option, Some, None, IsSome, ◌⊎◌, inl, inr, refl, sym, ap, ◌∙◌, subst}
use Rattle.std.proofs.lemmas.Bool.{cond-false, cond-true}
use Rattle.std.specs.Prelude.{if◌then◌else◌}
use Rattle.vsm_elements.specs.Store.{Store, at, among}
use Rattle.vsm_elements.specs.Ownership.{Leaves, Apart}
use Rattle.vsm_elements.proofs.ChainFrame.{stays, false_if}
use Rattle.row_table.specs.Rows.{same_key, either_of}
use Rattle.row_table.proofs.RowLemmas.{either, not_both, none_some, same_parts, same_by, eqb_same, eqb_refl}
use Rattle.descriptor_queue.specs.declared.extents.Extents.{Extents}
use Rattle.descriptor_queue.specs.Extents.{IsExtents, extents_of}
use Rattle.descriptor_queue.specs.Extents
use Rattle.free_queue.specs.declared.queue.FreeQueue.{FreeQueue}
use Rattle.free_queue.specs.FreeQueue.{IsFreeQueue, queue_of}
use Rattle.free_queue.specs.FreeQueue
use Rattle.subpool_set.specs.declared.queues.Queues.{Queues}
use Rattle.subpool_set.specs.Pools.{Pool, Pools, no_queues, pools_with, pools_given, pool_alone}
use Rattle.subpool_set.specs.QueueElements.{ids_of, StandApart, AreApart}
use Rattle.subpool_set.proofs.HeadLemmas.{both_live, both_kept, both_stay, in_left, in_right, in_either}

-- a subpool whose queues are those of another, which existed
pub record Came (f : Pools) (n o : ℕ) (p : Pool) : Type 0 where
  pub pool : Pool
  pub there : f n o ≡ Some pool
  pub same : pool.queues ≡ p.queues

some_pool : (x y : Pool) → Some x ≡ Some y → x ≡ y
some_pool x y e = cc

-- each subpool of g is without elements, or that of f at its home
module _ (s t : Store) (had has : List ℕ) (call : Leaves s t had has) (f g : Pools) (home : ℕ → ℕ → ℕ)
    (from : (n o : ℕ) (p : Pool) → g n o ≡ Some p → (StandApart t p.queues × (ids_of t p.queues ≡ [])) ⊎ Came f n (home n o) p)
    (one : (n o r : ℕ) (p x : Pool) → g n o ≡ Some p → g n r ≡ Some x → home n o ≡ home n r → o ≡ r)
    (was : AreApart s f had) where
  stay : (n o : ℕ) (p : Pool) → Came f n o p → StandApart t p.queues × (ids_of t p.queues ≡ ids_of s p.queues)
  stay n o p k =
      let P : Queues → Type 0 = λ z. StandApart t z × (ids_of t z ≡ ids_of s z) in
      subst P k.same (both_stay s t had has k.pool.queues call (was.stand n o k.pool k.there) (was.beside n o k.pool k.there))

  ids_are : (n o : ℕ) (p : Pool) (k : Came f n o p) → ids_of t p.queues ≡ ids_of s k.pool.queues
  ids_are n o p k = (stay n o p k).1 ∙ ap (ids_of s) (sym k.same)

  homes_differ : (n o m r : ℕ) (p x : Pool) → g n o ≡ Some p → g m r ≡ Some x → same_key n o m r ≡ false → same_key n (home n o) m (home m r) ≡ false
  homes_differ n o m r p x e k d = elim (either (same_key n (home n o) m (home m r))) [
    | inl q ↦ (let w : (n ≡ m) × (home n o ≡ home m r) = same_parts n (home n o) m (home m r) q in
        absurd (not_both (same_key n o m r) (same_by n o m r w.0 (one n o r p x e (ap (λ (z : ℕ). g z r) w.0 ∙ k) (w.1 ∙ ap (λ (z : ℕ). home z r) (sym w.0)))) d))
    | inr q ↦ q
  ]

  none_in : (xs : List ℕ) (i : ℕ) → xs ≡ [] → among i xs ≡ false
  none_in xs i e = ap (among i) e

  -- what was gained isn't theirs
  gained : (n o : ℕ) (p : Pool) → f n o ≡ Some p → Apart has (ids_of s p.queues)
  gained n o p e i h = false_if (among i (ids_of s p.queues))
      (λ m. not_both (among i has) h (stays s t had has call i (both_live s p.queues (was.stand n o p e) i m) (false_if (among i had) (λ k. not_both (among i (ids_of s p.queues)) m (was.beside n o p e i k)))).0)

  abbrev Origin : ℕ → ℕ → Pool → Type 0
  Origin n o p = (StandApart t p.queues × (ids_of t p.queues ≡ [])) ⊎ Came f n (home n o) p

  stand_now : (n o : ℕ) (p : Pool) → Origin n o p → StandApart t p.queues
  stand_now n o p (inl h) = h.0
  stand_now n o p (inr k) = (stay n (home n o) p k).0

  apart_now : (n o m r : ℕ) (p x : Pool) → same_key n (home n o) m (home m r) ≡ false → Origin n o p → Origin m r x → Apart (ids_of t p.queues) (ids_of t x.queues)
  apart_now n o m r p x d (inl h) k i z = absurd (not_both (among i (ids_of t p.queues)) z (none_in (ids_of t p.queues) i h.1))
  apart_now n o m r p x d (inr h) (inl k) i z = none_in (ids_of t x.queues) i k.1
  apart_now n o m r p x d (inr h) (inr k) i z =
      ap (among i) (ids_are m (home m r) x k) ∙ was.apart n (home n o) m (home m r) h.pool k.pool h.there k.there d i (ap (among i) (sym (ids_are n (home n o) p h)) ∙ z)

  beside_now : (n o : ℕ) (p : Pool) → Origin n o p → Apart has (ids_of t p.queues)
  beside_now n o p (inl h) i z = none_in (ids_of t p.queues) i h.1
  beside_now n o p (inr k) i z = ap (among i) (ids_are n (home n o) p k) ∙ gained n (home n o) k.pool k.there i z

  pub apart_after : AreApart t g has
  apart_after = record {
    stand = λ n o p e. stand_now n o p (from n o p e);
    apart = λ n o m r p x e k d. apart_now n o m r p x (homes_differ n o m r p x e k d) (from n o p e) (from m r x k);
    beside = λ n o p e. beside_now n o p (from n o p e);
  }

-- each subpool is where it was
pub stay_apart : (s t : Store) (had has : List ℕ) → Leaves s t had has → (f g : Pools) → ((n o : ℕ) → g n o ≡ f n o) → AreApart s f had → AreApart t g has
stay_apart s t had has call f g same was =
    apart_after s t had has call f g (λ n o. o) (λ n o p e. inr (record { pool = p; there = sym (same n o) ∙ e; same = refl })) (λ n o r p x e k h. h) was

-- fewer subpools, and fewer others
pub part_apart : (s : Store) (f g : Pools) (xs ys : List ℕ) → ((n o : ℕ) (p : Pool) → g n o ≡ Some p → f n o ≡ Some p) → ((i : ℕ) → among i ys ≡ true → among i xs ≡ true) → AreApart s f xs → AreApart s g ys
part_apart s f g xs ys less fewer was = record {
  stand = λ n o p e. was.stand n o p (less n o p e);
  apart = λ n o m r p x e k d. was.apart n o m r p x (less n o p e) (less m r x k) d;
  beside = λ n o p e i z. was.beside n o p (less n o p e) i (fewer i z);
}

-- a new subpool, whose queues are empty
pub new_apart : (s t : Store) (had has : List ℕ) → Leaves s t had has → (f g : Pools) (number owner id : ℕ)
    → ((n o : ℕ) → g n o ≡ pools_with f number owner (Some (record { id = id; queues = no_queues })) n o)
    → StandApart t no_queues × (ids_of t no_queues ≡ []) → AreApart s f had → AreApart t g has
new_apart s t had has call f g number owner id put empty was =
    apart_after s t had has call f g (λ n o. o) (λ n o p e. from n o p (same_key owner number o n) refl (sym (put n o) ∙ e)) (λ n o r p x e k h. h) was where
      from : (n o : ℕ) (p : Pool) (b : Bool) → same_key owner number o n ≡ b → pools_with f number owner (Some (record { id = id; queues = no_queues })) n o ≡ Some p → (StandApart t p.queues × (ids_of t p.queues ≡ [])) ⊎ Came f n o p
      from n o p true h e =
          let q : no_queues ≡ p.queues = ap (λ (z : Pool). z.queues) (some_pool (record { id = id; queues = no_queues }) p (sym (cond-true (same_key owner number o n) (Some (record { id = id; queues = no_queues })) (f n o) h) ∙ e)) in
          let P : Queues → Type 0 = λ z. StandApart t z × (ids_of t z ≡ []) in
          inl (subst P q empty)
      from n o p false h e = inr (record { pool = p; there = sym (cond-false (same_key owner number o n) (Some (record { id = id; queues = no_queues })) (f n o) h) ∙ e; same = refl })

-- a subpool that is passed
module _ (f : Pools) (number giver to : ℕ) where
  abbrev home : ℕ → ℕ → ℕ
  home n o = if n == number then (if o == to then giver else o) else o

  home_here : (n o : ℕ) → (n == number) ≡ true → (o == to) ≡ true → home n o ≡ giver
  home_here n o p q = cond-true (n == number) (if o == to then giver else o) o p ∙ cond-true (o == to) giver o q

  home_other : (n o : ℕ) → (n == number) ≡ true → (o == to) ≡ false → home n o ≡ o
  home_other n o p q = cond-true (n == number) (if o == to then giver else o) o p ∙ cond-false (o == to) giver o q

  home_else : (n o : ℕ) → (n == number) ≡ false → home n o ≡ o
  home_else n o p = cond-false (n == number) (if o == to then giver else o) o p

  abbrev inner : ℕ → ℕ → Option Pool
  inner n o = if o == to then f n giver else (if o == giver then None else f n o)

  given_home : (n o : ℕ) (p : Pool) → pools_given f number giver to n o ≡ Some p → f n (home n o) ≡ Some p
  given_home n o p e = go (n == number) (o == to) (o == giver) refl refl refl where
    go : (a b d : Bool) → (n == number) ≡ a → (o == to) ≡ b → (o == giver) ≡ d → f n (home n o) ≡ Some p
    go false b d h k m = ap (f n) (home_else n o h) ∙ sym (cond-false (n == number) (inner n o) (f n o) h) ∙ e
    go true true d h k m = ap (f n) (home_here n o h k) ∙ sym (cond-true (n == number) (inner n o) (f n o) h ∙ cond-true (o == to) (f n giver) (if o == giver then None else f n o) k) ∙ e
    go true false true h k m = absurd (none_some (pools_given f number giver to n o) p (cond-true (n == number) (inner n o) (f n o) h ∙ cond-false (o == to) (f n giver) (if o == giver then None else f n o) k ∙ cond-true (o == giver) None (f n o) m) e)
    go true false false h k m = ap (f n) (home_other n o h k) ∙ sym (cond-true (n == number) (inner n o) (f n o) h ∙ cond-false (o == to) (f n giver) (if o == giver then None else f n o) k ∙ cond-false (o == giver) None (f n o) m) ∙ e

  -- the giver has none
  giver_none : (n o : ℕ) (p : Pool) → (n == number) ≡ true → (o == to) ≡ false → pools_given f number giver to n o ≡ Some p → o ≡ giver → ⊥
  giver_none n o p h k e q =
      none_some (pools_given f number giver to n o) p (cond-true (n == number) (if o == to then f n giver else (if o == giver then None else f n o)) (f n o) h
      ∙ cond-false (o == to) (f n giver) (if o == giver then None else f n o) k ∙ cond-true (o == giver) None (f n o) (ap (λ (z : ℕ). z == giver) q ∙ eqb_refl giver)) e

  home_one : (n o r : ℕ) (p x : Pool) → pools_given f number giver to n o ≡ Some p → pools_given f number giver to n r ≡ Some x → home n o ≡ home n r → o ≡ r
  home_one n o r p x e k h = go (n == number) (o == to) (r == to) refl refl refl where
    go : (a b d : Bool) → (n == number) ≡ a → (o == to) ≡ b → (r == to) ≡ d → o ≡ r
    go false b d u v w = sym (home_else n o u) ∙ h ∙ home_else n r u
    go true true true u v w = eqb_same o to v ∙ sym (eqb_same r to w)
    go true true false u v w = absurd (giver_none n r x u w k (sym (home_other n r u w) ∙ sym h ∙ home_here n o u v))
    go true false true u v w = absurd (giver_none n o p u v e (sym (home_other n o u v) ∙ h ∙ home_here n r u w))
    go true false false u v w = sym (home_other n o u v) ∙ h ∙ home_other n r u w

pub given_apart : (s t : Store) (had has : List ℕ) → Leaves s t had has → (f g : Pools) (number giver to : ℕ)
    → ((n o : ℕ) → g n o ≡ pools_given f number giver to n o) → AreApart s f had → AreApart t g has
given_apart s t had has call f g number giver to given was =
    apart_after s t had has call f g (home f number giver to) (λ n o p e. inr (record { pool = p; there = given_home f number giver to n o p (sym (given n o) ∙ e); same = refl }))
    (λ n o r p x e k h. home_one f number giver to n o r p x (sym (given n o) ∙ e) (sym (given n r) ∙ k) h) was

-- a subpool that was taken out, and the others, are together what existed before
pub taken_apart : (s t : Store) (had xs ys : List ℕ) → Leaves s t had (xs ++ ys) → (f left out : Pools) (number owner : ℕ)
    → ((n o : ℕ) → left n o ≡ pools_with f number owner None n o) → ((n o : ℕ) → out n o ≡ pool_alone f number owner n o) → AreApart s f had
    → AreApart t (λ n o. either_of (out n o) (left n o)) (xs ++ ys)
taken_apart s t had xs ys call f left out number owner rest alone was =
    stay_apart s t had (xs ++ ys) call f (λ n o. either_of (out n o) (left n o)) (λ n o. ap (λ (z : Option Pool). either_of z (left n o)) (alone n o) ∙ ap (either_of (pool_alone f number owner n o)) (rest n o) ∙ whole (same_key owner number o n) (f n o)) was where
      whole : (b : Bool) (x : Option Pool) → either_of (if b then x else None) (if b then None else x) ≡ x
      whole true None = refl
      whole true (Some y) = refl
      whole false x = refl

pub left_apart : (s : Store) (xs ys : List ℕ) (f left out : Pools) (number owner : ℕ)
    → ((n o : ℕ) → left n o ≡ pools_with f number owner None n o) → ((n o : ℕ) → out n o ≡ pool_alone f number owner n o)
    → AreApart s (λ n o. either_of (out n o) (left n o)) (xs ++ ys) → AreApart s left xs × AreApart s out ys
left_apart s xs ys f left out number owner rest alone both = (
  part_apart s (λ n o. either_of (out n o) (left n o)) left (xs ++ ys) xs (λ n o p e. ap (λ (z : Option Pool). either_of z (left n o)) (alone n o) ∙ beside (same_key owner number o n) (f n o) (left n o) p (rest n o) e) (λ i z. in_left i xs ys z) both,
  part_apart s (λ n o. either_of (out n o) (left n o)) out (xs ++ ys) ys (λ n o p e. ap (λ (z : Option Pool). either_of z (left n o)) e) (λ i z. in_right i xs ys z) both,
) where
  beside : (b : Bool) (x y : Option Pool) (p : Pool) → y ≡ (if b then None else x) → y ≡ Some p → either_of (if b then x else None) y ≡ Some p
  beside true x y p h e = absurd (none_some y p h e)
  beside false x y p h e = e

-- the two parts in the other order
pub turn_apart : (s : Store) (f : Pools) (xs ys : List ℕ) → AreApart s f (xs ++ ys) → AreApart s f (ys ++ xs)
turn_apart s f xs ys was = part_apart s f f (xs ++ ys) (ys ++ xs) (λ n o p e. e) (λ i z. elim (in_either i ys xs z) [ inl m ↦ in_right i xs ys m | inr m ↦ in_left i xs ys m ]) was

-- new queues are empty
pub empty_queues : (t : Store) (e : Extents) (f : FreeQueue) → e ≡ extents_of 0 0 → f ≡ queue_of 0 0 → IsExtents t e → Extents.owned t e ≡ [] → IsFreeQueue t f → FreeQueue.owned t f ≡ []
    → StandApart t no_queues × (ids_of t no_queues ≡ [])
empty_queues t e f p q extents bare free bare' =
    let P : Extents → Type 0 = λ z. IsExtents t z × (Extents.owned t z ≡ []) in
    let Q : FreeQueue → Type 0 = λ z. IsFreeQueue t z × (FreeQueue.owned t z ≡ []) in
    let x : IsExtents t (extents_of 0 0) × (Extents.owned t (extents_of 0 0) ≡ []) = subst P p (extents, bare) in
    let y : IsFreeQueue t (queue_of 0 0) × (FreeQueue.owned t (queue_of 0 0) ≡ []) = subst Q q (free, bare') in (
      record { extents = x.0; free = y.0; apart = λ i m. absurd (not_both (among i (Extents.owned t (extents_of 0 0))) m (ap (among i) x.1)) },
      ap (λ (z : List ℕ). z ++ FreeQueue.owned t (queue_of 0 0)) x.1 ∙ y.1,
    )

-- if the elements of all queues are as they were
pub kept_apart : (s t : Store) (xs ys : List ℕ) (f g : Pools) → ((n o : ℕ) → g n o ≡ f n o) → ((i : ℕ) → among i ys ≡ among i xs) → AreApart s f xs
    → ((n o : ℕ) (p : Pool) → f n o ≡ Some p → (i : ℕ) → among i (ids_of s p.queues) ≡ true → at t i ≡ at s i) → AreApart t g ys × ((n o : ℕ) (p : Pool) → f n o ≡ Some p → ids_of t p.queues ≡ ids_of s p.queues)
kept_apart s t xs ys f g same e was kept = (
  record {
    stand = λ n o p k. (both n o p (sym (same n o) ∙ k)).0;
    apart = λ n o m r p x k h d i z. ap (among i) (both m r x (sym (same m r) ∙ h)).1 ∙ was.apart n o m r p x (sym (same n o) ∙ k) (sym (same m r) ∙ h) d i (ap (among i) (sym (both n o p (sym (same n o) ∙ k)).1) ∙ z);
    beside = λ n o p k i z. ap (among i) (both n o p (sym (same n o) ∙ k)).1 ∙ was.beside n o p (sym (same n o) ∙ k) i (sym (e i) ∙ z);
  },
  λ n o p k. (both n o p k).1,
) where
  both : (n o : ℕ) (p : Pool) → f n o ≡ Some p → StandApart t p.queues × (ids_of t p.queues ≡ ids_of s p.queues)
  both n o p k = both_kept s t p.queues (was.stand n o p k) (kept n o p k)

-- a call on the queues of one subpool
module _ (s t : Store) (f g : Pools) (others : List ℕ) (n o : ℕ) (p : Pool) (queues : Queues) (was : AreApart s f others) (live : (i : ℕ) → among i others ≡ true → IsSome (at s i)) (there : f n o ≡ Some p)
    (call : Leaves s t (ids_of s p.queues) (ids_of t queues)) (stand : StandApart t queues) (same : (m r : ℕ) → g m r ≡ f m r) where
  abbrev h : Pools
  h = pools_with g n o (Some (record { id = p.id; queues = queues }))

  -- the subpool itself, or another
  data Which (m r : ℕ) (x : Pool) : Type 0 where
    this : same_key n o m r ≡ true → queues ≡ x.queues → Which m r x
    another : same_key n o m r ≡ false → f m r ≡ Some x → Which m r x

  which : (m r : ℕ) (x : Pool) → h m r ≡ Some x → Which m r x
  which m r x e = go (same_key o n r m) refl where
    go : (b : Bool) → same_key o n r m ≡ b → Which m r x
    go true k =
        let w : (o ≡ r) × (n ≡ m) = same_parts o n r m k in
        this (same_by n o m r w.1 w.0) (ap (λ (z : Pool). z.queues) (some_pool (record { id = p.id; queues = queues }) x (sym (cond-true (same_key o n r m) (Some (record { id = p.id; queues = queues })) (g m r) k) ∙ e)))
    go false k = another (elim (either (same_key n o m r)) [
      | inl q ↦ (let w : (n ≡ m) × (o ≡ r) = same_parts n o m r q in absurd (not_both (same_key o n r m) (same_by o n r m w.1 w.0) k))
      | inr q ↦ q
    ]) (sym (same m r) ∙ sym (cond-false (same_key o n r m) (Some (record { id = p.id; queues = queues })) (g m r) k) ∙ e)

  stay' : (m r : ℕ) (x : Pool) → same_key n o m r ≡ false → f m r ≡ Some x → StandApart t x.queues × (ids_of t x.queues ≡ ids_of s x.queues)
  stay' m r x d e = both_stay s t (ids_of s p.queues) (ids_of t queues) x.queues call (was.stand m r x e) (was.apart n o m r p x there e d)

  -- the new elements are none of another's
  parted : (m r : ℕ) (x : Pool) → same_key n o m r ≡ false → f m r ≡ Some x → (i : ℕ) → among i (ids_of t queues) ≡ true → among i (ids_of t x.queues) ≡ true → ⊥
  parted m r x d e i z k =
      let was_in : among i (ids_of s x.queues) ≡ true = ap (among i) (sym (stay' m r x d e).1) ∙ k in
      not_both (among i (ids_of t queues)) z (stays s t (ids_of s p.queues) (ids_of t queues) call i (both_live s x.queues (was.stand m r x e) i was_in)
      (false_if (among i (ids_of s p.queues)) (λ w. not_both (among i (ids_of s x.queues)) was_in (was.apart n o m r p x there e d i w)))).0

  stand_with : (m r : ℕ) (x : Pool) → Which m r x → StandApart t x.queues
  stand_with m r x (this k e) = let P : Queues → Type 0 = λ z. StandApart t z in subst P e stand
  stand_with m r x (another d e) = (stay' m r x d e).0

  apart_with : (m r a b : ℕ) (x y : Pool) → same_key m r a b ≡ false → Which m r x → Which a b y → Apart (ids_of t x.queues) (ids_of t y.queues)
  apart_with m r a b x y d (this k e) (this q w) i z =
      let u : (n ≡ m) × (o ≡ r) = same_parts n o m r k in
      let v : (n ≡ a) × (o ≡ b) = same_parts n o a b q in
      absurd (not_both (same_key m r a b) (same_by m r a b (sym u.0 ∙ v.0) (sym u.1 ∙ v.1)) d)
  apart_with m r a b x y d (this k e) (another q w) i z = false_if (among i (ids_of t y.queues)) (λ v. parted a b y q w i (ap (λ (j : Queues). among i (ids_of t j)) e ∙ z) v)
  apart_with m r a b x y d (another k e) (this q w) i z = ap (λ (j : Queues). among i (ids_of t j)) (sym w) ∙ false_if (among i (ids_of t queues)) (λ v. parted m r x k e i v z)
  apart_with m r a b x y d (another k e) (another q w) i z = ap (among i) (stay' a b y q w).1 ∙ was.apart m r a b x y e w d i (ap (among i) (sym (stay' m r x k e).1) ∙ z)

  beside_with : (m r : ℕ) (x : Pool) → Which m r x → Apart others (ids_of t x.queues)
  beside_with m r x (this k e) i z = ap (λ (j : Queues). among i (ids_of t j)) (sym e) ∙ (stays s t (ids_of s p.queues) (ids_of t queues) call i (live i z) (was.beside n o p there i z)).0
  beside_with m r x (another d e) i z = ap (among i) (stay' m r x d e).1 ∙ was.beside m r x e i z

  pub call_apart : (xs : List ℕ) → xs ≡ others → AreApart t h xs
  call_apart xs e = record {
    stand = λ m r x k. stand_with m r x (which m r x k);
    apart = λ m r a b x y k w d. apart_with m r a b x y d (which m r x k) (which a b y w);
    beside = λ m r x k i z. beside_with m r x (which m r x k) i (ap (among i) (sym e) ∙ z);
  }
