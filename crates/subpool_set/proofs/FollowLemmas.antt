-- How the counts of the queues' ids follow what becomes of one subpool.
use Rattle.std.proofs.Common.{◌≡◌, ℕ, ◌+◌, ◌<◌, ◌≤◌, Bool, true, false, ◌⊎◌, inl, inr, List, Option, Some, None, refl, sym, ap, ◌∙◌, arith}
use Rattle.std.proofs.lemmas.Bool.{cond-false, cond-true}
use Rattle.vsm_elements.specs.Store.{Store, among}
use Rattle.vsm_elements.specs.Owners.{times}
use Rattle.vsm_elements.proofs.ChainFrame.{false_if}
use Rattle.vsm_elements.proofs.TimesLemmas.{times-none, times-some}
use Rattle.row_table.specs.Rows.{same_key}
use Rattle.row_table.proofs.RowLemmas.{either, not_both, same_parts, same_by, same_self}
use Rattle.subpool_set.specs.declared.set.SubpoolSet.{SubpoolSet}
use Rattle.subpool_set.specs.Pools.{Pool, Pools, pools_with}
use Rattle.subpool_set.specs.QueueElements.{ids_of, AreApart}
use Rattle.subpool_set.specs.SubpoolSet.{pool, owned, queue_ids, IsSubpoolSet, QueuesStand}
use Rattle.subpool_set.specs.Laws.{QueueIdsFollow, ids_at}
use Rattle.subpool_set.proofs.CountLemmas.{both_once, ids_once}
use Rattle.subpool_set.proofs.LawLemmas.{queue_ids_are}

some_pool : (x y : Pool) → Some x ≡ Some y → x ≡ y
some_pool x y e = cc

-- the ids at one place, of a set whose queues are intact
at_once : (s : Store) (f : Pools) (others : List ℕ) → AreApart s f others → (n o : ℕ) (x : Option Pool) → f n o ≡ x → (i : ℕ) → times i (ids_at s x) ≤ 1
at_once s f others was n o None e i = omega arith
at_once s f others was n o (Some p) e i = both_once s p.queues (was.stand n o p e) i

-- a place that has an id has a subpool
record There (s : Store) (x : Option Pool) (i : ℕ) : Type 0 where
  p : Pool
  is : x ≡ Some p
  has : among i (ids_of s p.queues) ≡ true

there : (s : Store) (x : Option Pool) (i : ℕ) → among i (ids_at s x) ≡ true → There s x i
there s None i m = absurd (not_both false m refl)
there s (Some p) i m = record { p = p; is = refl; has = m }

here : (s : Store) (x : Option Pool) (p : Pool) (i : ℕ) → x ≡ Some p → among i (ids_of s p.queues) ≡ true → among i (ids_at s x) ≡ true
here s x p i e m = ap (λ (z : Option Pool). among i (ids_at s z)) e ∙ m

module _ (s t : Store) (q r : SubpoolSet) (n o : ℕ) (x : Option Pool) (h : IsSubpoolSet s q) (was : QueuesStand s q) (k : IsSubpoolSet t r) (now : QueuesStand t r)
    (with : (m k : ℕ) → pool t r m k ≡ pools_with (pool s q) n o x m k)
    (same : (m k : ℕ) (p : Pool) → pool s q m k ≡ Some p → same_key n o m k ≡ false → ids_of t p.queues ≡ ids_of s p.queues) where
  turned : (m k : ℕ) → same_key n o m k ≡ false → same_key o n k m ≡ false
  turned m k d = elim (either (same_key o n k m)) [
    | inl e ↦ (let w : (o ≡ k) × (n ≡ m) = same_parts o n k m e in absurd (not_both (same_key n o m k) (same_by n o m k w.1 w.0) d))
    | inr e ↦ e
  ]

  -- the place itself, and any other
  this : pool t r n o ≡ x
  this = with n o ∙ cond-true (same_key o n o n) x (pool s q n o) (same_self o n)

  other : (m k : ℕ) → same_key n o m k ≡ false → pool t r m k ≡ pool s q m k
  other m k d = with m k ∙ cond-false (same_key o n k m) x (pool s q m k) (turned m k d)

  -- an id that another subpool has
  record Other (i : ℕ) : Type 0 where
    m : ℕ
    l : ℕ
    p : Pool
    apart : same_key n o m l ≡ false
    is : pool s q m l ≡ Some p
    has : among i (ids_of s p.queues) ≡ true

  of_old : (i : ℕ) → among i (queue_ids s q) ≡ true → (among i (ids_at s (pool s q n o)) ≡ true) ⊎ Other i
  of_old i m = go ((queue_ids_are s q i h).0 m) where
    go : (a : ℕ) × (b : ℕ) × (p : Pool) × ((pool s q a b ≡ Some p) × (among i (ids_of s p.queues) ≡ true)) → (among i (ids_at s (pool s q n o)) ≡ true) ⊎ Other i
    go w = elim (either (same_key n o w.0 w.1)) [
      | inl e ↦ (let u : (n ≡ w.0) × (o ≡ w.1) = same_parts n o w.0 w.1 e in
          inl (here s (pool s q n o) w.2 i (ap (λ (z : ℕ). pool s q z o) u.0 ∙ ap (pool s q w.0) u.1 ∙ w.3.0) w.3.1))
      | inr e ↦ inr (record { m = w.0; l = w.1; p = w.2; apart = e; is = w.3.0; has = w.3.1 })
    ]

  of_new : (i : ℕ) → among i (queue_ids t r) ≡ true → (among i (ids_at t x) ≡ true) ⊎ Other i
  of_new i m = go ((queue_ids_are t r i k).0 m) where
    go : (a : ℕ) × (b : ℕ) × (p : Pool) × ((pool t r a b ≡ Some p) × (among i (ids_of t p.queues) ≡ true)) → (among i (ids_at t x) ≡ true) ⊎ Other i
    go w = elim (either (same_key n o w.0 w.1)) [
      | inl e ↦ (let u : (n ≡ w.0) × (o ≡ w.1) = same_parts n o w.0 w.1 e in
          inl (here t x w.2 i (sym this ∙ ap (λ (z : ℕ). pool t r z o) u.0 ∙ ap (pool t r w.0) u.1 ∙ w.3.0) w.3.1))
      | inr e ↦ (let p : pool s q w.0 w.1 ≡ Some w.2 = sym (other w.0 w.1 e) ∙ w.3.0 in
          inr (record { m = w.0; l = w.1; p = w.2; apart = e; is = p; has = ap (among i) (sym (same w.0 w.1 w.2 p e)) ∙ w.3.1 }))
    ]

  -- it is in both
  other_old : (i : ℕ) → Other i → among i (queue_ids s q) ≡ true
  other_old i w = (queue_ids_are s q i h).1 w.m w.l w.p w.is w.has

  other_new : (i : ℕ) → Other i → among i (queue_ids t r) ≡ true
  other_new i w = (queue_ids_are t r i k).1 w.m w.l w.p (other w.m w.l w.apart ∙ w.is) (ap (among i) (same w.m w.l w.p w.is w.apart) ∙ w.has)

  old_here : (i : ℕ) → among i (ids_at s (pool s q n o)) ≡ true → among i (queue_ids s q) ≡ true
  old_here i m = let w : There s (pool s q n o) i = there s (pool s q n o) i m in (queue_ids_are s q i h).1 n o w.p w.is w.has

  new_here : (i : ℕ) → among i (ids_at t x) ≡ true → among i (queue_ids t r) ≡ true
  new_here i m = let w : There t x i = there t x i m in (queue_ids_are t r i k).1 n o w.p (this ∙ w.is) w.has

  -- no other subpool has what this one had, or has
  not_old : (i : ℕ) → among i (ids_at s (pool s q n o)) ≡ true → Other i → ⊥
  not_old i m w = let v : There s (pool s q n o) i = there s (pool s q n o) i m in
      not_both (among i (ids_of s w.p.queues)) w.has (was.apart n o w.m w.l v.p w.p v.is w.is w.apart i v.has)

  not_new : (i : ℕ) → among i (ids_at t x) ≡ true → Other i → ⊥
  not_new i m w = let v : There t x i = there t x i m in
      not_both (among i (ids_of t w.p.queues)) (ap (among i) (same w.m w.l w.p w.is w.apart) ∙ w.has) (now.apart n o w.m w.l v.p w.p (this ∙ v.is) (other w.m w.l w.apart ∙ w.is) w.apart i v.has)

  old_most : (i : ℕ) → times i (queue_ids s q) ≤ 1
  old_most i = omega (arith, (ids_once s q h was).0 i)

  new_most : (i : ℕ) → times i (queue_ids t r) ≤ 1
  new_most i = omega (arith, (ids_once t r k now).0 i)

  old_part : (i : ℕ) → times i (ids_at s (pool s q n o)) ≤ 1
  old_part i = at_once s (pool s q) (owned s q) was n o (pool s q n o) refl i

  new_part : (i : ℕ) → times i (ids_at t x) ≤ 1
  new_part i = at_once t (pool t r) (owned t r) now n o x this i

  some : (i : ℕ) (xs : List ℕ) → times i xs ≤ 1 → among i xs ≡ true → times i xs ≡ 1
  some i xs le m = let p : 0 < times i xs = times-some i xs m in omega (arith, le, p)

  -- by what this place had and has of an id
  pub counts_follow : (i : ℕ) → times i (queue_ids t r) + times i (ids_at s (pool s q n o)) ≡ times i (queue_ids s q) + times i (ids_at t x)
  counts_follow i = go (among i (ids_at s (pool s q n o))) (among i (ids_at t x)) refl refl where
    beside : among i (ids_at s (pool s q n o)) ≡ false → among i (ids_at t x) ≡ false → times i (queue_ids t r) ≡ times i (queue_ids s q)
    beside e f = elim (either (among i (queue_ids s q))) [
      | inl m ↦ (elim (of_old i m) [
        | inl z ↦ absurd (not_both (among i (ids_at s (pool s q n o))) z e)
        | inr w ↦ some i (queue_ids t r) (new_most i) (other_new i w) ∙ sym (some i (queue_ids s q) (old_most i) m)
      ])
      | inr m ↦ times-none i (queue_ids t r) (false_if (among i (queue_ids t r)) (λ z. elim (of_new i z) [
        | inl v ↦ not_both (among i (ids_at t x)) v f
        | inr w ↦ not_both (among i (queue_ids s q)) (other_old i w) m
      ])) ∙ sym (times-none i (queue_ids s q) m)
    ]

    go : (a b : Bool) → among i (ids_at s (pool s q n o)) ≡ a → among i (ids_at t x) ≡ b → times i (queue_ids t r) + times i (ids_at s (pool s q n o)) ≡ times i (queue_ids s q) + times i (ids_at t x)
    go true true e f = omega (arith, some i (queue_ids t r) (new_most i) (new_here i f), some i (queue_ids s q) (old_most i) (old_here i e), some i (ids_at s (pool s q n o)) (old_part i) e, some i (ids_at t x) (new_part i) f)
    go true false e f = omega (
      arith,
      some i (queue_ids s q) (old_most i) (old_here i e),
      some i (ids_at s (pool s q n o)) (old_part i) e,
      times-none i (ids_at t x) f,
      times-none i (queue_ids t r) (false_if (among i (queue_ids t r)) (λ z. elim (of_new i z) [
        | inl v ↦ not_both (among i (ids_at t x)) v f
        | inr w ↦ not_old i e w
      ])),
    )
    go false true e f = omega (
      arith,
      some i (queue_ids t r) (new_most i) (new_here i f),
      some i (ids_at t x) (new_part i) f,
      times-none i (ids_at s (pool s q n o)) e,
      times-none i (queue_ids s q) (false_if (among i (queue_ids s q)) (λ z. elim (of_old i z) [
        | inl v ↦ not_both (among i (ids_at s (pool s q n o))) v e
        | inr w ↦ not_new i f w
      ])),
    )
    go false false e f = omega (arith, times-none i (ids_at s (pool s q n o)) e, times-none i (ids_at t x) f, beside e f)

pub ids_follow : QueueIdsFollow
ids_follow s t q r n o x h was k now with same = counts_follow s t q r n o x h was k now with same
