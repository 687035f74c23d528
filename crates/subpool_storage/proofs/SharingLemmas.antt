-- A subpool is shared, or passes to another task: sight changes, and queues at most change their owner.
use Rattle.std.proofs.Common.{◌≡◌, ℕ, ◌+◌, Bool, true, false, not, ◌&&◌, ◌==◌, inl, inr, Option, Some, None, refl, sym, ap, ◌∙◌, arith}
use Rattle.std.proofs.lemmas.Bool.{cond-false, cond-true}
use Rattle.std.specs.Prelude.{if◌then◌else◌}
use Rattle.std.specs.Option.{option_map}
use Rattle.vsm_elements.specs.Store.{Store, at, among}
use Rattle.vsm_elements.specs.Ownership.{Leaves}
use Rattle.vsm_elements.specs.Owners.{times, Moves}
use Rattle.vsm_elements.proofs.ChainFrame.{stays, false_if}
use Rattle.vsm_elements.proofs.TimesLemmas.{times-none, times-some}
use Rattle.vsm_elements.proofs.MoveLemmas.{moves-of, moves-by}
use Rattle.subpool_set.proofs.KeyLemmas.{either, not_both, eqb_refl, eqb_same, none_some, same_sym}
use Rattle.subpool_set.proofs.HeadLemmas.{both_live, both_kept}
use Rattle.subpool_set.proofs.CountLemmas.{ids_once}
use Rattle.subpool_set.proofs.LawLemmas.{queue_ids_are}
use Rattle.subpool_set.specs.declared.set.SubpoolSet.{SubpoolSet}
use Rattle.subpool_set.specs.Pools.{Pool, sight_with, sight_given, pools_given, taker}
use Rattle.subpool_set.specs.QueueElements.{ids_of}
use Rattle.subpool_set.specs.SubpoolSet.{sight, pool, owned, queue_ids, IsSubpoolSet, QueuesStand}
use Rattle.vsm_model.specs.declared.Subpool.{Subpool}
use Rattle.vsm_model.specs.Passing.{sight_after_gift}
use Rattle.subpool_storage.specs.declared.storage.SubpoolStorage.{SubpoolStorage}
use Rattle.cell_pool.specs.declared.pools.CellPools.{CellPools}
use Rattle.cell_pool.specs.Pools.{handed_on}
use Rattle.cell_pool.specs.CellPools.{by_id, IsCellPools}
use Rattle.cell_pool.specs.CellPools
use Rattle.subpool_storage.specs.Subpools.{Subpools, with_sharer, with_passed}
use Rattle.subpool_storage.specs.SubpoolStorage.{page_in, free_in, subpools_of, Stands, Becomes}
use Rattle.subpool_storage.proofs.LiftLemmas.{lifted, follow, cells_become}
use Rattle.subpool_storage.proofs.SetLemmas.{unseen_pool}
use Rattle.subpool_storage.proofs.ViewLemmas.{page_kept, free_kept}

-- the pool is at some number and owner
pub record Somewhere (s : Store) (q : SubpoolSet) (p : Pool) : Type 0 where
  pub m : ℕ
  pub l : ℕ
  pub is : pool s q m l ≡ Some p

-- each pool that was is somewhere, and each that is was somewhere
module _ (s t : Store) (q r : SubpoolSet) (h : IsSubpoolSet s q) (was : QueuesStand s q) (k : IsSubpoolSet t r) (now : QueuesStand t r) (own : Leaves s t (owned s q) (owned t r))
    (stays_there : (m l : ℕ) (p : Pool) → pool s q m l ≡ Some p → Somewhere t r p) (was_there : (m l : ℕ) (p : Pool) → pool t r m l ≡ Some p → Somewhere s q p) where
  pub kept : (m l : ℕ) (p : Pool) → pool s q m l ≡ Some p → (i : ℕ) → among i (ids_of s p.queues) ≡ true → at t i ≡ at s i
  kept m l p e i z = (stays s t (owned s q) (owned t r) own i (both_live s p.queues (was.stand m l p e) i z) (false_if (among i (owned s q)) (λ w. not_both (among i (ids_of s p.queues)) z (was.beside m l p e i w)))).1

  same_ids : (m l : ℕ) (p : Pool) → pool s q m l ≡ Some p → ids_of t p.queues ≡ ids_of s p.queues
  same_ids m l p e = (both_kept s t p.queues (was.stand m l p e) (kept m l p e)).1

  still : (i : ℕ) → among i (queue_ids s q) ≡ true → among i (queue_ids t r) ≡ true
  still i z =
      let w = (queue_ids_are s q i h).0 z in
      let v : Somewhere t r w.2 = stays_there w.0 w.1 w.2 w.3.0 in
      (queue_ids_are t r i k).1 v.m v.l w.2 v.is (ap (among i) (same_ids w.0 w.1 w.2 w.3.0) ∙ w.3.1)

  before : (i : ℕ) → among i (queue_ids t r) ≡ true → among i (queue_ids s q) ≡ true
  before i z =
      let w = (queue_ids_are t r i k).0 z in
      let v : Somewhere s q w.2 = was_there w.0 w.1 w.2 w.3.0 in
      (queue_ids_are s q i h).1 v.m v.l w.2 v.is (ap (among i) (sym (same_ids v.m v.l w.2 v.is)) ∙ w.3.1)

  count : (i : ℕ) → times i (queue_ids t r) ≡ times i (queue_ids s q)
  count i = elim (either (among i (queue_ids s q))) [
    | inl z ↦ omega (arith, times-some i (queue_ids s q) z, times-some i (queue_ids t r) (still i z), (ids_once s q h was).0 i, (ids_once t r k now).0 i)
    | inr z ↦ omega (arith, times-none i (queue_ids s q) z, times-none i (queue_ids t r) (false_if (among i (queue_ids t r)) (λ w. not_both (among i (queue_ids s q)) (before i w) z)))
  ]

  pub same_moves : Moves s t (λ i. times i (owned s q) + times i (queue_ids s q)) (λ i. times i (owned t r) + times i (queue_ids t r))
  same_moves = moves-by s t (λ i. times i (owned s q)) (λ i. times i (owned t r)) (λ i. times i (owned s q) + times i (queue_ids s q)) (λ i. times i (owned t r) + times i (queue_ids t r))
      (moves-of s t (owned s q) (owned t r) own) (λ i. omega arith) (λ i. omega (arith, count i))

  pub page_same : (m l y : ℕ) → page_in t (pool s q m l) y ≡ page_in s (pool s q m l) y
  page_same m l y = page_kept s t (pool s q m l) (was.stand m l) (kept m l) y

  pub free_same : (m l d : ℕ) → free_in t (pool s q m l) d ≡ free_in s (pool s q m l) d
  free_same m l d = free_kept s t (pool s q m l) (was.stand m l) (kept m l) d

-- one row of sight is added or goes, and no pool changes
pub sharer_becomes : (s t : Store) (q r : SubpoolStorage) (p : Subpool) (task : ℕ) (present : Bool) → r.cells ≡ q.cells → Stands s q → IsSubpoolSet t r.set → (QueuesStand s q.set → QueuesStand t r.set) → Leaves s t (owned s q.set) (owned t r.set)
    → ((m l : ℕ) → pool t r.set m l ≡ pool s q.set m l)
    → ((a b : ℕ) → sight t r.set a b ≡ sight_with (sight s q.set) task p.number (if present then Some p.owner else None) a b)
    → Becomes s t q r (with_sharer (subpools_of s q) p task present)
unfolding Stands subpools_of
sharer_becomes s t q r p task present e h k now own pools sights =
    let there : (m l : ℕ) (x : Pool) → pool s q.set m l ≡ Some x → Somewhere t r.set x = λ m l x e. record { m = m; l = l; is = pools m l ∙ e } in
    let back : (m l : ℕ) (x : Pool) → pool t r.set m l ≡ Some x → Somewhere s q.set x = λ m l x e. record { m = m; l = l; is = sym (pools m l) ∙ e } in
    lifted s t q r (with_sharer (subpools_of s q) p task present) h e (λ id. refl) (record {
      stands = record { set = k; queues = now h.queues };
      moves = same_moves s t q.set r.set h.set h.queues k (now h.queues) own there back;
      as_many = own.as_many;
      sights = λ a b. sights a b ∙ ap (λ (z : Bool). if z then (if present then Some p.owner else None) else sight s q.set a b) (same_sym task p.number a b);
      pages = λ m y. ap (λ (z : Option Pool). page_in t z y) (pools m.number m.owner) ∙ page_same s t q.set r.set h.set h.queues k (now h.queues) own there back m.number m.owner y;
      free = λ m y. ap (λ (z : Option Pool). free_in t z y) (pools m.number m.owner) ∙ free_same s t q.set r.set h.set h.queues k (now h.queues) own there back m.number m.owner y;
    })

-- what is at a place that is the taker's, the giver's or neither's
given_at : {A : Type 0} (f : Option Pool → A → Bool) (a b c : Bool) (x z : Option Pool) (y : A) (theirs own : Bool) → f None y ≡ false → (a ≡ true → f x y ≡ theirs) → f z y ≡ own
    → f (if a then (if b then x else (if c then None else z)) else z) y ≡ (if a && b then theirs else (if a && c then false else own))
given_at f true true c x z y theirs own none u v = u refl
given_at f true false true x z y theirs own none u v = none
given_at f true false false x z y theirs own none u v = v
given_at f false b c x z y theirs own none u v = v

given_sight : (f : ℕ → ℕ → Option ℕ) (number giver to a n : ℕ) → sight_given f number giver to a n ≡ sight_after_gift f number giver to a n
given_sight f number giver to a n = go (n == number) (f a n) where
  go : (b : Bool) (x : Option ℕ) → (if b then (if a == to then Some to else (if a == giver then None else taker giver to x)) else x)
      ≡ (if not b then x else (if a == to then Some to else (if a == giver then None else option_map (λ owner. if owner == giver then to else owner) x)))
  go false x = refl
  go true x = ap (λ (z : Option ℕ). if a == to then Some to else (if a == giver then None else z)) (took x) where
    one : (b : Bool) (o : ℕ) → (if b then Some to else Some o) ≡ Some (if b then to else o)
    one true o = refl
    one false o = refl

    took : (y : Option ℕ) → taker giver to y ≡ option_map (λ owner. if owner == giver then to else owner) y
    took None = refl
    took (Some o) = one (o == giver) o

module _ (s t : Store) (q r : SubpoolSet) (n giver to : ℕ) (vacant : pool s q n to ≡ None) (pools : (m l : ℕ) → pool t r m l ≡ pools_given (pool s q) n giver to m l) where
  abbrev in_number : ℕ → ℕ → Option Pool
  in_number m l = if l == to then pool s q m giver else (if l == giver then None else pool s q m l)

  same_number : (m l : ℕ) → (m == n) ≡ true → pool t r m l ≡ in_number m l
  same_number m l a = pools m l ∙ cond-true (m == n) (in_number m l) (pool s q m l) a

  at_taker : (m l : ℕ) → (m == n) ≡ true → (l == to) ≡ true → pool t r m l ≡ pool s q m giver
  at_taker m l a b = same_number m l a ∙ cond-true (l == to) (pool s q m giver) (if l == giver then None else pool s q m l) b

  at_giver : (m l : ℕ) → (m == n) ≡ true → (l == to) ≡ false → (l == giver) ≡ true → pool t r m l ≡ None
  at_giver m l a b c = same_number m l a ∙ cond-false (l == to) (pool s q m giver) (if l == giver then None else pool s q m l) b ∙ cond-true (l == giver) None (pool s q m l) c

  at_others : (m l : ℕ) → (m == n) ≡ true → (l == to) ≡ false → (l == giver) ≡ false → pool t r m l ≡ pool s q m l
  at_others m l a b c = same_number m l a ∙ cond-false (l == to) (pool s q m giver) (if l == giver then None else pool s q m l) b ∙ cond-false (l == giver) None (pool s q m l) c

  elsewhere : (m l : ℕ) → (m == n) ≡ false → pool t r m l ≡ pool s q m l
  elsewhere m l a = pools m l ∙ cond-false (m == n) (in_number m l) (pool s q m l) a

  pub given_stays : (m l : ℕ) (p : Pool) → pool s q m l ≡ Some p → Somewhere t r p
  given_stays m l p e = go (m == n) (l == to) (l == giver) refl refl refl where
    go : (a b c : Bool) → (m == n) ≡ a → (l == to) ≡ b → (l == giver) ≡ c → Somewhere t r p
    go false b c ea eb ec = record { m = m; l = l; is = elsewhere m l ea ∙ e }
    go true true c ea eb ec = absurd (none_some (pool s q m l) p (ap (λ (z : ℕ). pool s q z l) (eqb_same m n ea) ∙ ap (pool s q n) (eqb_same l to eb) ∙ vacant) e)
    go true false true ea eb ec = record { m = m; l = to; is = at_taker m to ea (eqb_refl to) ∙ ap (pool s q m) (sym (eqb_same l giver ec)) ∙ e }
    go true false false ea eb ec = record { m = m; l = l; is = at_others m l ea eb ec ∙ e }

  pub given_was : (m l : ℕ) (p : Pool) → pool t r m l ≡ Some p → Somewhere s q p
  given_was m l p e = go (m == n) (l == to) (l == giver) refl refl refl where
    go : (a b c : Bool) → (m == n) ≡ a → (l == to) ≡ b → (l == giver) ≡ c → Somewhere s q p
    go false b c ea eb ec = record { m = m; l = l; is = sym (elsewhere m l ea) ∙ e }
    go true true c ea eb ec = record { m = m; l = giver; is = sym (at_taker m l ea eb) ∙ e }
    go true false true ea eb ec = absurd (none_some (pool t r m l) p (at_giver m l ea eb ec) e)
    go true false false ea eb ec = record { m = m; l = l; is = sym (at_others m l ea eb ec) ∙ e }

-- a subpool is another task's, except for its cell pools
abbrev pub queues_passed : Subpools → Subpool → ℕ → Subpools
queues_passed m p to = record (with_passed m p to) { cells = m.cells }

pub passed_becomes : (s t : Store) (q r : SubpoolStorage) (p : Subpool) (to : ℕ) → r.cells ≡ q.cells → Stands s q → IsSubpoolSet t r.set → (QueuesStand s q.set → QueuesStand t r.set) → Leaves s t (owned s q.set) (owned t r.set)
    → ((m l : ℕ) → pool t r.set m l ≡ pools_given (pool s q.set) p.number p.owner to m l)
    → ((a b : ℕ) → sight t r.set a b ≡ sight_given (sight s q.set) p.number p.owner to a b)
    → (subpools_of s q).sight to p.number ≡ None → Becomes s t q r (queues_passed (subpools_of s q) p to)
unfolding Stands subpools_of
passed_becomes s t q r p to e h k now own pools sights unseen =
    let vacant : pool s q.set p.number to ≡ None = unseen_pool s q.set p.number to h.set unseen in
    let there : (m l : ℕ) (x : Pool) → pool s q.set m l ≡ Some x → Somewhere t r.set x = given_stays s t q.set r.set p.number p.owner to vacant pools in
    let back : (m l : ℕ) (x : Pool) → pool t r.set m l ≡ Some x → Somewhere s q.set x = given_was s t q.set r.set p.number p.owner to vacant pools in
    let page = page_same s t q.set r.set h.set h.queues k (now h.queues) own there back in
    let free = free_same s t q.set r.set h.set h.queues k (now h.queues) own there back in
    lifted s t q r (queues_passed (subpools_of s q) p to) h e (λ id. refl) (record {
      stands = record { set = k; queues = now h.queues };
      moves = same_moves s t q.set r.set h.set h.queues k (now h.queues) own there back;
      as_many = own.as_many;
      sights = λ a b. sights a b ∙ given_sight (sight s q.set) p.number p.owner to a b;
      pages = λ m y. ap (λ (z : Option Pool). page_in t z y) (pools m.number m.owner)
          ∙ given_at (page_in t) (m.number == p.number) (m.owner == to) (m.owner == p.owner) (pool s q.set m.number p.owner) (pool s q.set m.number m.owner) y (page_in s (pool s q.set p.number p.owner) y) (page_in s (pool s q.set m.number m.owner) y) refl
          (λ e. page m.number p.owner y ∙ ap (λ (z : ℕ). page_in s (pool s q.set z p.owner) y) (eqb_same m.number p.number e)) (page m.number m.owner y);
      free = λ m y. ap (λ (z : Option Pool). free_in t z y) (pools m.number m.owner)
          ∙ given_at (free_in t) (m.number == p.number) (m.owner == to) (m.owner == p.owner) (pool s q.set m.number p.owner) (pool s q.set m.number m.owner) y (free_in s (pool s q.set p.number p.owner) y) (free_in s (pool s q.set m.number m.owner) y) refl
          (λ e. free m.number p.owner y ∙ ap (λ (z : ℕ). free_in s (pool s q.set z p.owner) y) (eqb_same m.number p.number e)) (free m.number m.owner y);
    })

-- and with them
pub all_passed : (s t u : Store) (q r : SubpoolStorage) (c : CellPools) (p : Subpool) (to : ℕ) → Becomes s t q r (queues_passed (subpools_of s q) p to) → IsCellPools u c → Leaves t u (CellPools.owned t r.cells) (CellPools.owned u c)
    → ((id : ℕ) → by_id u c id ≡ option_map (handed_on p to) (by_id t r.cells id)) → Becomes s u q (record { set = r.set; cells = c }) (with_passed (subpools_of s q) p to)
unfolding subpools_of
all_passed s t u q r c p to b stand leaves ids =
    follow s t u q r (record { set = r.set; cells = c }) (queues_passed (subpools_of s q) p to) (with_passed (subpools_of s q) p to) b
    (cells_become t u r c (with_passed (subpools_of s q) p to) b.stands stand leaves
    (λ id. ids id ∙ ap (option_map (handed_on p to)) (was id))
    (ap (λ (z : Subpools). record z { cells = (with_passed (subpools_of s q) p to).cells }) (sym b.subpools))) where
      was : (id : ℕ) → by_id t r.cells id ≡ (subpools_of s q).cells id
      was id = ap (λ (z : Subpools). z.cells id) b.subpools
