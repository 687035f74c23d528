-- Two sets of subpools exchange the queues of one subpool, by their heads.
use Rattle.std.proofs.Common.{◌≡◌, ℕ, ◌+◌, ◌<◌, ◌≤◌, Bool, true, false, ◌&&◌, ◌==◌, inl, inr, Option, Some, refl, sym, ap, ◌∙◌, arith, subst}
use Rattle.std.proofs.lemmas.Bool.{cond-false, cond-true}
use Rattle.std.specs.Prelude.{if◌then◌else◌}
use Rattle.vsm_elements.specs.Store.{Store, at, among}
use Rattle.vsm_elements.specs.Ownership.{Leaves, Apart}
use Rattle.vsm_elements.specs.Owners.{times, Moves}
use Rattle.vsm_elements.proofs.ChainFrame.{stays, false_if}
use Rattle.vsm_elements.proofs.TimesLemmas.{times-none, times-some}
use Rattle.descriptor_queue.specs.Extents.{has_page}
use Rattle.free_queue.specs.FreeQueue.{is_free}
use Rattle.subpool_set.proofs.KeyLemmas.{same_key}
use Rattle.subpool_set.proofs.KeyLemmas.{either, not_both, same_parts, same_by}
use Rattle.vsm_model.specs.declared.Subpool.{Subpool}
use Rattle.vsm_model.specs.Subpools.{same_subpool}
use Rattle.subpool_set.specs.declared.queues.Queues.{Queues}
use Rattle.subpool_set.specs.declared.set.SubpoolSet.{SubpoolSet}
use Rattle.subpool_set.specs.Pools.{Pool, pools_with}
use Rattle.subpool_set.specs.QueueElements.{ids_of, StandApart, AreApart}
use Rattle.subpool_set.specs.SubpoolSet.{sight, pool, owned, queue_ids, number_of, owner_of, IsSubpoolSet, IsSubpool, QueuesStand}
use Rattle.subpool_set.proofs.LawLemmas.{pools_are_named, queue_ids_are}
use Rattle.subpool_storage.specs.declared.storage.SubpoolStorage.{SubpoolStorage}
use Rattle.cell_pool.specs.Laws.{AreSame}
use Rattle.subpool_storage.specs.SubpoolStorage.{page_in, free_in, subpools_of, hold_queues, hold, Stands}
use Rattle.subpool_storage.proofs.SubpoolLemmas.{same_subpools, other_at}
use Rattle.subpool_storage.proofs.KeptLemmas.{pools_kept}
use Rattle.subpool_storage.proofs.LiftLemmas.{SetStands, hold_cells}
use Rattle.std.proofs.Common.{◌⊎◌}
use Rattle.vsm_elements.proofs.TimesLemmas.{none-from}
use Rattle.subpool_set.proofs.KeyLemmas.{same_by}
use Rattle.subpool_set.proofs.ApartLemmas.{kept_apart}
use Rattle.subpool_set.proofs.CountLemmas.{ids_once}
use Rattle.subpool_set.proofs.LawLemmas.{sets_stand, sets_kept}
use Rattle.subpool_storage.specs.Subpools.{Subpools, with_storage_of}
use Rattle.subpool_storage.proofs.ViewLemmas.{counts, pages_at, free_at}
use Rattle.subpool_storage.proofs.PutLemmas.{part_of}

some_pool : (x y : Pool) → Some x ≡ Some y → x ≡ y
some_pool x y e = cc

-- one subpool of a set gets queues that were elsewhere
module _ (s t : Store) (q : SubpoolSet) (n o id : ℕ) (old new : Queues) (h : IsSubpoolSet s q) (was : QueuesStand s q) (there : pool s q n o ≡ Some (record { id = id; queues = old })) (stand : StandApart s new)
    (alien : (i : ℕ) → among i (ids_of s new) ≡ true → times i (owned s q) + times i (queue_ids s q) ≡ 0)
    (k : IsSubpoolSet t q) (pools_are : (m l : ℕ) → pool t q m l ≡ pools_with (pool s q) n o (Some (record { id = id; queues = new })) m l) (ids : (i : ℕ) → among i (owned t q) ≡ among i (owned s q))
    (kept : (i : ℕ) → among i (queue_ids s q) ≡ true → at t i ≡ at s i) (kept_new : (i : ℕ) → among i (ids_of s new) ≡ true → at t i ≡ at s i) where
  abbrev after : Pool
  after = record { id = id; queues = new }

  abbrev Which : ℕ → ℕ → Pool → Type 0
  Which m l x = ((same_key n o m l ≡ true) × (new ≡ x.queues)) ⊎ ((same_key n o m l ≡ false) × (pool s q m l ≡ Some x))

  which : (m l : ℕ) (x : Pool) → pools_with (pool s q) n o (Some after) m l ≡ Some x → Which m l x
  which m l x e = elim (either (same_key o n l m)) [
    | inl w ↦ (let u : (o ≡ l) × (n ≡ m) = same_parts o n l m w in
        inl (same_by n o m l u.1 u.0, ap (λ (z : Pool). z.queues) (some_pool after x (sym (cond-true (same_key o n l m) (Some after) (pool s q m l) w) ∙ e))))
    | inr w ↦ inr (turned w, sym (cond-false (same_key o n l m) (Some after) (pool s q m l) w) ∙ e)
  ] where
    turned : same_key o n l m ≡ false → same_key n o m l ≡ false
    turned w = elim (either (same_key n o m l)) [
      | inl v ↦ (let u : (n ≡ m) × (o ≡ l) = same_parts n o m l v in absurd (not_both (same_key o n l m) (same_by o n l m u.1 u.0) w))
      | inr v ↦ v
    ]

  in_ids : (m l : ℕ) (x : Pool) → pool s q m l ≡ Some x → (i : ℕ) → among i (ids_of s x.queues) ≡ true → among i (queue_ids s q) ≡ true
  in_ids m l x e i z = (queue_ids_are s q i h).1 m l x e z

  parted : (m l : ℕ) (x : Pool) → pool s q m l ≡ Some x → (i : ℕ) → among i (ids_of s new) ≡ true → among i (ids_of s x.queues) ≡ true → ⊥
  parted m l x e i z w = not_both (among i (queue_ids s q)) (in_ids m l x e i w) (none-from i (queue_ids s q) (omega (arith, alien i z)))

  stand_with : (m l : ℕ) (x : Pool) → Which m l x → StandApart s x.queues
  stand_with m l x (inl e) = let P : Queues → Type 0 = λ z. StandApart s z in subst P e.1 stand
  stand_with m l x (inr e) = was.stand m l x e.1

  of_new : (x : Pool) → new ≡ x.queues → (i : ℕ) → among i (ids_of s x.queues) ≡ true → among i (ids_of s new) ≡ true
  of_new x e i z = ap (λ (j : Queues). among i (ids_of s j)) e ∙ z

  apart_with : (m l a b : ℕ) (x y : Pool) → same_key m l a b ≡ false → Which m l x → Which a b y → Apart (ids_of s x.queues) (ids_of s y.queues)
  apart_with m l a b x y d (inl e) (inl w) i z =
      let u : (n ≡ m) × (o ≡ l) = same_parts n o m l e.0 in
      let v : (n ≡ a) × (o ≡ b) = same_parts n o a b w.0 in
      absurd (not_both (same_key m l a b) (same_by m l a b (sym u.0 ∙ v.0) (sym u.1 ∙ v.1)) d)
  apart_with m l a b x y d (inl e) (inr w) i z = false_if (among i (ids_of s y.queues)) (λ v. parted a b y w.1 i (of_new x e.1 i z) v)
  apart_with m l a b x y d (inr e) (inl w) i z = false_if (among i (ids_of s y.queues)) (λ v. parted m l x e.1 i (of_new y w.1 i v) z)
  apart_with m l a b x y d (inr e) (inr w) i z = was.apart m l a b x y e.1 w.1 d i z

  beside_with : (m l : ℕ) (x : Pool) → Which m l x → Apart (owned s q) (ids_of s x.queues)
  beside_with m l x (inl e) i z = false_if (among i (ids_of s x.queues)) (λ v. not_both (among i (owned s q)) z (none-from i (owned s q) (omega (arith, alien i (of_new x e.1 i v)))))
  beside_with m l x (inr e) i z = was.beside m l x e.1 i z

  mid : AreApart s (pools_with (pool s q) n o (Some after)) (owned s q)
  mid = record {
    stand = λ m l x e. stand_with m l x (which m l x e);
    apart = λ m l a b x y e w d. apart_with m l a b x y d (which m l x e) (which a b y w);
    beside = λ m l x e. beside_with m l x (which m l x e);
  }

  same_with : (m l : ℕ) (x : Pool) → Which m l x → (i : ℕ) → among i (ids_of s x.queues) ≡ true → at t i ≡ at s i
  same_with m l x (inl e) i z = kept_new i (of_new x e.1 i z)
  same_with m l x (inr e) i z = kept i (in_ids m l x e.1 i z)

  pub given : QueuesStand t q
  given = (kept_apart s t (owned s q) (owned t q) (pools_with (pool s q) n o (Some after)) (pool t q) pools_are ids mid (λ m l x e. same_with m l x (which m l x e))).0

  other_same : (m l : ℕ) (x : Pool) → pool s q m l ≡ Some x → same_key n o m l ≡ false → (i : ℕ) → among i (ids_of s x.queues) ≡ true → at t i ≡ at s i
  other_same m l x e d i z = kept i (in_ids m l x e i z)

  own_count : (i : ℕ) → times i (owned t q) ≡ times i (owned s q)
  own_count i = go (among i (owned s q)) refl where
    once : (u : Store) → IsSubpoolSet u q → QueuesStand u q → among i (owned u q) ≡ true → times i (owned u q) ≡ 1
    once u is are m = let p : 0 < times i (owned u q) = times-some i (owned u q) m in omega (arith, p, (ids_once u q is are).0 i)

    go : (b : Bool) → among i (owned s q) ≡ b → times i (owned t q) ≡ times i (owned s q)
    go true e = once t k given (ids i ∙ e) ∙ sym (once s h was e)
    go false e = times-none i (owned t q) (ids i ∙ e) ∙ sym (times-none i (owned s q) e)

  pub given_count : (i : ℕ) → times i (owned t q) + times i (queue_ids t q) + times i (ids_of s old) ≡ times i (owned s q) + times i (queue_ids s q) + times i (ids_of s new)
  given_count i = omega (arith, own_count i, counts s s t q n o id old new h was there stand k given pools_are other_same kept_new i)

  pub given_pages : (m l x : ℕ) → page_in t (pool t q m l) x ≡ (if (m == n) && (l == o) then has_page s new.extents x else page_in s (pool s q m l) x)
  given_pages = pages_at s s t q n o id old new h was there stand k given pools_are other_same kept_new

  pub given_free : (m l x : ℕ) → free_in t (pool t q m l) x ≡ (if (m == n) && (l == o) then is_free s new.free x else free_in s (pool s q m l) x)
  given_free = free_at s s t q n o id old new h was there stand k given pools_are other_same kept_new

-- the pages and the free storage of one subpool, from others
abbrev pub with_queues_of : Subpools → Subpools → Subpool → Subpools
with_queues_of m others p = record (with_storage_of m others p) { cells = m.cells }

-- q and r have exchanged the queues of one subpool
pub record QueuesExchanged (s t : Store) (q r : SubpoolStorage) (p : Subpool) : Type 0 where
  pub stands : Stands t q
  pub others : Stands t r
  pub subpools : subpools_of t q ≡ with_queues_of (subpools_of s q) (subpools_of s r) p
  pub other_subpools : subpools_of t r ≡ with_queues_of (subpools_of s r) (subpools_of s q) p
  pub parted : (i : ℕ) → hold t q i + hold t r i ≤ 1
  pub moves : Moves s t (λ i. hold s q i + hold s r i) (λ i. hold t q i + hold t r i)

-- one side of the exchange: q gets what r has
module _ (s t : Store) (q r : SubpoolStorage) (p : Subpool) (a b : ℕ) (old new : Queues) (h : SetStands s q) (g : SetStands s r)
    (there : pool s q.set p.number p.owner ≡ Some (record { id = a; queues = old })) (away : pool s r.set p.number p.owner ≡ Some (record { id = b; queues = new }))
    (once : (i : ℕ) → hold_queues s q i + hold_queues s r i ≤ 1) (k : IsSubpoolSet t q.set) (sights : (c d : ℕ) → sight t q.set c d ≡ sight s q.set c d)
    (pools : (m l : ℕ) → pool t q.set m l ≡ pools_with (pool s q.set) p.number p.owner (Some (record { id = a; queues = new })) m l) (ids : (i : ℕ) → among i (owned t q.set) ≡ among i (owned s q.set))
    (rest : (i : ℕ) → times i (owned s q.set) ≡ 0 → times i (owned s r.set) ≡ 0 → at t i ≡ at s i) where
  stand : StandApart s new
  stand = g.queues.stand p.number p.owner (record { id = b; queues = new }) away

  away_part : (i : ℕ) → among i (ids_of s new) ≡ true → 0 < times i (queue_ids s r.set)
  away_part i m = let w : 0 < times i (ids_of s new) = times-some i (ids_of s new) m in
      let part : times i (ids_of s new) ≤ times i (queue_ids s r.set) = part_of s r.set p.number p.owner (record { id = b; queues = new }) g.set stand away i in
      omega (arith, w, part)

  alien : (i : ℕ) → among i (ids_of s new) ≡ true → times i (owned s q.set) + times i (queue_ids s q.set) ≡ 0
  alien i m = omega (arith, away_part i m, once i)

  kept_new : (i : ℕ) → among i (ids_of s new) ≡ true → at t i ≡ at s i
  kept_new i m = rest i (omega (arith, away_part i m, once i)) (omega (arith, away_part i m, once i))

  kept : (i : ℕ) → among i (queue_ids s q.set) ≡ true → at t i ≡ at s i
  kept i m = let w : 0 < times i (queue_ids s q.set) = times-some i (queue_ids s q.set) m in rest i (omega (arith, w, once i)) (omega (arith, w, once i))

  pub side_stands : SetStands t q
  side_stands = record { set = k; queues = given s t q.set p.number p.owner a old new h.set h.queues there stand alien k pools ids kept kept_new }

  pub side_count : (i : ℕ) → hold_queues t q i + times i (ids_of s old) ≡ hold_queues s q i + times i (ids_of s new)
  side_count = given_count s t q.set p.number p.owner a old new h.set h.queues there stand alien k pools ids kept kept_new

  pub side_pages : (m : Subpool) (x : ℕ) → page_in t (pool t q.set m.number m.owner) x ≡ (if same_subpool m p then page_in s (pool s r.set m.number m.owner) x else page_in s (pool s q.set m.number m.owner) x)
  side_pages m x = given_pages s t q.set p.number p.owner a old new h.set h.queues there stand alien k pools ids kept kept_new m.number m.owner x
      ∙ ap (λ (z : Bool). if same_subpool m p then z else page_in s (pool s q.set m.number m.owner) x) (sym (ap (λ (z : Option Pool). page_in s z x) away))
      ∙ other_at (λ n y. page_in s (pool s q.set n.number n.owner) y) (λ n y. page_in s (pool s r.set n.number n.owner) y) m p x

  pub side_free : (m : Subpool) (d : ℕ) → free_in t (pool t q.set m.number m.owner) d ≡ (if same_subpool m p then free_in s (pool s r.set m.number m.owner) d else free_in s (pool s q.set m.number m.owner) d)
  side_free m d = given_free s t q.set p.number p.owner a old new h.set h.queues there stand alien k pools ids kept kept_new m.number m.owner d
      ∙ ap (λ (z : Bool). if same_subpool m p then z else free_in s (pool s q.set m.number m.owner) d) (sym (ap (λ (z : Option Pool). free_in s z d) away))
      ∙ other_at (λ n y. free_in s (pool s q.set n.number n.owner) y) (λ n y. free_in s (pool s r.set n.number n.owner) y) m p d

-- the key of a subpool, by its name
key_is : (s : Store) (q : SubpoolSet) (n o id : ℕ) (x : Option Pool) → number_of s id ≡ n → owner_of s id ≡ o → (m l : ℕ) → pools_with (pool s q) (number_of s id) (owner_of s id) x m l ≡ pools_with (pool s q) n o x m l
key_is s q n o id x a b m l = ap (λ (z : ℕ). pools_with (pool s q) z (owner_of s id) x m l) a ∙ ap (λ (z : ℕ). pools_with (pool s q) n z x m l) b

-- the heads are written in q, and then in r
module _ (s u : Store) (q r : SubpoolStorage) (p : Subpool) (a b : ℕ) (here away : Queues) (h : SetStands s q) (g : SetStands s r) (number_is : number_of s a ≡ p.number) (owner_is : owner_of s a ≡ p.owner)
    (there : pool s q.set p.number p.owner ≡ Some (record { id = a; queues = here })) (there_too : pool s r.set p.number p.owner ≡ Some (record { id = b; queues = away })) (once : (i : ℕ) → hold_queues s q i + hold_queues s r i ≤ 1)
    (own : Leaves s u (owned s q.set) (owned u q.set)) where
  apart_own : (i : ℕ) → among i (owned s r.set) ≡ true → among i (owned s q.set) ≡ false
  apart_own i m = let w : 0 < times i (owned s r.set) = times-some i (owned s r.set) m in none-from i (owned s q.set) (omega (arith, w, once i))

  pub still : IsSubpoolSet u r.set × ((c d : ℕ) → sight u r.set c d ≡ sight s r.set c d) × ((m l : ℕ) → pool u r.set m l ≡ pool s r.set m l) × (owned u r.set ≡ owned s r.set)
  still = sets_kept s u r.set g.set (λ i m. (stays s u (owned s q.set) (owned u q.set) own i ((sets_stand s r.set g.set).0.live i m) (apart_own i m)).1)

  pub still_named : IsSubpool u r.set b × (number_of u b ≡ p.number) × (owner_of u b ≡ p.owner) × (sight u r.set p.owner p.number ≡ Some p.owner)
  still_named = pools_are_named u r.set p.number p.owner (record { id = b; queues = away }) still.0 (still.2 p.number p.owner ∙ there_too)

  module _ (t : Store) (set : IsSubpoolSet u q.set) (sights : (c d : ℕ) → sight u q.set c d ≡ sight s q.set c d)
      (pools : (m l : ℕ) → pool u q.set m l ≡ pools_with (pool s q.set) (number_of s a) (owner_of s a) (Some (record { id = a; queues = away })) m l) (ids : (i : ℕ) → among i (owned u q.set) ≡ among i (owned s q.set))
      (set_too : IsSubpoolSet t r.set) (sights_too : (c d : ℕ) → sight t r.set c d ≡ sight u r.set c d)
      (pools_too : (m l : ℕ) → pool t r.set m l ≡ pools_with (pool u r.set) (number_of u b) (owner_of u b) (Some (record { id = b; queues = here })) m l)
      (own_too : Leaves u t (owned u r.set) (owned t r.set)) (ids_too : (i : ℕ) → among i (owned t r.set) ≡ among i (owned u r.set)) where
    not_too : (i : ℕ) → among i (owned u q.set) ≡ true → among i (owned u r.set) ≡ false
    not_too i m = ap (among i) still.3 ∙ false_if (among i (owned s r.set)) (λ w. not_both (among i (owned s q.set)) (sym (ids i) ∙ m) (apart_own i w))

    last : IsSubpoolSet t q.set × ((c d : ℕ) → sight t q.set c d ≡ sight u q.set c d) × ((m l : ℕ) → pool t q.set m l ≡ pool u q.set m l) × (owned t q.set ≡ owned u q.set)
    last = sets_kept u t q.set set (λ i m. (stays u t (owned u r.set) (owned t r.set) own_too i ((sets_stand u q.set set).0.live i m) (not_too i m)).1)

    rest : (i : ℕ) → times i (owned s q.set) ≡ 0 → times i (owned s r.set) ≡ 0 → at t i ≡ at s i
    rest i v w =
        let x : among i (owned s q.set) ≡ false = none-from i (owned s q.set) v in
        let y : among i (owned u r.set) ≡ false = ap (among i) still.3 ∙ none-from i (owned s r.set) w in
        own_too.others i y (ids_too i ∙ y) ∙ own.others i x (ids i ∙ x)

    pools_now : (m l : ℕ) → pool t q.set m l ≡ pools_with (pool s q.set) p.number p.owner (Some (record { id = a; queues = away })) m l
    pools_now m l = last.2 m l ∙ pools m l ∙ key_is s q.set p.number p.owner a (Some (record { id = a; queues = away })) number_is owner_is m l

    pools_now_too : (m l : ℕ) → pool t r.set m l ≡ pools_with (pool s r.set) p.number p.owner (Some (record { id = b; queues = here })) m l
    pools_now_too m l = pools_too m l ∙ key_is u r.set p.number p.owner b (Some (record { id = b; queues = here })) still_named.1 still_named.2 m l ∙ ap (λ (z : Option Pool). if same_key p.owner p.number l m then Some (record { id = b; queues = here }) else z) (still.2 m l)

    swapped : (i : ℕ) → hold_queues s r i + hold_queues s q i ≤ 1
    swapped i = omega (arith, once i)

    set_stands : SetStands t q
    set_stands = side_stands s t q r p a b here away h g there there_too once last.0 (λ c d. last.1 c d ∙ sights c d) pools_now (λ i. ap (among i) last.3 ∙ ids i) rest

    other_set_stands : SetStands t r
    other_set_stands = side_stands s t r q p b a away here g h there_too there swapped set_too (λ c d. sights_too c d ∙ still.1 c d) pools_now_too (λ i. ids_too i ∙ ap (among i) still.3) (λ i v w. rest i w v)

    set_held : (i : ℕ) → hold_queues t q i + hold_queues t r i ≡ hold_queues s q i + hold_queues s r i
    set_held i =
        let first : hold_queues t q i + times i (ids_of s here) ≡ hold_queues s q i + times i (ids_of s away) = side_count s t q r p a b here away h g there there_too once last.0 (λ c d. last.1 c d ∙ sights c d) pools_now (λ j. ap (among j) last.3 ∙ ids j) rest i in
        let second : hold_queues t r i + times i (ids_of s away) ≡ hold_queues s r i + times i (ids_of s here) = side_count s t r q p b a away here g h there_too there swapped set_too (λ c d. sights_too c d ∙ still.1 c d) pools_now_too (λ j. ids_too j ∙ ap (among j) still.3) (λ j v w. rest j w v) i in
        omega (arith, first, second)

    set_kept : (i : ℕ) → hold_queues s q i + hold_queues s r i ≡ 0 → at t i ≡ at s i
    set_kept i e = rest i (omega (arith, e)) (omega (arith, e))

    -- with the cell pools of both, which stay
    module _ (hs : Stands s q) (gs : Stands s r) (whole : (i : ℕ) → hold s q i + hold s r i ≤ 1) where
      cells_here : AreSame s t q.cells
      unfolding Stands hold
      cells_here = pools_kept s t q.cells hs.cells (λ i z. set_kept i (omega (arith, z, whole i)))

      cells_there : AreSame s t r.cells
      unfolding Stands hold
      cells_there = pools_kept s t r.cells gs.cells (λ i z. set_kept i (omega (arith, z, whole i)))

      count_here : (i : ℕ) → hold_cells t q i ≡ hold_cells s q i
      count_here i = ap (times i) cells_here.elements

      count_there : (i : ℕ) → hold_cells t r i ≡ hold_cells s r i
      count_there i = ap (times i) cells_there.elements

      exchange_stands : Stands t q
      unfolding Stands hold
      exchange_stands = record { set = set_stands.set; queues = set_stands.queues; cells = cells_here.stand; apart = λ i. omega (arith, set_held i, count_here i, whole i) }

      exchange_others : Stands t r
      unfolding Stands hold
      exchange_others = record { set = other_set_stands.set; queues = other_set_stands.queues; cells = cells_there.stand; apart = λ i. omega (arith, set_held i, count_there i, whole i) }

      exchange_subpools : subpools_of t q ≡ with_queues_of (subpools_of s q) (subpools_of s r) p
      unfolding subpools_of
      exchange_subpools = same_subpools (subpools_of t q) (with_queues_of (subpools_of s q) (subpools_of s r) p) (λ c d. last.1 c d ∙ sights c d)
          (side_pages s t q r p a b here away h g there there_too once last.0 (λ c d. last.1 c d ∙ sights c d) pools_now (λ i. ap (among i) last.3 ∙ ids i) rest)
          (side_free s t q r p a b here away h g there there_too once last.0 (λ c d. last.1 c d ∙ sights c d) pools_now (λ i. ap (among i) last.3 ∙ ids i) rest)
          cells_here.ids

      exchange_other_subpools : subpools_of t r ≡ with_queues_of (subpools_of s r) (subpools_of s q) p
      unfolding subpools_of
      exchange_other_subpools = same_subpools (subpools_of t r) (with_queues_of (subpools_of s r) (subpools_of s q) p) (λ c d. sights_too c d ∙ still.1 c d)
          (side_pages s t r q p b a away here g h there_too there swapped set_too (λ c d. sights_too c d ∙ still.1 c d) pools_now_too (λ i. ids_too i ∙ ap (among i) still.3) (λ i v w. rest i w v))
          (side_free s t r q p b a away here g h there_too there swapped set_too (λ c d. sights_too c d ∙ still.1 c d) pools_now_too (λ i. ids_too i ∙ ap (among i) still.3) (λ i v w. rest i w v))
          cells_there.ids

      exchange_held : (i : ℕ) → hold t q i + hold t r i ≡ hold s q i + hold s r i
      unfolding hold
      exchange_held i = omega (arith, set_held i, count_here i, count_there i)

      exchange_kept : (i : ℕ) → hold s q i + hold s r i ≡ 0 → at t i ≡ at s i
      unfolding hold
      exchange_kept i e = set_kept i (omega (arith, e))

      exchange_parted : (i : ℕ) → hold t q i + hold t r i ≤ 1
      exchange_parted i = omega (arith, exchange_held i, whole i)

      exchange_moves : Moves s t (λ i. hold s q i + hold s r i) (λ i. hold t q i + hold t r i)
      exchange_moves = record {
        others = λ i h n. exchange_kept i h;
        gained = λ i h n. absurd (omega (arith, exchange_held i, h, n));
        lost = λ i h n. absurd (omega (arith, exchange_held i, h, n));
      }

      pub exchanged : QueuesExchanged s t q r p
      exchanged = record {
        stands = exchange_stands;
        others = exchange_others;
        subpools = exchange_subpools;
        other_subpools = exchange_other_subpools;
        parted = exchange_parted;
        moves = exchange_moves;
      }
