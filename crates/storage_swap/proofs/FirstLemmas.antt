-- The first record of a chain changes sides, and goes to another chain.
use Rattle.std.proofs.Common.{◌≡◌, ℕ, zero, suc, ◌+◌, ◌-◌, ◌<◌, ◌≤◌, if◌then◌else◌, inl, inr, List, [], ◌∷◌, ◌++◌, map, drop, length, Option, Some, None, IsSome, refl, sym, ap, ◌∙◌, arith, subst}
use Rattle.std.specs.Prelude.{slice_get, unwrap_or, ◌/◌}
use Rattle.vsm_elements.specs.Store.{Store, at}
use Rattle.vsm_elements.specs.Chain.{Link, element, links, follow, owned, ids, IsChain, IsLink}
use Rattle.vsm_elements.specs.Ownership.{Leaves, Apart}
use Rattle.vsm_elements.specs.declared.chain.Chain.{Chain}
use Rattle.vsm_elements.specs.Owners.{times, Moves}
use Rattle.vsm_elements.proofs.TimesLemmas.{times-append}
use Rattle.vsm_elements.proofs.MoveLemmas.{none-or-some, moves-of, moves-follow, moves-by, moves-like, once-after, rest-same, chain-live, chain-kept, apart-from}
use Rattle.raw_region.specs.Frames.{PageFrame}
use Rattle.raw_region.specs.Pages.{byte_at}
use Rattle.subpool_storage.specs.declared.storage.SubpoolStorage.{SubpoolStorage}
use Rattle.storage_changes.specs.declared.record.Record.{Record}
use Rattle.storage_changes.specs.Turned.{turned}
use Rattle.storage_changes.specs.Steps.{step}
use Rattle.storage_changes.specs.Fits.{Fits}
use Rattle.storage_changes.proofs.Cases.{walk-same}
use Rattle.storage_swap.specs.declared.storage.Parts.{Parts}
use Rattle.storage_swap.specs.Storage.{hold_with, state_of, walk_of, StandsWith}
use Rattle.storage_swap.specs.Exchange.{Exchanges}
use Rattle.storage_swap.specs.Beside.{record_at, records_of, hold_both, BesideBoth, SwapsFirst}
use Rattle.storage_swap.proofs.KeptLemmas.{over, kept-hold-with, kept-stands, kept-state, kept-unassigned, kept-parked}

pub first-link : (ns : List Link) (n : Link) → slice_get ns 0 ≡ Some n → ns ≡ n ∷ drop 1 ns
first-link [] n e = cc
first-link (o ∷ ns) n e = ap (λ (z : Option Link). unwrap_or z o ∷ ns) e

-- the words of the first link are those of its element
head-words : (s : Store) (first count : ℕ) (n : Link) → slice_get (follow s first count) 0 ≡ Some n → (element s first).words ≡ n.words
head-words s first zero n e = cc
head-words s first (suc k) n e = ap (λ (o : Option Link). (unwrap_or o n).words) e

heads-are : (r s : Record) (rs ss : List Record) → r ∷ rs ≡ s ∷ ss → (r ≡ s) × (rs ≡ ss)
heads-are r s rs ss e = (ap (λ (l : List Record). unwrap_or (slice_get l 0) r) e, ap (drop 1) e)

-- the words that were read are the first record
pub first-record : (s : Store) (c : Chain) (n : Link) (r : Record) (rs : List Record) → slice_get (links s c) 0 ≡ Some n → records_of s c ≡ r ∷ rs → (record_at n ≡ r) × (map record_at (drop 1 (links s c)) ≡ rs)
first-record s c n r rs e k = heads-are (record_at n) r (map record_at (drop 1 (links s c))) rs (sym (ap (map record_at) (first-link (links s c) n e)) ∙ k)

-- the same walk over elements that leave the storage and the parked subpools as they were
pub kept-walk : (p : Parts) (q : SubpoolStorage) (e : Store) (k : StandsWith p q) (f g : ℕ → ℕ) (m : Moves p.elements e f g) (once : (i : ℕ) → f i + hold_with p q i ≤ 1) → e.spare ≡ p.elements.spare
    → (given : List PageFrame) (kept : ℕ) → walk_of (over p e) given q kept ≡ walk_of p given q kept
kept-walk p q e k f g m once same given kept = walk-same (walk_of (over p e) given q kept) (walk_of p given q kept) (kept-state p q e k f g m once)
    (λ a. ap (λ b. if b then byte_at p.region a else None) (kept-unassigned p q e k f g m once (a / 4096))) (λ a. refl) (kept-parked p q e k f g m once) (ap (λ (n : ℕ). n - kept) same)

-- the exchange leaves both chains, of which one has the record
module _ (p m : Parts) (given given' : List PageFrame) (q q' : SubpoolStorage) (c d : Chain) (b : BesideBoth p q c d) (r : Record) (x : Exchanges p m given given' q q' r) where
  abbrev both-ids : ℕ → ℕ
  both-ids i = times i (owned p.elements c) + times i (owned p.elements d)

  both-live : (i : ℕ) → 0 < both-ids i → IsSome (at p.elements i)
  both-live i h = elim (none-or-some (times i (owned p.elements c))) [
    | inl z ↦ chain-live p.elements d b.done i (omega (arith, h, z))
    | inr z ↦ chain-live p.elements c b.chain i z
  ]

  both-same : (i : ℕ) → 0 < both-ids i → at m.elements i ≡ at p.elements i
  both-same = rest-same p.elements m.elements (hold_with p q) (hold_with m q') x.moves both-ids b.once both-live

  first-kept : IsChain m.elements c × (links m.elements c ≡ links p.elements c)
  first-kept = chain-kept p.elements m.elements c b.chain (λ i h. both-same i (omega (arith, h)))

  done-kept : IsChain m.elements d × (links m.elements d ≡ links p.elements d)
  done-kept = chain-kept p.elements m.elements d b.done (λ i h. both-same i (omega (arith, h)))

  first-ids : (i : ℕ) → times i (owned m.elements c) ≡ times i (owned p.elements c)
  first-ids i = ap (λ (ns : List Link). times i (ids ns)) first-kept.1

  done-ids : (i : ℕ) → times i (owned m.elements d) ≡ times i (owned p.elements d)
  done-ids i = ap (λ (ns : List Link). times i (ids ns)) done-kept.1

  once-mid : (i : ℕ) → hold_with m q' i + both-ids i ≤ 1
  once-mid i = once-after p.elements m.elements (hold_with p q) (hold_with m q') x.moves both-ids b.once both-live x.stands.once i

  pub first-chain : 0 < c.count → IsChain m.elements c × (0 < c.count)
  first-chain some = (first-kept.0, some)

  pub done-chain : IsChain m.elements d
  done-chain = done-kept.0

  pub both-apart : Apart (owned m.elements c) (owned m.elements d)
  both-apart = apart-from (owned m.elements c) (owned m.elements d) (λ i. omega (arith, once-mid i, first-ids i, done-ids i))

  -- its element still has the words that were read
  pub first-words : (n : Link) → slice_get (links p.elements c) 0 ≡ Some n → (element m.elements c.first).words ≡ n.words
  first-words n got = head-words m.elements c.first c.count n (ap (λ (ns : List Link). slice_get ns 0) first-kept.1 ∙ got)

  -- it gets the turned words, and goes before those that are done
  module _ (e : Store) (c' d' : Chain) (n n' : Link) (got : slice_get (links p.elements c) 0 ≡ Some n) (of : record_at n ≡ r)
      (is : record_at n' ≡ turned (state_of p) r) (id : n'.id ≡ n.id) (chains : IsChain e c' × IsChain e d') (behind : links e c' ≡ drop 1 (links m.elements c)) (front : links e d' ≡ n' ∷ links m.elements d)
      (f : Leaves m.elements e (owned m.elements c ++ owned m.elements d) (owned e c' ++ owned e d')) (spares : e.spare ≡ m.elements.spare) where
    abbrev new-ids : ℕ → ℕ
    new-ids i = times i (owned e c') + times i (owned e d')

    moved : Moves m.elements e both-ids new-ids
    moved = moves-like m.elements e (λ i. times i (owned m.elements c ++ owned m.elements d)) (λ i. times i (owned e c' ++ owned e d')) both-ids new-ids (moves-of m.elements e (owned m.elements c ++ owned m.elements d) (owned e c' ++ owned e d') f)
        (λ i. omega (arith, times-append i (owned m.elements c) (owned m.elements d), first-ids i, done-ids i)) (λ i. sym (times-append i (owned e c') (owned e d')))

    once-moved : (i : ℕ) → both-ids i + hold_with m q' i ≤ 1
    once-moved i = omega (arith, once-mid i)

    new-hold : (i : ℕ) → hold_with (over m e) q' i ≡ hold_with m q' i
    new-hold = kept-hold-with m q' e x.stands both-ids new-ids moved once-moved

    -- both chains together have the same elements
    same-count : (i : ℕ) → new-ids i ≡ both-ids i
    same-count i =
        let a : times i (owned e c') ≡ times i (ids (drop 1 (links p.elements c))) = ap (λ (ns : List Link). times i (ids ns)) behind ∙ ap (λ (ns : List Link). times i (ids (drop 1 ns))) first-kept.1 in
        let k : times i (owned e d') ≡ times i (n.id ∷ ids (links m.elements d)) = ap (λ (ns : List Link). times i (ids ns)) front ∙ ap (λ (j : ℕ). times i (j ∷ ids (links m.elements d))) id in
        let l : times i (owned p.elements c) ≡ times i (n.id ∷ ids (drop 1 (links p.elements c))) = ap (λ (ns : List Link). times i (ids ns)) (first-link (links p.elements c) n got) in
        omega (arith, a, k, l, done-ids i)

    swaps-first : (rs : List Record) → records_of p.elements c ≡ r ∷ rs → SwapsFirst p (over m e) given given' q q' c c' d d' r rs
    swaps-first rs l = record {
      beside = record { stands = kept-stands m q' e x.stands both-ids new-ids moved once-moved; chain = chains.0; done = chains.1; once = λ i. omega (arith, new-hold i, same-count i, once-mid i) };
      moves = moves-follow p.elements m.elements e (hold_both p q c d) (λ i. hold_with m q' i + both-ids i) (hold_both (over m e) q' c' d')
          (moves-by p.elements m.elements (hold_with p q) (hold_with m q') (hold_both p q c d) (λ i. hold_with m q' i + both-ids i) x.moves (λ i. omega arith) (λ i. omega arith))
          (moves-by m.elements e both-ids new-ids (λ i. hold_with m q' i + both-ids i) (hold_both (over m e) q' c' d') moved (λ i. omega arith) (λ i. omega (arith, new-hold i)));
      rest = ap (map record_at) behind ∙ ap (λ (z : List Link). map record_at (drop 1 z)) first-kept.1 ∙ (first-record p.elements c n r rs got l).1;
      done = ap (map record_at) front ∙ ap (λ (z : List Link). record_at n' ∷ map record_at z) done-kept.1 ∙ ap (λ (z : Record). z ∷ records_of p.elements d) is;
      steps = λ kept le h. (let s : (kept ≤ m.elements.spare) × (walk_of m given' q' kept ≡ step (walk_of p given q kept) r) = x.steps kept le h in
          (omega (arith, s.0, spares), kept-walk m q' e x.stands both-ids new-ids moved once-moved spares given' kept ∙ s.1));
      as_many = f.as_many ∙ x.as_many;
      out = x.out;
      tables = x.tables;
      frames = x.frames;
      places = x.places;
    }

    pub swaps-any : (r' : Record) (rs : List Record) → records_of p.elements c ≡ r' ∷ rs → SwapsFirst p (over m e) given given' q q' c c' d d' r' rs
    swaps-any r' rs l =
        let same : r ≡ r' = sym of ∙ (first-record p.elements c n r' rs got l).0 in
        let P : Record → Type 0 = λ z. SwapsFirst p (over m e) given given' q q' c c' d d' z rs in
        subst P same (swaps-first rs (l ∙ ap (λ (z : Record). z ∷ rs) (sym same)))

-- a chain with a first link has some
pub some-first : (s : Store) (first count : ℕ) (n : Link) → slice_get (follow s first count) 0 ≡ Some n → 0 < count
some-first s first zero n e = cc
some-first s first (suc k) n e = omega arith

-- if there are records, the first of them is at the head
pub first-is : (p : Parts) (given : List PageFrame) (q : SubpoolStorage) (c d : Chain) → BesideBoth p q c d
    → (r : Record) × (rs : List Record) × (kept : ℕ) × (kept ≤ p.elements.spare) × (records_of p.elements c ≡ r ∷ rs) × Fits (walk_of p given q kept) r
    → IsLink p.elements c 0 c.first
first-is p given q c d beside (r, rs, kept, le, l, fits) = (omega (arith, beside.chain.count, some (links p.elements c) l), beside.chain.first) where
  some : (ns : List Link) → map record_at ns ≡ r ∷ rs → 0 < length ns
  some [] e = cc
  some (n ∷ ns) e = omega arith

-- what the exchange of the first record requires
pub first-asks : (p : Parts) (given : List PageFrame) (q : SubpoolStorage) (c : Chain) (n : Link) → slice_get (links p.elements c) 0 ≡ Some n
    → (r : Record) × (rs : List Record) × (kept : ℕ) × (kept ≤ p.elements.spare) × (records_of p.elements c ≡ r ∷ rs) × Fits (walk_of p given q kept) r
    → (kept : ℕ) × (kept ≤ p.elements.spare) × Fits (walk_of p given q kept) (record_at n)
first-asks p given q c n got (r, rs, kept, le, l, fits) = let P : Record → Type 0 = λ z. Fits (walk_of p given q kept) z in
    (kept, le, subst P (sym (first-record p.elements c n r rs got l).0) fits)
