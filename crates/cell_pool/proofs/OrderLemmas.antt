-- The byte order of names.
use Rattle.std.proofs.Common.{◌≡◌, ℕ, ◌+◌, Bool, true, false, ◌&&◌, List, [], ◌∷◌, take, Option, Some, None, IsSome, refl, ap, ◌∙◌}
use Rattle.std.proofs.lemmas.Bool.{cond-false}
use Rattle.std.specs.Prelude.{slice_get}
use Rattle.std.specs.Ordering.{nat_cmp, is_lt, ordering_reverse}
use Rattle.std.specs.declared.cmp.Ordering.{Ordering}
use Rattle.std.specs.declared.cmp.Ordering.TheVariants.{Less, Equal, Greater}
use Rattle.std.specs.Cmp.Lexicographic.{slice_cmp, nat_list_cmp_total}
use Rattle.std.proofs.lemmas.Slice.Eq.{bytes_eq-Decides}
use Rattle.vsm_elements.proofs.ChainLemmas.{not_both}
use Rattle.cell_pool.specs.Pools.{Pool, first_with, is_named, pool_in}
use Rattle.cell_pool.specs.Items.{pool_of}
use Rattle.cell_pool.specs.Kept.{pools_of}
use Rattle.cell_pool.specs.Order.{is_before, is_after, is_between}
use Rattle.list_table.specs.Entries.{Entry}
use Rattle.cell_pool.proofs.PoolLemmas.{none_at, none_more, none_found, found_passes}

abbrev cmp : List ℕ → List ℕ → Ordering
cmp = slice_cmp nat_cmp

pub low_passes : (low : Option (List ℕ)) (high name : List ℕ) → is_after low name ≡ true → is_between low (Some high) name ≡ is_before name high
low_passes low high name h = ap (λ (b : Bool). b && is_before name high) h

tested : (o : Ordering) → is_lt o ≡ true → o ≡ Less
tested Less h = refl
tested Equal h = absurd (not_both false h refl)
tested Greater h = absurd (not_both false h refl)

pub before_chain : (a b c : List ℕ) → is_before a b ≡ true → is_before b c ≡ true → is_before a c ≡ true
before_chain a b c h k = ap is_lt (nat_list_cmp_total.trans a b c (tested (cmp a b) h) (tested (cmp b c) k))

not_own : (o : Ordering) → o ≡ ordering_reverse o → is_lt o ≡ false
not_own Less e = cc
not_own Equal e = refl
not_own Greater e = refl

pub before_itself : (a : List ℕ) → is_before a a ≡ false
before_itself a = not_own (cmp a a) (nat_list_cmp_total.antisymm a a)

and_parts : (a b : Bool) → (a && b) ≡ true → (a ≡ true) × (b ≡ true)
and_parts true b h = (refl, h)
and_parts false b h = absurd (not_both false h refl)

-- what is between is after the low one
pub between_low : (low high : Option (List ℕ)) (name : List ℕ) → is_between low high name ≡ true → is_after low name ≡ true
between_low low None name h = h
between_low low (Some high) name h = (and_parts (is_after low name) (is_before name high) h).0

-- what is between the low one and a name that is between is between
pub between_less : (low high : Option (List ℕ)) (name other : List ℕ) → is_between low high name ≡ true → is_between low (Some name) other ≡ true → is_between low high other ≡ true
between_less low None name other h k = (and_parts (is_after low other) (is_before other name) k).0
between_less low (Some high) name other h k =
    let p = and_parts (is_after low other) (is_before other name) k in
    let q = and_parts (is_after low name) (is_before name high) h in
    low_passes low high other p.0 ∙ before_chain other name high p.1 q.1

-- if none passes a test, none passes one that says more
pub fewer : (test more : Pool → Bool) → ((p : Pool) → more p ≡ true → test p ≡ true) → (ps : List Pool) → first_with test ps ≡ None → first_with more ps ≡ None
fewer test more less [] h = refl
fewer test more less (p ∷ ps) h =
    let parts = none_at test p ps h in
    cond-false (more p) (Some p) (first_with more ps) (missed (more p) refl parts.0) ∙ fewer test more less ps parts.1 where
      missed : (b : Bool) → more p ≡ b → test p ≡ false → more p ≡ false
      missed true e f = absurd (not_both (test p) (less p e) f)
      missed false e f = e

abbrev pub lies_between : Option (List ℕ) → Option (List ℕ) → Pool → Bool
lies_between low high p = is_between low high p.name

never : (b : Bool) → (b && false) ≡ false
never true = refl
never false = refl

-- a pool that lies between is the candidate from now on
pub nearer : (low high : Option (List ℕ)) (es : List Entry) (k : ℕ) (e : Entry) → slice_get es k ≡ Some e → first_with (lies_between low high) (pools_of (take k es)) ≡ None → lies_between low high (pool_of e) ≡ true
    → first_with (lies_between low (Some (pool_of e).name)) (pools_of (take (k + 1) es)) ≡ None
nearer low high es k e there none hit =
    let n : List ℕ = (pool_of e).name in
    none_more (lies_between low (Some n)) es k e there (fewer (lies_between low high) (lies_between low (Some n)) (λ p. between_less low high n p.name hit) (pools_of (take k es)) none)
    (ap (λ (b : Bool). is_after low n && b) (before_itself n) ∙ never (is_after low n))

-- no pool's name lies between
pub none_lies : (low high : Option (List ℕ)) (ps : List Pool) → first_with (lies_between low high) ps ≡ None → (n : List ℕ) → IsSome (pool_in n ps) → is_between low high n ≡ false
none_lies low high ps none n there = go (pool_in n ps) refl there where
  go : (o : Option Pool) → pool_in n ps ≡ o → IsSome o → is_between low high n ≡ false
  go None e h = absurd (not_both false h refl)
  go (Some p) e h = ap (is_between low high) ((bytes_eq-Decides n p.name).0 (found_passes (is_named n) ps p e)) ∙ none_found (lies_between low high) (is_named n) ps p none e
