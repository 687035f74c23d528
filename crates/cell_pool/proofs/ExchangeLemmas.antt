-- Pools that go from each of two tables to the other.
use Rattle.std.proofs.Common.{◌≡◌, ℕ, ◌==◌, ◌||◌, Bool, true, false, List, [], ◌++◌, Option, Some, None, IsSome, refl, sym, ap, ◌∙◌, subst, arith, inl, inr, length-append}
use Rattle.std.proofs.lemmas.Bool.{cond-false, cond-true}
use Rattle.std.specs.Prelude.{if◌then◌else◌, is_some, IfSome}
use Rattle.vsm_elements.specs.Store.{Store, at, among}
use Rattle.vsm_elements.specs.Chain.{links, ids}
use Rattle.vsm_elements.specs.Ownership.{Owns, Leaves, Apart}
use Rattle.vsm_elements.proofs.ChainLemmas.{among-append, not_both}
use Rattle.vsm_elements.proofs.ChainFrame.{Leaves-trans, Leaves-beside, Leaves-behind, Leaves-members}
use Rattle.vsm_elements.proofs.OwnerLemmas.{others_stay}
use Rattle.vsm_model.specs.declared.Subpool.{Subpool}
use Rattle.list_table.specs.Kept.{listed}
use Rattle.list_table.specs.ListTable.{entries}
use Rattle.list_table.specs.ListTable
use Rattle.list_table.proofs.ListParts.{in_left, in_cases, Apart-sym, Apart-left, Apart-both}
use Rattle.cell_pool.proofs.EntryLemmas.{eqb_refl, eqb_same}
use Rattle.cell_pool.specs.declared.pools.CellPools.{CellPools}
use Rattle.cell_pool.specs.Pools.{Pool, is_of, lies_in, only, all_but, either_of, holds_of, GoTogether}
use Rattle.cell_pool.specs.Kept.{pools_of}
use Rattle.cell_pool.specs.CellPools.{pool, by_id, owned, parked_pool, parked_by_id, parked_owned, IsCellPools, IsParked, TakesOut}
use Rattle.cell_pool.specs.declared.parked.ParkedCells.{ParkedCells}
use Rattle.cell_pool.specs.Laws.{AreSame}
use Rattle.cell_pool.proofs.PoolLemmas.{pool_ids, none_of, none_some, ids_are}
use Rattle.cell_pool.proofs.HandLemmas.{row_ids}
use Rattle.cell_pool.proofs.ParkLemmas.{append_none, leaves_same}
use Rattle.cell_pool.proofs.LawLemmas.{pools_are_one, pools_own, pools_stay}

-- what is found, if some of it goes

no_pool : (p : Pool) → None ≡ Some p → ⊥
no_pool p e = cc

same_pool : (x y : Pool) → Some x ≡ Some y → x ≡ y
same_pool x y e = cc

module _ (goes : Pool → Bool) where
  -- pools found in both go together
  abbrev pub Alike : Option Pool → Option Pool → Type 0
  Alike x y = (p r : Pool) → x ≡ Some p → y ≡ Some r → goes p ≡ goes r

  pub Alike-sym : (x y : Option Pool) → Alike x y → Alike y x
  Alike-sym x y h p r e f = sym (h r p f e)

  pub none_twice : (x y : Option Pool) → Alike x y → IsSome (only goes y) → all_but goes x ≡ None
  none_twice None y h k = refl
  none_twice (Some p) None h k = absurd (none_some None refl k)
  none_twice (Some p) (Some r) h k = cond-true (goes p) None (Some p) (h p r refl refl ∙ some_goes (goes r) refl) where
    some_goes : (b : Bool) → goes r ≡ b → goes r ≡ true
    some_goes true e = e
    some_goes false e = absurd (none_some (only goes (Some r)) (cond-false (goes r) (Some r) None e) k)

  pub is_exchanged : (x y : Option Pool) → Alike x y → either_of (only goes y) (all_but goes x) ≡ (if holds_of goes (either_of x y) then y else x)
  is_exchanged None None h = refl
  is_exchanged None (Some r) h = go (goes r) where
    go : (b : Bool) → either_of (if b then Some r else None) None ≡ (if b then Some r else None)
    go true = refl
    go false = refl
  is_exchanged (Some p) None h = refl
  is_exchanged (Some p) (Some r) h =
      ap (λ (z : Bool). either_of (if z then Some r else None) (if goes p then None else Some p)) (sym (h p r refl refl)) ∙ go (goes p) where
        go : (b : Bool) → either_of (if b then Some r else None) (if b then None else Some p) ≡ (if b then Some r else Some p)
        go true = refl
        go false = refl

  only_all : (o : Option Pool) → ((p : Pool) → o ≡ Some p → goes p ≡ true) → (only goes o ≡ o) × (all_but goes o ≡ None)
  only_all None h = (refl, refl)
  only_all (Some p) h = (cond-true (goes p) (Some p) None (h p refl), cond-true (goes p) None (Some p) (h p refl))

  only_none : (o : Option Pool) → ((p : Pool) → o ≡ Some p → goes p ≡ false) → (only goes o ≡ None) × (all_but goes o ≡ o)
  only_none None h = (refl, refl)
  only_none (Some p) h = (cond-false (goes p) (Some p) None (h p refl), cond-false (goes p) None (Some p) (h p refl))

or_none : (o : Option Pool) → either_of o None ≡ o
or_none None = refl
or_none (Some p) = refl

eqb_swap : (a b : ℕ) → (a == b) ≡ (b == a)
eqb_swap a b = go (a == b) (b == a) refl refl where
  both : (x y : ℕ) → (x == y) ≡ true → (y == x) ≡ true
  both x y e = ap (λ (z : ℕ). y == z) (eqb_same x y e) ∙ eqb_refl y

  go : (v w : Bool) → (a == b) ≡ v → (b == a) ≡ w → (a == b) ≡ (b == a)
  go true w e f = e ∙ sym (both a b e)
  go false true e f = absurd (not_both (a == b) (both b a f) e)
  go false false e f = e ∙ sym f

-- one id
pub one_exchanged : (id i : ℕ) (x y : Option Pool) → ((p : Pool) → x ≡ Some p → p.id ≡ i) → ((p : Pool) → y ≡ Some p → p.id ≡ i) → either_of (only (is_of id) y) (all_but (is_of id) x) ≡ (if i == id then y else x)
one_exchanged id i x y hx hy = go (i == id) refl where
  tells : (o : Option Pool) → ((p : Pool) → o ≡ Some p → p.id ≡ i) → (b : Bool) → (id == i) ≡ b → (p : Pool) → o ≡ Some p → is_of id p ≡ b
  tells o h b e p k = ap (λ (z : ℕ). id == z) (h p k) ∙ e

  go : (b : Bool) → (i == id) ≡ b → either_of (only (is_of id) y) (all_but (is_of id) x) ≡ (if b then y else x)
  go true e =
      let t : (id == i) ≡ true = eqb_swap id i ∙ e in
      ap (λ (z : Option Pool). either_of z (all_but (is_of id) x)) (only_all (is_of id) y (tells y hy true t)).0
      ∙ ap (either_of y) (only_all (is_of id) x (tells x hx true t)).1 ∙ or_none y
  go false e =
      let t : (id == i) ≡ false = eqb_swap id i ∙ e in
      ap (λ (z : Option Pool). either_of z (all_but (is_of id) x)) (only_none (is_of id) y (tells y hy false t)).0 ∙ (only_none (is_of id) x (tells x hx false t)).1

-- if no pool has the id
module _ (s : Store) (q : CellPools) (kept : IsCellPools s q) (id : ℕ) (none : is_some (by_id s q id) ≡ false) where
  other : (p : Pool) → by_id s q p.id ≡ Some p → is_of id p ≡ false
  other p h = go (id == p.id) refl where
    go : (b : Bool) → (id == p.id) ≡ b → (id == p.id) ≡ false
    go true e = absurd (not_both (is_some (by_id s q id)) (ap (λ (z : ℕ). is_some (by_id s q z)) (eqb_same id p.id e) ∙ ap is_some h) none)
    go false e = e

  other_names : (n : List ℕ) → (only (is_of id) (pool s q n) ≡ None) × (all_but (is_of id) (pool s q n) ≡ pool s q n)
  other_names n = only_none (is_of id) (pool s q n) (λ p e. other p ((pools_are_one s q kept).names n p e).1)

  other_ids : (i : ℕ) → (only (is_of id) (by_id s q i) ≡ None) × (all_but (is_of id) (by_id s q i) ≡ by_id s q i)
  other_ids i = only_none (is_of id) (by_id s q i) (λ p e. other p (ap (by_id s q) ((pools_are_one s q kept).ids i p e).0 ∙ e))

  -- then none is taken out
  pub none_out : (out : ParkedCells) → IsParked s out → ((n : List ℕ) → parked_pool s out n ≡ None) → ((i : ℕ) → parked_by_id s out i ≡ None) → parked_owned s out ≡ [] → TakesOut (is_of id) s s q q out.pools
  none_out out parked no_name no_id no_element = record {
    pools = kept;
    parked = parked;
    names = λ n. sym (other_names n).1;
    ids = λ i. sym (other_ids i).1;
    names_out = λ n. no_name n ∙ sym (other_names n).0;
    ids_out = λ i. no_id i ∙ sym (other_ids i).0;
    apart = λ i h. ap (among i) no_element;
    owned = (let P : List ℕ → Type 0 = Leaves s s (owned s q) in subst P (sym (ap (λ (z : List ℕ). owned s q ++ z) no_element ∙ append_none (owned s q))) (leaves_same s (owned s q)));
  }

-- the id of a pool is one of its elements
pub id_owned : (s : Store) (q : CellPools) (i : ℕ) (p : Pool) → by_id s q i ≡ Some p → among i (owned s q) ≡ true
unfolding by_id owned ListTable.owned
id_owned s q i p h = in_left i (ids (links s q.table.chain)) (listed s (links s q.table.chain)) (ap (among i) (sym (row_ids s q.table)) ∙ ap (among i) (sym (ids_are (entries s q.table))) ∙ go (among i (pool_ids (pools_of (entries s q.table)))) refl) where
  go : (b : Bool) → among i (pool_ids (pools_of (entries s q.table))) ≡ b → among i (pool_ids (pools_of (entries s q.table))) ≡ true
  go true e = e
  go false e = absurd (no_pool p (sym (none_of i (pools_of (entries s q.table)) e) ∙ h))

pub ids_apart : (s : Store) (a b : CellPools) → Apart (owned s a) (owned s b) → (i : ℕ) (x y : Pool) → by_id s a i ≡ Some x → by_id s b i ≡ Some y → ⊥
ids_apart s a b apart i x y h k = not_both (among i (owned s b)) (id_owned s b i y k) (apart i (id_owned s a i x h))

-- pools that a call leaves unchanged, which are apart from what it has then
pub beside : (s t : Store) (had has : List ℕ) (q : CellPools) → Leaves s t had has → IsCellPools s q → Apart had (owned s q) → AreSame s t q × Apart has (owned t q)
beside s t had has q leaves stand apart =
    let same : AreSame s t q = pools_stay s t had has q leaves stand apart in
    let P : List ℕ → Type 0 = Apart has in
    (same, subst P (sym same.elements) (others_stay s t had has (owned s q) leaves (pools_own s q stand) apart).1)

live_both : (s : Store) (xs ys : List ℕ) → Owns s xs → Owns s ys → (i : ℕ) → among i (xs ++ ys) ≡ true → IsSome (at s i)
live_both s xs ys h k i m = elim (in_cases i xs ys m) [
  | inl l ↦ h.live i l
  | inr r ↦ k.live i r
]

Apart-parts : (xs ys zs : List ℕ) → Apart (xs ++ ys) zs → Apart xs zs × Apart ys zs
Apart-parts xs ys zs h =
    let r : Apart zs xs × Apart zs ys = Apart-left zs xs ys (Apart-sym (xs ++ ys) zs h) in
    (Apart-sym zs xs r.0, Apart-sym zs ys r.1)

or_around : (a g b k : Bool) → ((k || a) || (g || b)) ≡ ((a || g) || (b || k))
or_around true true b true = refl
or_around true true b false = refl
or_around true false b true = refl
or_around true false b false = refl
or_around false true b true = refl
or_around false true b false = refl
or_around false false true true = refl
or_around false false true false = refl
or_around false false false true = refl
or_around false false false false = refl

-- They are taken out of the one, and then out of the other.
module _ {goes : Pool → Bool} {s r t : Store} {a b c d g k : CellPools} (first : TakesOut goes s r a c g) (second : TakesOut goes r t b d k) (stand : IsCellPools s b) (apart : Apart (owned s a) (owned s b)) where
  b_stays : AreSame s r b × Apart (owned r c ++ owned r g) (owned r b)
  b_stays = beside s r (owned s a) (owned r c ++ owned r g) b first.owned stand apart

  b_parts : Apart (owned r c) (owned r b) × Apart (owned r g) (owned r b)
  b_parts = Apart-parts (owned r c) (owned r g) (owned r b) b_stays.1

  c_stays : AreSame r t c × Apart (owned t d ++ owned t k) (owned t c)
  c_stays = beside r t (owned r b) (owned t d ++ owned t k) c second.owned first.pools (Apart-sym (owned r c) (owned r b) b_parts.0)

  g_stays : AreSame r t g × Apart (owned t d ++ owned t k) (owned t g)
  g_stays = beside r t (owned r b) (owned t d ++ owned t k) g second.owned first.parked (Apart-sym (owned r g) (owned r b) b_parts.1)

  c_parts : Apart (owned t d) (owned t c) × Apart (owned t k) (owned t c)
  c_parts = Apart-parts (owned t d) (owned t k) (owned t c) c_stays.1

  g_parts : Apart (owned t d) (owned t g) × Apart (owned t k) (owned t g)
  g_parts = Apart-parts (owned t d) (owned t k) (owned t g) g_stays.1

  c_from_g : Apart (owned t c) (owned t g)
  c_from_g = let P : List ℕ → Type 0 = λ z. Apart z (owned t g) in let Q : List ℕ → Type 0 = Apart (owned r c) in subst P (sym c_stays.0.elements) (subst Q (sym g_stays.0.elements) first.apart)

  pub both_second : IsCellPools r b
  both_second = b_stays.0.stand

  pub both_self : IsCellPools t c
  both_self = c_stays.0.stand

  pub both_there : IsCellPools t g
  both_there = g_stays.0.stand

  pub both_apart : Apart (owned t k) (owned t c)
  both_apart = c_parts.1

  pub both_apart_back : Apart (owned t g) (owned t d)
  both_apart_back = Apart-sym (owned t d) (owned t g) g_parts.0

  pub both_sides : Apart (owned t k ++ owned t c) (owned t g ++ owned t d)
  both_sides =
      Apart-sym (owned t g ++ owned t d) (owned t k ++ owned t c)
      (Apart-both (owned t g ++ owned t d) (owned t k) (owned t c)
      (Apart-sym (owned t k) (owned t g ++ owned t d) (Apart-both (owned t k) (owned t g) (owned t d) g_parts.1 (Apart-sym (owned t d) (owned t k) second.apart)))
      (Apart-sym (owned t c) (owned t g ++ owned t d) (Apart-both (owned t c) (owned t g) (owned t d) c_from_g (Apart-sym (owned t d) (owned t c) c_parts.0))))

  -- what is found in each
  pub here_names : (n : List ℕ) → pool t c n ≡ all_but goes (pool s a n)
  here_names n = c_stays.0.names n ∙ first.names n

  pub here_ids : (i : ℕ) → by_id t c i ≡ all_but goes (by_id s a i)
  here_ids i = c_stays.0.ids i ∙ first.ids i

  pub gone_names : (n : List ℕ) → pool t g n ≡ only goes (pool s a n)
  gone_names n = g_stays.0.names n ∙ first.names_out n

  pub gone_ids : (i : ℕ) → by_id t g i ≡ only goes (by_id s a i)
  gone_ids i = g_stays.0.ids i ∙ first.ids_out i

  pub there_names : (n : List ℕ) → pool t d n ≡ all_but goes (pool s b n)
  there_names n = second.names n ∙ ap (all_but goes) (b_stays.0.names n)

  pub there_ids : (i : ℕ) → by_id t d i ≡ all_but goes (by_id s b i)
  there_ids i = second.ids i ∙ ap (all_but goes) (b_stays.0.ids i)

  pub come_names : (n : List ℕ) → pool t k n ≡ only goes (pool s b n)
  come_names n = second.names_out n ∙ ap (only goes) (b_stays.0.names n)

  pub come_ids : (i : ℕ) → by_id t k i ≡ only goes (by_id s b i)
  come_ids i = second.ids_out i ∙ ap (only goes) (b_stays.0.ids i)

  -- no name is twice
  module _ (alike : (n : List ℕ) → Alike goes (pool s a n) (pool s b n)) where
    pub none_here : (n : List ℕ) → IsSome (pool t k n) → pool t c n ≡ None
    none_here n h = let P : Option Pool → Type 0 = IsSome in here_names n ∙ none_twice goes (pool s a n) (pool s b n) (alike n) (subst P (come_names n) h)

    pub none_there : (n : List ℕ) → IsSome (pool t g n) → pool t d n ≡ None
    none_there n h = let P : Option Pool → Type 0 = IsSome in there_names n ∙ none_twice goes (pool s b n) (pool s a n) (Alike-sym goes (pool s a n) (pool s b n) (alike n)) (subst P (gone_names n) h)

  both_leave : Leaves s t (owned s a ++ owned s b) ((owned r c ++ owned r g) ++ (owned t d ++ owned t k))
  both_leave =
      let P : List ℕ → Type 0 = λ z. Leaves s r (owned s a ++ owned s b) ((owned r c ++ owned r g) ++ z) in
      Leaves-trans s r t (owned s a ++ owned s b) ((owned r c ++ owned r g) ++ owned r b) ((owned r c ++ owned r g) ++ (owned t d ++ owned t k))
      (subst P (sym b_stays.0.elements) (Leaves-beside s r (owned s a) (owned r c ++ owned r g) (owned s b) first.owned (pools_own s b stand).live))
      (Leaves-behind r t (owned r b) (owned t d ++ owned t k) (owned r c ++ owned r g) second.owned (live_both r (owned r c) (owned r g) (pools_own r c first.pools) (pools_own r g first.parked)))

  pub both_owned : Leaves s t (owned s a ++ owned s b) ((owned t k ++ owned t c) ++ (owned t g ++ owned t d))
  both_owned =
      let P : List ℕ → Type 0 = λ z. Leaves s t (owned s a ++ owned s b) ((z ++ owned r g) ++ (owned t d ++ owned t k)) in
      let Q : List ℕ → Type 0 = λ z. Leaves s t (owned s a ++ owned s b) ((owned t c ++ z) ++ (owned t d ++ owned t k)) in
      Leaves-members s t (owned s a ++ owned s b) ((owned t c ++ owned t g) ++ (owned t d ++ owned t k)) (owned s a ++ owned s b) ((owned t k ++ owned t c) ++ (owned t g ++ owned t d))
      (subst Q (sym g_stays.0.elements) (subst P (sym c_stays.0.elements) both_leave)) (λ i. refl) around refl
      (omega (arith, length-append (owned t k ++ owned t c) (owned t g ++ owned t d), length-append (owned t k) (owned t c), length-append (owned t g) (owned t d), length-append (owned t c ++ owned t g) (owned t d ++ owned t k), length-append (owned t c) (owned t g), length-append (owned t d) (owned t k))) where
        four : (i : ℕ) (w x y z : List ℕ) → among i ((w ++ x) ++ (y ++ z)) ≡ ((among i w || among i x) || (among i y || among i z))
        four i w x y z =
            among-append i (w ++ x) (y ++ z) ∙ ap (λ (e : Bool). e || among i (y ++ z)) (among-append i w x) ∙ ap (λ (e : Bool). (among i w || among i x) || e) (among-append i y z)

        around : (i : ℕ) → among i ((owned t k ++ owned t c) ++ (owned t g ++ owned t d)) ≡ among i ((owned t c ++ owned t g) ++ (owned t d ++ owned t k))
        around i =
            four i (owned t k) (owned t c) (owned t g) (owned t d) ∙ or_around (among i (owned t c)) (among i (owned t g)) (among i (owned t d)) (among i (owned t k))
            ∙ sym (four i (owned t c) (owned t g) (owned t d) (owned t k))

-- Parked pools are put back into the one, and then others into the other.
module _ (s r t : Store) (a b c d g k : CellPools) (stand : IsCellPools s b) (parked : IsCellPools s g) (sides : Apart (owned s k ++ owned s a) (owned s g ++ owned s b)) (first : Leaves s r (owned s k ++ owned s a) (owned r c)) where
  side_parts : Apart (owned s k ++ owned s a) (owned s g) × Apart (owned s k ++ owned s a) (owned s b)
  side_parts = Apart-left (owned s k ++ owned s a) (owned s g) (owned s b) sides

  pub stays_parked : AreSame s r g × Apart (owned r c) (owned r g)
  stays_parked = beside s r (owned s k ++ owned s a) (owned r c) g first parked side_parts.0

  pub stays_other : AreSame s r b × Apart (owned r c) (owned r b)
  stays_other = beside s r (owned s k ++ owned s a) (owned r c) b first stand side_parts.1

  pub still_apart : Apart (owned s g) (owned s b) → Apart (owned r g) (owned r b)
  still_apart h = let P : List ℕ → Type 0 = λ z. Apart z (owned r b) in let Q : List ℕ → Type 0 = Apart (owned s g) in subst P (sym stays_parked.0.elements) (subst Q (sym stays_other.0.elements) h)

  pub still_none : ((n : List ℕ) → IsSome (pool s g n) → pool s b n ≡ None) → (n : List ℕ) → IsSome (pool r g n) → pool r b n ≡ None
  still_none h n m = let P : Option Pool → Type 0 = IsSome in stays_other.0.names n ∙ h n (subst P (stays_parked.0.names n) m)

  module _ (kept : IsCellPools r c) (second : Leaves r t (owned r g ++ owned r b) (owned t d)) where
    c_still : AreSame r t c × Apart (owned t d) (owned t c)
    c_still = beside r t (owned r g ++ owned r b) (owned t d) c second kept (Apart-sym (owned r c) (owned r g ++ owned r b) (Apart-both (owned r c) (owned r g) (owned r b) stays_parked.1 stays_other.1))

    pub back_same : AreSame r t c
    back_same = c_still.0

    pub back_apart : Apart (owned t c) (owned t d)
    back_apart = Apart-sym (owned t d) (owned t c) c_still.1

    pub back_owned : Leaves s t ((owned s k ++ owned s a) ++ (owned s g ++ owned s b)) (owned t c ++ owned t d)
    back_owned =
        let P : List ℕ → Type 0 = λ z. Leaves s r ((owned s k ++ owned s a) ++ (owned s g ++ owned s b)) (owned r c ++ (z ++ owned s b)) in
        let Q : List ℕ → Type 0 = λ z. Leaves s r ((owned s k ++ owned s a) ++ (owned s g ++ owned s b)) (owned r c ++ (owned r g ++ z)) in
        let R : List ℕ → Type 0 = λ z. Leaves s t ((owned s k ++ owned s a) ++ (owned s g ++ owned s b)) (z ++ owned t d) in
        subst R (sym c_still.0.elements)
        (Leaves-trans s r t ((owned s k ++ owned s a) ++ (owned s g ++ owned s b)) (owned r c ++ (owned r g ++ owned r b)) (owned r c ++ owned t d)
        (subst Q (sym stays_other.0.elements) (subst P (sym stays_parked.0.elements) (Leaves-beside s r (owned s k ++ owned s a) (owned r c) (owned s g ++ owned s b) first (live_both s (owned s g) (owned s b) (pools_own s g parked) (pools_own s b stand)))))
        (Leaves-behind r t (owned r g ++ owned r b) (owned t d) (owned r c) second (pools_own r c kept).live))

-- what the callers know, as what is found by a name or by an id

pub together : (s : Store) (a b : CellPools) → IsCellPools s a → IsCellPools s b → (subpool : Subpool) → GoTogether subpool (by_id s a) (by_id s b) → (n : List ℕ) → Alike (lies_in subpool) (pool s a n) (pool s b n)
together s a b ha hb subpool h n x y e f =
    let p : (x.name ≡ n) × (by_id s a x.id ≡ Some x) = (pools_are_one s a ha).names n x e in
    let r : (y.name ≡ n) × (by_id s b y.id ≡ Some y) = (pools_are_one s b hb).names n y f in
    h x.id y.id x y p.1 r.1 (p.0 ∙ sym r.0)

pub never_both : (goes : Pool → Bool) (s : Store) (a b : CellPools) → Apart (owned s a) (owned s b) → (i : ℕ) → Alike goes (by_id s a i) (by_id s b i)
never_both goes s a b apart i x y e f = absurd (ids_apart s a b apart i x y e f)

-- the pool of one id, whose name doesn't exist on the other side
module _ (s : Store) (a b : CellPools) (ha : IsCellPools s a) (hb : IsCellPools s b) (id : ℕ) where
  abbrev pub IfFound : CellPools → CellPools → Type 0
  IfFound c d = IfSome (by_id s c id) (λ (p : Pool). pool s d p.name ≡ None)

  absent : (c d : CellPools) → IsCellPools s c → IfFound c d → (n : List ℕ) (x y : Pool) → pool s c n ≡ Some x → pool s d n ≡ Some y → is_of id x ≡ false
  absent c d hc h n x y e f = go (id == x.id) refl where
    go : (v : Bool) → (id == x.id) ≡ v → (id == x.id) ≡ false
    go true k =
        let one : (x.name ≡ n) × (by_id s c x.id ≡ Some x) = (pools_are_one s c hc).names n x e in
        let P : Option Pool → Type 0 = λ z. IfSome z (λ (p : Pool). pool s d p.name ≡ None) in
        absurd (no_pool y (sym (subst P (ap (by_id s c) (eqb_same id x.id k) ∙ one.1) h) ∙ ap (pool s d) one.0 ∙ f))
    go false k = k

  pub alike_one : IfFound a b → IfFound b a → (n : List ℕ) → Alike (is_of id) (pool s a n) (pool s b n)
  alike_one h k n x y e f = absent a b ha h n x y e f ∙ sym (absent b a hb k n y x f e)
