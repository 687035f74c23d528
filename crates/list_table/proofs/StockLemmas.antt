-- Stocks: what they own, what stays if elements stay, and what a call on one of their parts does.
--
-- A stock's parts follow one another. A call on one of them is taken past each later part in turn (`past`), if all that
-- is before it is as it was (`behind`).
use Rattle.std.proofs.Common.{◌≡◌, ℕ, ◌+◌, true, inl, inr, List, [], ◌∷◌, ◌++◌, length, refl, sym, ap, ◌∙◌, subst, arith, length-append}
use Rattle.std.specs.Prelude.{map}
use Rattle.vsm_elements.specs.Store.{Store, at, among}
use Rattle.vsm_elements.specs.Chain.{Link, links, ids, IsChain, IsChainOf}
use Rattle.vsm_elements.specs.Chain
use Rattle.vsm_elements.specs.Ownership.{Owns, Leaves, Apart}
use Rattle.vsm_elements.specs.declared.chain.Chain.{Chain}
use Rattle.vsm_elements.proofs.ChainLemmas.{Holds-same, is_chain, links_are, live_in}
use Rattle.vsm_elements.proofs.ChainFrame.{Leaves-beside, Leaves-behind, Leaves-trans}
use Rattle.vsm_elements.proofs.LiveLemmas.{Distinct-join}
use Rattle.vsm_elements.proofs.OwnerLemmas.{others_stay}
use Rattle.row_table.specs.declared.row.Row.{Row}
use Rattle.row_table.specs.declared.table.RowTable.{RowTable}
use Rattle.row_table.specs.RowTable
use Rattle.row_table.specs.RowTable.{rows, IsTable}
use Rattle.row_table.proofs.TableLemmas.{tables_stand, tables_kept}
use Rattle.row_table.proofs.HalfLemmas.{rows_own}
use Rattle.list_table.specs.declared.stock.Stock.{Stock}
use Rattle.list_table.specs.Stocks.{items_of, rows_of, contents, front, holdings, IsStock, SameStock}
use Rattle.list_table.specs.Laws.{ItemsChange, UsedChange, ExtentsChange, PlacesChange}
use Rattle.list_table.proofs.ListParts.{in_left, in_right, in_cases, Apart-sym}

-- what the items and the cells in use own
abbrev pub pair : Store → Stock → List ℕ
pair s k = Chain.owned s k.items ++ RowTable.owned s k.used

-- what they own

Owns-join : (s : Store) (xs ys : List ℕ) → Owns s xs → Owns s ys → Apart xs ys → Owns s (xs ++ ys)
Owns-join s xs ys h k apart = record {
  distinct = Distinct-join xs ys h.distinct k.distinct apart;
  live = λ i m. elim (in_cases i xs ys m) [ inl p ↦ h.live i p | inr p ↦ k.live i p ];
}

chain_owns : (s : Store) (c : Chain) → IsChain s c → Owns s (Chain.owned s c)
chain_owns s c h = record { distinct = h.distinct; live = live_in s (links s c) 0 h.held }

table_owns : (s : Store) (q : RowTable) → IsTable s q → Owns s (RowTable.owned s q)
table_owns s q h = (tables_stand s q h).0

pair_owns : (s : Store) (k : Stock) → IsStock s k → Owns s (pair s k)
pair_owns s k h = Owns-join s (Chain.owned s k.items) (RowTable.owned s k.used) (chain_owns s k.items h.items) (table_owns s k.used h.used) h.aside

front_owns : (s : Store) (k : Stock) → IsStock s k → Owns s (front s k)
front_owns s k h = Owns-join s (pair s k) (RowTable.owned s k.extents) (pair_owns s k h) (table_owns s k.extents h.extents) h.apart

pub stock_owns : (s : Store) (k : Stock) → IsStock s k → Owns s (holdings s k)
stock_owns s k h = Owns-join s (front s k) (RowTable.owned s k.places) (front_owns s k h) (table_owns s k.places h.places) h.beside

-- what stays if elements stay

pub chain_same : (s t : Store) (c : Chain) → IsChain s c → ((i : ℕ) → among i (Chain.owned s c) ≡ true → at t i ≡ at s i) → IsChain t c × (links t c ≡ links s c)
chain_same s t c h same = (is_chain t c (links s c) now, links_are t c (links s c) now) where
  now : IsChainOf t c (links s c)
  now = record { first = h.first; count = h.count; held = Holds-same s t (links s c) 0 h.held same; distinct = h.distinct }

record SameTable (s t : Store) (q : RowTable) : Type 0 where
  stands : IsTable t q
  own : RowTable.owned t q ≡ RowTable.owned s q
  is : rows t q ≡ rows s q

table_same : (s t : Store) (q : RowTable) → IsTable s q → ((i : ℕ) → among i (RowTable.owned s q) ≡ true → at t i ≡ at s i) → SameTable s t q
table_same s t q h same = let k = tables_kept s t q h same in record { stands = k.0; own = k.2; is = k.3 }

join_same : (xs xs' ys ys' : List ℕ) → xs' ≡ xs → ys' ≡ ys → xs' ++ ys' ≡ xs ++ ys
join_same xs xs' ys ys' e f = ap (λ (z : List ℕ). z ++ ys') e ∙ ap (λ (z : List ℕ). xs ++ z) f

apart_same : (xs xs' ys ys' : List ℕ) → xs' ≡ xs → ys' ≡ ys → Apart xs ys → Apart xs' ys'
apart_same xs xs' ys ys' e f apart = let P : List ℕ → Type 0 = λ z. Apart z ys' in let Q : List ℕ → Type 0 = λ z. Apart xs z in subst P (sym e) (subst Q (sym f) apart)

record SamePair (s t : Store) (k : Stock) : Type 0 where
  items : IsChain t k.items
  are : links t k.items ≡ links s k.items
  used : SameTable s t k.used
  aside : Apart (Chain.owned t k.items) (RowTable.owned t k.used)
  own : pair t k ≡ pair s k

pair_same : (s t : Store) (k : Stock) → IsStock s k → ((i : ℕ) → among i (pair s k) ≡ true → at t i ≡ at s i) → SamePair s t k
pair_same s t k h same = record {
  items = c.0;
  are = c.1;
  used = u;
  aside = apart_same (Chain.owned s k.items) (Chain.owned t k.items) (RowTable.owned s k.used) (RowTable.owned t k.used) (ap ids c.1) u.own h.aside;
  own = join_same (Chain.owned s k.items) (Chain.owned t k.items) (RowTable.owned s k.used) (RowTable.owned t k.used) (ap ids c.1) u.own;
} where
  c : IsChain t k.items × (links t k.items ≡ links s k.items)
  c = chain_same s t k.items h.items (λ i m. same i (in_left i (Chain.owned s k.items) (RowTable.owned s k.used) m))

  u : SameTable s t k.used
  u = table_same s t k.used h.used (λ i m. same i (in_right i (Chain.owned s k.items) (RowTable.owned s k.used) m))

record SameFront (s t : Store) (k : Stock) : Type 0 where
  inner : SamePair s t k
  extents : SameTable s t k.extents
  apart : Apart (pair t k) (RowTable.owned t k.extents)
  own : front t k ≡ front s k

front_same : (s t : Store) (k : Stock) → IsStock s k → ((i : ℕ) → among i (front s k) ≡ true → at t i ≡ at s i) → SameFront s t k
front_same s t k h same = record {
  inner = r;
  extents = x;
  apart = apart_same (pair s k) (pair t k) (RowTable.owned s k.extents) (RowTable.owned t k.extents) r.own x.own h.apart;
  own = join_same (pair s k) (pair t k) (RowTable.owned s k.extents) (RowTable.owned t k.extents) r.own x.own;
} where
  r : SamePair s t k
  r = pair_same s t k h (λ i m. same i (in_left i (pair s k) (RowTable.owned s k.extents) m))

  x : SameTable s t k.extents
  x = table_same s t k.extents h.extents (λ i m. same i (in_right i (pair s k) (RowTable.owned s k.extents) m))

contents_same : (s t : Store) (k : Stock) → links t k.items ≡ links s k.items → rows t k.used ≡ rows s k.used → rows t k.extents ≡ rows s k.extents → rows t k.places ≡ rows s k.places → contents t k ≡ contents s k
contents_same s t k c u x p = cc

pub stock_same : (s t : Store) (k : Stock) → IsStock s k → ((i : ℕ) → among i (holdings s k) ≡ true → at t i ≡ at s i) → SameStock s t k
stock_same s t k h same = record {
  stands = record {
    items = f.inner.items;
    used = f.inner.used.stands;
    extents = f.extents.stands;
    places = p.stands;
    aside = f.inner.aside;
    apart = f.apart;
    beside = apart_same (front s k) (front t k) (RowTable.owned s k.places) (RowTable.owned t k.places) f.own p.own h.beside;
  };
  is = contents_same s t k f.inner.are f.inner.used.is f.extents.is p.is;
  own = join_same (front s k) (front t k) (RowTable.owned s k.places) (RowTable.owned t k.places) f.own p.own;
} where
  f : SameFront s t k
  f = front_same s t k h (λ i m. same i (in_left i (front s k) (RowTable.owned s k.places) m))

  p : SameTable s t k.places
  p = table_same s t k.places h.places (λ i m. same i (in_right i (front s k) (RowTable.owned s k.places) m))

-- a stock that is apart from what a call owns is unchanged
pub stock_stays : (s t : Store) (had has : List ℕ) (k : Stock) → Leaves s t had has → IsStock s k → Apart had (holdings s k) → SameStock s t k × Apart has (holdings t k)
stock_stays s t had has k f h apart =
    let o = others_stay s t had has (holdings s k) f (stock_owns s k h) apart in
    let r : SameStock s t k = stock_same s t k h o.2 in
    (r, (let P : List ℕ → Type 0 = λ z. Apart has z in subst P (sym r.own) o.1))

-- what a call leaves of the table after it
record Past (s t : Store) (had has : List ℕ) (q : RowTable) : Type 0 where
  stands : IsTable t q
  is : rows t q ≡ rows s q
  apart : Apart has (RowTable.owned t q)
  leaves : Leaves s t (had ++ RowTable.owned s q) (has ++ RowTable.owned t q)

past : (s t : Store) (had has : List ℕ) (q : RowTable) → Leaves s t had has → IsTable s q → Apart had (RowTable.owned s q) → Past s t had has q
past s t had has q f h apart = record {
  stands = k.stands;
  is = k.is;
  apart = (let P : List ℕ → Type 0 = λ z. Apart has z in subst P (sym k.own) o.1);
  leaves = (let P : List ℕ → Type 0 = λ z. Leaves s t (had ++ RowTable.owned s q) (has ++ z) in subst P (sym k.own) (Leaves-beside s t had has (RowTable.owned s q) f own.live));
} where
  own : Owns s (RowTable.owned s q)
  own = table_owns s q h

  o : Owns t (RowTable.owned s q) × Apart has (RowTable.owned s q) × ((i : ℕ) → among i (RowTable.owned s q) ≡ true → at t i ≡ at s i)
  o = others_stay s t had has (RowTable.owned s q) f own apart

  k : SameTable s t q
  k = table_same s t q h o.2

-- a call on what follows other parts
module _ (s t : Store) (had has rest : List ℕ) (f : Leaves s t had has) (own : Owns s rest) (apart : Apart rest had) where
  o' : Owns t rest × Apart has rest × ((i : ℕ) → among i rest ≡ true → at t i ≡ at s i)
  o' = others_stay s t had has rest f own (Apart-sym rest had apart)

  rest_same : (i : ℕ) → among i rest ≡ true → at t i ≡ at s i
  rest_same = o'.2

  behind : (now : List ℕ) → now ≡ rest → Apart now has × Leaves s t (rest ++ had) (now ++ has)
  behind now e = (
    (let P : List ℕ → Type 0 = λ z. Apart z has in subst P (sym e) (Apart-sym has rest o'.1)),
    (let P : List ℕ → Type 0 = λ z. Leaves s t (rest ++ had) (z ++ has) in subst P (sym e) (Leaves-behind s t had has rest f own.live)),
  )

-- a call on one part

pub items_change : ItemsChange
items_change s t k items h f c = (
  record {
    stands = record { items = c; used = u.stands; extents = x.stands; places = p.stands; aside = u.apart; apart = x.apart; beside = p.apart };
    leaves = p.leaves;
  },
  u.is,
  x.is,
  p.is,
) where
  u : Past s t (Chain.owned s k.items) (Chain.owned t items) k.used
  u = past s t (Chain.owned s k.items) (Chain.owned t items) k.used f h.used h.aside

  x : Past s t (pair s k) (Chain.owned t items ++ RowTable.owned t k.used) k.extents
  x = past s t (pair s k) (Chain.owned t items ++ RowTable.owned t k.used) k.extents u.leaves h.extents h.apart

  p : Past s t (front s k) ((Chain.owned t items ++ RowTable.owned t k.used) ++ RowTable.owned t k.extents) k.places
  p = past s t (front s k) ((Chain.owned t items ++ RowTable.owned t k.used) ++ RowTable.owned t k.extents) k.places x.leaves h.places h.beside

pub used_change : UsedChange
used_change s t k used h f c = (
  record {
    stands = record { items = r.0; used = c; extents = x.stands; places = p.stands; aside = b.0; apart = x.apart; beside = p.apart };
    leaves = p.leaves;
  },
  r.1,
  x.is,
  p.is,
) where
  own : Owns s (Chain.owned s k.items)
  own = chain_owns s k.items h.items

  r : IsChain t k.items × (links t k.items ≡ links s k.items)
  r = chain_same s t k.items h.items (rest_same s t (RowTable.owned s k.used) (RowTable.owned t used) (Chain.owned s k.items) f own h.aside)

  b : Apart (Chain.owned t k.items) (RowTable.owned t used) × Leaves s t (pair s k) (Chain.owned t k.items ++ RowTable.owned t used)
  b = behind s t (RowTable.owned s k.used) (RowTable.owned t used) (Chain.owned s k.items) f own h.aside (Chain.owned t k.items) (ap ids r.1)

  x : Past s t (pair s k) (Chain.owned t k.items ++ RowTable.owned t used) k.extents
  x = past s t (pair s k) (Chain.owned t k.items ++ RowTable.owned t used) k.extents b.1 h.extents h.apart

  p : Past s t (front s k) ((Chain.owned t k.items ++ RowTable.owned t used) ++ RowTable.owned t k.extents) k.places
  p = past s t (front s k) ((Chain.owned t k.items ++ RowTable.owned t used) ++ RowTable.owned t k.extents) k.places x.leaves h.places h.beside

pub extents_change : ExtentsChange
extents_change s t k extents h f c = (
  record {
    stands = record { items = r.items; used = r.used.stands; extents = c; places = p.stands; aside = r.aside; apart = b.0; beside = p.apart };
    leaves = p.leaves;
  },
  r.are,
  r.used.is,
  p.is,
) where
  r : SamePair s t k
  r = pair_same s t k h (rest_same s t (RowTable.owned s k.extents) (RowTable.owned t extents) (pair s k) f (pair_owns s k h) h.apart)

  b : Apart (pair t k) (RowTable.owned t extents) × Leaves s t (front s k) (pair t k ++ RowTable.owned t extents)
  b = behind s t (RowTable.owned s k.extents) (RowTable.owned t extents) (pair s k) f (pair_owns s k h) h.apart (pair t k) r.own

  p : Past s t (front s k) (pair t k ++ RowTable.owned t extents) k.places
  p = past s t (front s k) (pair t k ++ RowTable.owned t extents) k.places b.1 h.places h.beside

pub places_change : PlacesChange
places_change s t k places h f c = (
  record {
    stands = record { items = r.inner.items; used = r.inner.used.stands; extents = r.extents.stands; places = c; aside = r.inner.aside; apart = r.apart; beside = b.0 };
    leaves = b.1;
  },
  r.inner.are,
  r.inner.used.is,
  r.extents.is,
) where
  r : SameFront s t k
  r = front_same s t k h (rest_same s t (RowTable.owned s k.places) (RowTable.owned t places) (front s k) f (front_owns s k h) h.beside)

  b : Apart (front t k) (RowTable.owned t places) × Leaves s t (holdings s k) (front t k ++ RowTable.owned t places)
  b = behind s t (RowTable.owned s k.places) (RowTable.owned t places) (front s k) f (front_owns s k h) h.beside (front t k) r.own

-- how many elements they have
length-items : (ns : List Link) → length (ids ns) ≡ length (items_of ns)
length-items [] = refl
length-items (n ∷ ns) = omega (arith, length-items ns)

length-rows : (rs : List Row) → length (map (λ r. r.id) rs) ≡ length (rows_of rs)
length-rows [] = refl
length-rows (r ∷ rs) = omega (arith, length-rows rs)

pub length-holdings : (s : Store) (k : Stock) → length (holdings s k) ≡ length ((contents s k).items) + length ((contents s k).used) + length ((contents s k).extents) + length ((contents s k).places)
length-holdings s k = omega (
  arith,
  length-append (front s k) (RowTable.owned s k.places),
  length-append (pair s k) (RowTable.owned s k.extents),
  length-append (Chain.owned s k.items) (RowTable.owned s k.used),
  length-items (links s k.items),
  ap length (rows_own s k.used),
  ap length (rows_own s k.extents),
  ap length (rows_own s k.places),
  length-rows (rows s k.used),
  length-rows (rows s k.extents),
  length-rows (rows s k.places),
)

-- a table without elements has no row
pub no_rows : (s : Store) (q : RowTable) → RowTable.owned s q ≡ [] → rows s q ≡ []
no_rows s q e = go (rows s q) (sym (rows_own s q) ∙ e) where
  go : (rs : List Row) → map (λ r. r.id) rs ≡ [] → rs ≡ []
  go [] f = refl
  go (r ∷ rs) f = absurd (no f) where
    no : r.id ∷ map (λ r. r.id) rs ≡ [] → ⊥
    no f = cc

-- a part is given back after those before it
given_past : (s t r : Store) (had : List ℕ) (q : RowTable) → Leaves s t had [] → IsTable s q → Apart had (RowTable.owned s q) → Leaves t r (RowTable.owned t q) [] → Leaves s r (had ++ RowTable.owned s q) []
given_past s t r had q first h apart second = Leaves-trans s t r (had ++ RowTable.owned s q) (RowTable.owned t q) [] (past s t had [] q first h apart).leaves second

-- a stock is given back part by part
module _ (s t : Store) (k : Stock) (h : IsStock s k) where
  module _ (first : Leaves s t (Chain.owned s k.items) []) where
    pub used_stands : IsTable t k.used
    used_stands = (past s t (Chain.owned s k.items) [] k.used first h.used h.aside).stands

    pub pair_back : (r : Store) → Leaves t r (RowTable.owned t k.used) [] → Leaves s r (pair s k) []
    pair_back r second = given_past s t r (Chain.owned s k.items) k.used first h.used h.aside second

  module _ (first : Leaves s t (pair s k) []) where
    pub extents_stand : IsTable t k.extents
    extents_stand = (past s t (pair s k) [] k.extents first h.extents h.apart).stands

    pub front_back : (r : Store) → Leaves t r (RowTable.owned t k.extents) [] → Leaves s r (front s k) []
    front_back r second = given_past s t r (pair s k) k.extents first h.extents h.apart second

  module _ (first : Leaves s t (front s k) []) where
    pub places_stand : IsTable t k.places
    places_stand = (past s t (front s k) [] k.places first h.places h.beside).stands

    pub stock_back : (r : Store) → Leaves t r (RowTable.owned t k.places) [] → Leaves s r (holdings s k) []
    stock_back r second = given_past s t r (front s k) k.places first h.places h.beside second
