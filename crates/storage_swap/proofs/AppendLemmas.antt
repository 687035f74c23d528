-- Records are put into a chain one after another.
use Rattle.std.proofs.Common.{◌≡◌, ℕ, zero, suc, ◌+◌, ◌<◌, ◌≤◌, false, List, [], ◌∷◌, ◌++◌, length, map, take, drop, get_or, Option, Some, None, refl, sym, ap, ◌∙◌, arith, subst}
use Rattle.std.specs.Prelude.{slice_get}
use Rattle.std.proofs.lemmas.List.{take_all}
use Rattle.vsm_elements.specs.Store.{Store}
use Rattle.vsm_elements.specs.Chain.{Link, links, follow, last_or, IsChain, IsChainOf}
use Rattle.vsm_elements.specs.Ownership.{Leaves, Apart}
use Rattle.vsm_elements.specs.declared.chain.Chain.{Chain}
use Rattle.vsm_elements.proofs.OwnerLemmas.{others_stay}
use Rattle.run_set.specs.Runs.{Run}
use Rattle.descriptor_queue.specs.declared.extents.Extents.{Extents}
use Rattle.descriptor_queue.specs.Extents.{extents, has_page, IsExtents}
use Rattle.descriptor_queue.specs.Extents
use Rattle.descriptor_queue.proofs.PageLemmas.{extents_stand, extents_stay}
use Rattle.vsm_model.specs.declared.Subpool.{Subpool}
use Rattle.storage_changes.specs.declared.record.Record.{Record}
use Rattle.storage_changes.specs.declared.record.Record.TheVariants.{Pages}
use Rattle.storage_changes.specs.Changes.{unassigned_records}
use Rattle.storage_swap.specs.Beside.{record_at, records_of}
use Rattle.storage_swap.specs.Reserve.{emptying}

drop-all : (ns : List Link) → drop (length ns) ns ≡ []
drop-all [] = refl
drop-all (n ∷ ns) = drop-all ns

map-append : (ns : List Link) (n : Link) → map record_at (ns ++ n ∷ []) ≡ map record_at ns ++ record_at n ∷ []
map-append [] n = refl
map-append (m ∷ ns) n = ap (λ (z : List Record). record_at m ∷ z) (map-append ns n)

last-append : (first : ℕ) (ns : List Link) (n : Link) → last_or first (ns ++ n ∷ []) ≡ n.id
last-append first [] n = refl
last-append first (m ∷ ns) n = last-append m.id ns n

-- what is put after the last link
pub behind-all : (s : Store) (c : Chain) → IsChain s c → take c.count (links s c) ≡ links s c
behind-all s c k = take_all c.count (links s c) (omega (arith, k.count))

module _ (s t : Store) (c d : Chain) (n : Link) (k : IsChain s c) (put : links t d ≡ take c.count (links s c) ++ n ∷ drop c.count (links s c)) where
  links-now : links t d ≡ links s c ++ n ∷ []
  links-now = put ∙ ap (λ (z : List Link). z ++ n ∷ drop c.count (links s c)) (behind-all s c k)
      ∙ ap (λ (z : List Link). links s c ++ n ∷ z) (ap (λ (i : ℕ). drop i (links s c)) k.count ∙ drop-all (links s c))

  pub appended : records_of t d ≡ records_of s c ++ record_at n ∷ []
  appended = ap (map record_at) links-now ∙ map-append (links s c) n

  pub appended-last : n.id ≡ last_or 0 (links t d)
  appended-last = sym (ap (last_or 0) links-now ∙ last-append 0 (links s c) n)

-- an empty chain
module _ (s : Store) (c : Chain) (first : c.first ≡ 0) (count : c.count ≡ 0) where
  pub no-links : links s c ≡ []
  no-links = ap (follow s c.first) count

  pub no-chain : IsChain s c
  no-chain = let P : List Link → Type 0 = λ ns. IsChainOf s c ns in subst P (sym no-links) (record { first = first; count = count; held = tt; distinct = tt })

append-none : (rs : List Record) → rs ++ [] ≡ rs
append-none [] = refl
append-none (r ∷ rs) = ap (λ (z : List Record). r ∷ z) (append-none rs)

append-three : (xs ys zs : List Record) → (xs ++ ys) ++ zs ≡ xs ++ (ys ++ zs)
append-three [] ys zs = refl
append-three (x ∷ xs) ys zs = ap (λ (z : List Record). x ∷ z) (append-three xs ys zs)

-- another extent
next-extent : (rs : List Run) (i : ℕ) (r : Run) → slice_get rs i ≡ Some r
    → unassigned_records (take (suc i) rs) ≡ unassigned_records (take i rs) ++ Pages (record { run = r; assigned = false }) ∷ []
next-extent [] i r e = cc
next-extent (x ∷ rs) zero r e = cc
next-extent (x ∷ rs) (suc i) r e = ap (λ (z : List Record). Pages (record { run = x; assigned = false }) ∷ z) (next-extent rs i r e)

-- another record
next-record : (rs : List Record) (i : ℕ) (d : Record) → i < length rs → take (suc i) rs ≡ take i rs ++ get_or rs i d ∷ []
next-record [] i d h = absurd (omega (arith, h))
next-record (x ∷ rs) zero d h = refl
next-record (x ∷ rs) (suc i) d h = ap (λ (z : List Record). x ∷ z) (next-record rs i d (omega (arith, h)))

one-more : (i : ℕ) → suc i ≡ i + 1
one-more i = omega arith

pub next-in : (front now new : List Record) (rs : List Run) (i j : ℕ) (r : Run) → now ≡ front ++ unassigned_records (take i rs) → slice_get rs i ≡ Some r
    → new ≡ now ++ Pages (record { run = r; assigned = false }) ∷ [] → j ≡ i + 1 → new ≡ front ++ unassigned_records (take j rs)
next-in front now new rs i j r is got put next =
    put ∙ ap (λ (z : List Record). z ++ Pages (record { run = r; assigned = false }) ∷ []) is
    ∙ append-three front (unassigned_records (take i rs)) (Pages (record { run = r; assigned = false }) ∷ [])
    ∙ ap (λ (z : List Record). front ++ z) (sym (next-extent rs i r got))
    ∙ ap (λ (k : ℕ). front ++ unassigned_records (take k rs)) (one-more i ∙ sym next)

pub next-of : (front now new rs : List Record) (i : ℕ) (d : Record) → now ≡ front ++ take i rs → i < length rs → new ≡ now ++ get_or rs i d ∷ [] → new ≡ front ++ take (i + 1) rs
next-of front now new rs i d is less put =
    put ∙ ap (λ (z : List Record). z ++ get_or rs i d ∷ []) is ∙ append-three front (take i rs) (get_or rs i d ∷ []) ∙ ap (λ (z : List Record). front ++ z) (sym (next-record rs i d less))
    ∙ ap (λ (k : ℕ). front ++ take k rs) (one-more i)

-- no other one exists
pub no-more : (rs : List Run) (i : ℕ) → slice_get rs i ≡ None → length rs ≤ i
no-more [] i e = omega arith
no-more (x ∷ rs) zero e = cc
no-more (x ∷ rs) (suc i) e = (let k = no-more rs i e in omega (arith, k))

pub more : (rs : List Run) (i : ℕ) (r : Run) → slice_get rs i ≡ Some r → i < length rs
more [] i r e = cc
more (x ∷ rs) zero r e = omega arith
more (x ∷ rs) (suc i) r e = (let k = more rs i r e in omega (arith, k))

pub all-in : (front now : List Record) (rs : List Run) (i : ℕ) → now ≡ front ++ unassigned_records (take i rs) → slice_get rs i ≡ None → now ≡ front ++ unassigned_records rs
all-in front now rs i is none = is ∙ ap (λ (z : List Run). front ++ unassigned_records z) (take_all i rs (no-more rs i none))

-- extents next to the chain
module _ (s e : Store) (had has : List ℕ) (q : Extents) (f : Leaves s e had has) (k : IsExtents s q) (apart : Apart had (Extents.owned s q)) where
  pub beside : IsExtents e q × (extents e q ≡ extents s q) × ((p : ℕ) → has_page e q p ≡ has_page s q p) × (Extents.owned e q ≡ Extents.owned s q)
  beside = extents_stay s e had has q f k apart

  pub beside-apart : Apart has (Extents.owned e q)
  beside-apart = let P : List ℕ → Type 0 = λ ids. Apart has ids in subst P (sym beside.3) (others_stay s e had has (Extents.owned s q) f (extents_stand s q k).1 apart).1

-- what empties a subpool, by its parts
pub unassigned-length : (rs : List Run) → length (unassigned_records rs) ≡ length rs
unassigned-length [] = refl
unassigned-length (r ∷ rs) = (let k = unassigned-length rs in omega (arith, k))

pub emptying-all : (p : Option Subpool) (rs : List Run) → emptying p [] ++ unassigned_records rs ≡ emptying p rs
emptying-all None rs = refl
emptying-all (Some p) rs = refl

pub emptying-length : (p : Option Subpool) (rs : List Run) → length (emptying p rs) ≡ length (emptying p []) + length rs
emptying-length None rs = (let k = unassigned-length rs in omega (arith, k))
emptying-length (Some p) rs = (let k = unassigned-length rs in omega (arith, k))

pub all-records : (p : Option Subpool) (a b c : List Record) (rs : List Run) (records : List Record) → a ≡ emptying p [] → b ≡ a ++ unassigned_records rs → c ≡ b ++ records → c ≡ emptying p rs ++ records
all-records p a b c rs records first second third =
    third ∙ ap (λ (z : List Record). z ++ records) (second ∙ ap (λ (z : List Record). z ++ unassigned_records rs) first ∙ emptying-all p rs)

-- nothing is apart from all
pub none-apart : (xs : List ℕ) → Apart [] xs
none-apart xs i h = cc
