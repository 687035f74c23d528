-- What is found in the table, how many rows it has, and which areas meet it.
use Rattle.std.proofs.Common.{◌≡◌, ◌≢◌, ℕ, suc, ◌^◌, Bool, true, ◌==◌, ◌||◌, Option, Some, None, List, [], ◌∷◌, length, map, All, AllPairs, IfSome, refl, sym, ◌∙◌, ap, subst, arith, inl, inr}
use Rattle.std.specs.List.{list_any}
use Rattle.std.proofs.lemmas.Bool.{cases_Bool, cond-true, cond-false}
use Rattle.std.proofs.lemmas.List.Elements.{All-head, All-tail}
use Rattle.std.proofs.Props.{props}
use mathlib.Core.Logic.{∥∥₁_elim}
use Rattle.vsm_model.specs.CellPools.{CellPool, cell_pool_in}
use Rattle.vsm_model.specs.Releasing.{overlaps_extent}
use Rattle.cell_pool.specs.declared.settings.Extent.{Extent}
use Rattle.cell_pool.specs.Pools.{Pool, id_in, meets, overlaps}
use Rattle.storage_changes.specs.NamedPools.{AreNamed}
use Rattle.storage_changes.specs.PoolTable.{extent_of, cell_pool_of, cell_pools_in}
use Rattle.storage_changes.specs.TableLaws.{PoolsAreFound, OthersAreNotFound, RowsAreCounted, OverlapsAreMet, overlaps_table}
use Rattle.service_laws.proofs.Options.{some_none, same_some}
use Rattle.storage_changes.proofs.PoolRows.{put_counted, any_found, found_any}
use Rattle.storage_changes.proofs.TabledPools.{same_number, number_is, number_apart, has_or_not, in_is, table_of, has}
use Rattle.storage_changes.proofs.TableChanges.{new_pools_have_a_row}

-- The cell pool that is found under a name is that of an id.
abbrev IsOne : (ℕ → Option Pool) → List ℕ → CellPool → Type 0
IsOne pools name found = ∥ ((id : ℕ) × (p : Pool) × (pools id ≡ Some p) × (p.name ≡ name) × (found ≡ cell_pool_of p)) ∥₁

found_is_one : (pools : ℕ → Option Pool) → AreNamed pools → (name : List ℕ) → IfSome (cell_pool_in (cell_pools_in pools) name) (IsOne pools name)
found_is_one pools named name =
    elim (has_or_not pools (2 ^ 32) name) [
      | inl h ↦ subst (λ o. IfSome o (IsOne pools name)) (sym ((table_of pools named).found name h))
          ∣ (h.id, h.p, h.there, h.named, refl) ∣₁
      | inr none ↦ subst (λ o. IfSome o (IsOne pools name)) (sym ((table_of pools named).none name none)) tt
    ]

pub pools_are_found : PoolsAreFound
pools_are_found pools named = (
  (λ id p e. (table_of pools named).found p.name (has pools named id p e)),
  found_is_one pools named,
)

pub others_are_not_found : OthersAreNotFound
others_are_not_found pools name named none = (table_of pools named).none name (λ h. none h.id h.p h.there h.named)

-- What holds of all cell pools of a list holds of the one of an id, and the one of an id has it.
of_listed : (P : Pool → Type 0) (list : List Pool) → All P list → (id : ℕ) (q : Pool) → id_in id list ≡ Some q → P q
of_listed P [] h id q e = absurd (some_none q (sym e))
of_listed P (p ∷ list) h id q e =
    elim (cases_Bool (id == p.id)) [
      | inl is ↦ subst P (same_some p q (sym (cond-true (id == p.id) (Some p) (id_in id list) is) ∙ e)) (All-head P p list h)
      | inr other ↦ of_listed P list (All-tail P p list h) id q (sym (cond-false (id == p.id) (Some p) (id_in id list) other) ∙ e)
    ]

listed_id : (list : List Pool) (id : ℕ) (q : Pool) → id_in id list ≡ Some q → q.id ≡ id
listed_id [] id q e = absurd (some_none q (sym e))
listed_id (p ∷ list) id q e =
    elim (cases_Bool (id == p.id)) [
      | inl is ↦ ap (λ p. p.id) (sym (same_some p q (sym (cond-true (id == p.id) (Some p) (id_in id list) is) ∙ e))) ∙ sym (same_number id p.id is)
      | inr other ↦ listed_id list id q (sym (cond-false (id == p.id) (Some p) (id_in id list) other) ∙ e)
    ]

abbrev Apart : Pool → Pool → Type 0
Apart p q = p.id ≢ q.id

pairs_head : (p : Pool) (list : List Pool) → AllPairs (λ p q. p.id ≢ q.id) (p ∷ list) → All (Apart p) list
pairs_head p list h k d below = h 0 (suc k) d (omega arith) (omega (arith, below))

pairs_tail : (p : Pool) (list : List Pool) → AllPairs (λ p q. p.id ≢ q.id) (p ∷ list) → AllPairs (λ p q. p.id ≢ q.id) list
pairs_tail p list h i j d less below = h (suc i) (suc j) d (omega (arith, less)) (omega (arith, below))

none_there : (o : Option Pool) → ((q : Pool) → o ≡ Some q → ⊥) → o ≡ None
none_there None none = refl
none_there (Some q) none = absurd (none q refl)

-- A list that begins with one cell pool.
module _ (p : Pool) (list : List Pool) (named : AreNamed (λ id. id_in id (p ∷ list)))
    (pairs : AllPairs (λ p q. p.id ≢ q.id) (p ∷ list)) where
  abbrev rest : ℕ → Option Pool
  rest id = id_in id list

  apart : (id : ℕ) (q : Pool) → id_in id list ≡ Some q → p.id ≢ id
  apart id q e = λ same. of_listed (Apart p) list (pairs_head p list pairs) id q e (same ∙ sym (listed_id list id q e))

  still : (id : ℕ) (q : Pool) → id_in id list ≡ Some q → id_in id (p ∷ list) ≡ Some q
  still id q e = cond-false (id == p.id) (Some p) (id_in id list) (number_apart id p.id (λ same. apart id q e (sym same))) ∙ e

  front : id_in p.id (p ∷ list) ≡ Some p
  front = cond-true (p.id == p.id) (Some p) (id_in p.id list) (number_is p.id p.id refl)

  rest_named : AreNamed rest
  rest_named = record {
    ids = λ id q e. named.ids id q (still id q e);
    high = λ id q e. named.high id q (still id q e);
    once = λ i j q r e g same. named.once i j q r (still i q e) (still j r g) same;
    cells = λ id q e. named.cells id q (still id q e);
  }

  fresh : (id : ℕ) (q : Pool) → rest id ≡ Some q → q.name ≡ p.name → ⊥
  fresh id q e same = apart id q e (named.once p.id id p q front (still id q e) (sym same))

  one_more : length (cell_pools_in (λ id. id_in id (p ∷ list))) ≡ suc (length (cell_pools_in rest))
  one_more =
      let table = table_of rest rest_named in
      ap length (new_pools_have_a_row rest p.id p rest_named (named.high p.id p front)
      (none_there (rest p.id) (λ q e. apart p.id q e refl)) fresh)
      ∙ put_counted (cell_pools_in rest) p.name (cell_pool_of p) table.ascends (table.none p.name (λ h. fresh h.id h.p h.there h.named))

listed_counted : (list : List Pool) → AreNamed (λ id. id_in id list) → AllPairs (λ p q. p.id ≢ q.id) list → length (cell_pools_in (λ id. id_in id list)) ≡ length list
listed_counted [] named pairs =
    ap length (in_is (λ id. id_in id []) [] (record { once = named.once }) (record {
      ascends = refl;
      found = λ name h. absurd (some_none h.p (sym h.there));
      none = λ name none. refl;
    }))
listed_counted (p ∷ list) named pairs =
    one_more p list named pairs ∙ ap suc (listed_counted list (rest_named p list named pairs) (pairs_tail p list pairs))

pub rows_are_counted : RowsAreCounted
rows_are_counted pools list named listed pairs =
    let same : pools ≡ (λ id. id_in id list) = λ i. λ id. listed id i in
    ap (λ pools. length (cell_pools_in pools)) same ∙ listed_counted list (subst AreNamed same named) pairs

-- A cell pool is met if one of its extents on the plain machine overlaps.
met_rows : (address length : ℕ) (p : Pool) (extents : List Extent) →
    list_any (overlaps_extent address length (cell_pool_of p)) (map extent_of extents) ≡ list_any (overlaps p.settings.size address length) extents
met_rows address length p [] = refl
met_rows address length p (x ∷ extents) = ap (λ b. overlaps p.settings.size address length x || b) (met_rows address length p extents)

abbrev is_met : ℕ → ℕ → CellPool → Bool
is_met address length pool = list_any (overlaps_extent address length pool) pool.extents

met_is : (address length : ℕ) (p : Pool) → is_met address length (cell_pool_of p) ≡ meets address length p
met_is address length p = met_rows address length p p.extents

abbrev OneIsMet : (ℕ → Option Pool) → ℕ → ℕ → Type 0
OneIsMet pools address length = (id : ℕ) × (p : Pool) × (pools id ≡ Some p) × (meets address length p ≡ true)

one_is_met : (pools : ℕ → Option Pool) (address length : ℕ) → AreNamed pools → overlaps_table (cell_pools_in pools) address length ≡ true → OneIsMet pools address length
one_is_met pools address length named e =
    let table = table_of pools named in
    let found = any_found (is_met address length) (cell_pools_in pools) table.ascends e in
    elim (has_or_not pools (2 ^ 32) found.0) [
      | inl h ↦
          let same : found.1 ≡ cell_pool_of h.p = same_some found.1 (cell_pool_of h.p) (sym found.2 ∙ table.found found.0 h) in
          (h.id, h.p, h.there, sym (met_is address length h.p) ∙ ap (is_met address length) (sym same) ∙ found.3)
      | inr none ↦ absurd (some_none found.1 (sym found.2 ∙ table.none found.0 none))
    ]

met_overlaps : (pools : ℕ → Option Pool) (address length : ℕ) → AreNamed pools → OneIsMet pools address length → overlaps_table (cell_pools_in pools) address length ≡ true
met_overlaps pools address length named met =
    found_any (is_met address length) (cell_pools_in pools) met.1.name (cell_pool_of met.1)
    ((table_of pools named).found met.1.name (has pools named met.0 met.1 met.2)) (met_is address length met.1 ∙ met.3)

pub overlaps_are_met : OverlapsAreMet
overlaps_are_met pools address length named = (
  (λ e. ∣ one_is_met pools address length named e ∣₁),
  (λ met. ∥∥₁_elim met (hlevel props) (met_overlaps pools address length named)),
)
