-- The cell pools if those of some subpools are removed, and if a subpool is passed on.
use Rattle.std.proofs.Common.{◌≡◌, ℕ, Bool, true, false, not, ◌||◌, if◌then◌else◌, filter, Option, Some, None, IsSome, List, [], ◌∷◌, refl, sym, ◌∙◌, ap, subst, true≢false}
use Rattle.std.specs.Prelude.{All}
use Rattle.std.specs.Cmp.Lexicographic.{slice_cmp}
use Rattle.std.specs.Option.{option_map}
use Rattle.std.specs.Ordering.{nat_cmp, eq_by_cmp}
use Rattle.std.proofs.lemmas.List.Elements.{All-head, All-tail}
use Rattle.vsm_model.specs.declared.Subpool.{Subpool}
use Rattle.vsm_model.specs.declared.limits.Settings.{Settings}
use Rattle.vsm_model.specs.CellPools.{CellPool, CellPools, cell_pool_in}
use Rattle.vsm_model.specs.Subpools.{same_subpool}
use Rattle.vsm_model.specs.WellFormed.{PoolIsSound}
use Rattle.cell_pool.specs.Pools.{Pool, HasCells, all_but, only, lies_in, handed_on, exchanged}
use Rattle.storage_changes.specs.NamedPools.{AreNamed}
use Rattle.storage_changes.specs.PoolTable.{cell_pool_of, cell_pools_in}
use Rattle.storage_changes.specs.TableLaws.{PoolsAreFound, RowsOfTheOthersStay}
use Rattle.subpool_storage.specs.Subpools.{Subpools, is_there, HasPool, CanExchange}
use Rattle.service_laws.proofs.Cases.{same_some}
use Rattle.storage_changes.proofs.Cases.{same-is, same-self}
use Rattle.storage_changes.specs.State.{StorageState}
use Rattle.storage_changes.specs.Meaning.{model_of, IsSound}
use Rattle.storage_changes.proofs.ActionCases.{same_answers, none_some, is_none_some}

-- subpools are compared either way round
pub same_turned : (p q : Subpool) → same_subpool p q ≡ same_subpool q p
same_turned p q =
    same_answers (same_subpool p q) (same_subpool q p)
    (λ e. ap (λ r. same_subpool q r) (same-is p q e) ∙ same-self q)
    (λ e. ap (λ r. same_subpool p r) (same-is q p e) ∙ same-self p)

-- If nothing is parked, the others of a subpool stay,
pub others_stay : (p : Subpool) (x : Option Pool) → exchanged p x None ≡ all_but (lies_in p) x
others_stay p None = refl
others_stay p (Some q) = refl

-- and the plain machine's table has the rows of these.
pub rows_stay : RowsOfTheOthersStay → (pools : ℕ → Option Pool) (p : Subpool) → AreNamed pools
    → cell_pools_in (λ id. exchanged p (pools id) None) ≡ filter (λ row. not (same_subpool p row.1.subpool)) (cell_pools_in pools)
rows_stay stay pools p named =
    ap cell_pools_in (λ i id. others_stay p (pools id) i)
    ∙ stay pools (lies_in p) (λ row. same_subpool p row.subpool) named (λ q. same_turned p q.settings.subpool)

-- No name occurs twice if what exists and what is parked all existed once.
pub can_exchange : (pools : ℕ → Option Pool) (m others : Subpools) (p : Subpool) → AreNamed pools
    → ((id : ℕ) (x : Pool) → HasPool m others id x → pools id ≡ Some x) → CanExchange m others p
can_exchange pools m others p named was i j x y at is same =
    let first = was i x at in
    let second = was j y is in
    ap (lies_in p) (same_some x y (sym first ∙ ap pools (named.once i j x y first second same) ∙ second))

-- Pools that existed already, under their ids, are named as they were,
pub kept_are_named : (pools others : ℕ → Option Pool) → AreNamed pools → ((id : ℕ) (x : Pool) → others id ≡ Some x → pools id ≡ Some x) → AreNamed others
kept_are_named pools others named were = record {
  ids = λ id x at. named.ids id x (were id x at);
  high = λ id x at. named.high id x (were id x at);
  once = λ i j x y at is. named.once i j x y (were i x at) (were j y is);
  cells = λ id x at. named.cells id x (were id x at);
}

-- and so are those that stay,
pub all_but_was : (gone : Pool → Bool) (o : Option Pool) (x : Pool) → all_but gone o ≡ Some x → o ≡ Some x
all_but_was gone None x at = absurd (none_some x at)
all_but_was gone (Some q) x at = chosen (gone q) at where
  chosen : (b : Bool) → (if b then None else Some q) ≡ Some x → Some q ≡ Some x
  chosen true e = absurd (none_some x e)
  chosen false e = e

pub only_was : (gone : Pool → Bool) (o : Option Pool) (x : Pool) → only gone o ≡ Some x → o ≡ Some x
only_was gone None x at = absurd (none_some x at)
only_was gone (Some q) x at = chosen (gone q) at where
  chosen : (b : Bool) → (if b then Some q else None) ≡ Some x → Some q ≡ Some x
  chosen true e = e
  chosen false e = absurd (none_some x e)

pub left_are_named : (pools : ℕ → Option Pool) (gone : Pool → Bool) → AreNamed pools → AreNamed (λ id. all_but gone (pools id))
left_are_named pools gone named = kept_are_named pools (λ id. all_but gone (pools id)) named (λ id x. all_but_was gone (pools id) x)

-- and those of a subpool that is passed on.
module _ (p : Subpool) (to : ℕ) where
  pub handed_name : (x : Pool) → (handed_on p to x).name ≡ x.name
  handed_name x = go (lies_in p x) where
    go : (b : Bool) → (if b then record x { settings = record x.settings { subpool = record x.settings.subpool { owner = to } } } else x).name ≡ x.name
    go true = refl
    go false = refl

  handed_id : (x : Pool) → (handed_on p to x).id ≡ x.id
  handed_id x = go (lies_in p x) where
    go : (b : Bool) → (if b then record x { settings = record x.settings { subpool = record x.settings.subpool { owner = to } } } else x).id ≡ x.id
    go true = refl
    go false = refl

  handed_cells : (x : Pool) → HasCells x → HasCells (handed_on p to x)
  handed_cells x has = go (lies_in p x) where
    go : (b : Bool) → HasCells (if b then record x { settings = record x.settings { subpool = record x.settings.subpool { owner = to } } } else x)
    go true = record { once = has.once; inside = has.inside; apart = has.apart }
    go false = has

  pub handed_from : (o : Option Pool) (y : Pool) → option_map (handed_on p to) o ≡ Some y → (x : Pool) × (o ≡ Some x) × (handed_on p to x ≡ y)
  handed_from None y at = absurd (none_some y at)
  handed_from (Some x) y at = (x, refl, same_some (handed_on p to x) y at)

  pub handed_are_named : (pools : ℕ → Option Pool) → AreNamed pools → AreNamed (λ id. option_map (handed_on p to) (pools id))
  handed_are_named pools named = record {
    ids = λ id y at.
        let (x, was, is) = handed_from (pools id) y at in
        ap (λ q. q.id) (sym is) ∙ handed_id x ∙ named.ids id x was;
    high = λ id y at. let (x, was, is) = handed_from (pools id) y at in named.high id x was;
    once = λ i j y z at is same.
        let (x, was, comes) = handed_from (pools i) y at in
        let (w, so, goes) = handed_from (pools j) z is in
        named.once i j x w was so
        (sym (ap (λ q. q.name) (sym comes) ∙ handed_name x) ∙ same ∙ ap (λ q. q.name) (sym goes) ∙ handed_name w);
    cells = λ id y at.
        let (x, was, is) = handed_from (pools id) y at in
        subst HasCells is (handed_cells x (named.cells id x was));
  }

-- One subpool's cell pools move over, when those of others are parked already: what stays, and what is parked then.
module _ (p : Subpool) (gone : Pool → Bool) (apart : (q : Pool) → gone q ≡ true → lies_in p q ≡ false) where
  pub goes_from : (x : Option Pool) → exchanged p (all_but gone x) (only gone x) ≡ all_but (λ q. lies_in p q || gone q) x
  goes_from None = refl
  goes_from (Some q) = go (gone q) refl where
    over : (c : Bool) → c ≡ false → (if c then Some q else None) ≡ (if c || true then None else Some q)
    over true e = absurd (true≢false e)
    over false e = refl

    stay : (c : Bool) → (if c then None else Some q) ≡ (if c || false then None else Some q)
    stay true = refl
    stay false = refl

    go : (b : Bool) → gone q ≡ b → exchanged p (if b then None else Some q) (if b then Some q else None) ≡ (if lies_in p q || b then None else Some q)
    go true is = over (lies_in p q) (apart q is)
    go false is = stay (lies_in p q)

  pub goes_to_others : (x : Option Pool) → exchanged p (only gone x) (all_but gone x) ≡ only (λ q. lies_in p q || gone q) x
  goes_to_others None = refl
  goes_to_others (Some q) = go (gone q) refl where
    over : (c : Bool) → c ≡ false → (if c then None else Some q) ≡ (if c || true then Some q else None)
    over true e = absurd (true≢false e)
    over false e = refl

    stay : (c : Bool) → (if c then Some q else None) ≡ (if c || false then Some q else None)
    stay true = refl
    stay false = refl

    go : (b : Bool) → gone q ≡ b → exchanged p (if b then Some q else None) (if b then None else Some q) ≡ (if lies_in p q || b then Some q else None)
    go true is = over (lies_in p q) (apart q is)
    go false is = stay (lies_in p q)

-- no cell pool both exists and is parked
pub not_both : (gone : Pool → Bool) (x : Option Pool) → IsSome (all_but gone x) → only gone x ≡ None
not_both gone None some = refl
not_both gone (Some q) some = go (gone q) some where
  go : (b : Bool) → IsSome {T = Pool} (if b then None else Some q) → (if b then Some q else None) ≡ None
  go true h = absurd (is_none_some {A = Pool} None refl h)
  go false h = refl

-- what holds of all rows of a table holds of the one that is found
row_at : (P : CellPool → Type 0) (table : CellPools) (name : List ℕ) (pool : CellPool) → All (λ row. P row.1) table → cell_pool_in table name ≡ Some pool → P pool
row_at P [] name pool h found = absurd (none_some pool found)
row_at P (row ∷ table) name pool h found =
    chosen (eq_by_cmp (slice_cmp nat_cmp) name row.0) found (λ e. row_at P table name pool (All-tail (λ row. P row.1) row table h) e) where
      chosen : (b : Bool) → (if b then Some row.1 else cell_pool_in table name) ≡ Some pool → (cell_pool_in table name ≡ Some pool → P pool) → P pool
      chosen true e later = subst P (same_some row.1 pool e) (All-head (λ row. P row.1) row table h)
      chosen false e later = later e

-- In a sound storage the subpool of each cell pool exists.
pub has_subpool : PoolsAreFound → (settings : Settings) (m : StorageState) → IsSound settings m → AreNamed m.subpools.cells → (id : ℕ) (q : Pool)
    → m.subpools.cells id ≡ Some q → is_there m.subpools q.settings.subpool ≡ true
has_subpool found settings m sound named id q at =
    (row_at (PoolIsSound (model_of m)) (cell_pools_in m.subpools.cells) q.name (cell_pool_of q) sound.well_formed.cell_pools.each
    ((found m.subpools.cells named).0 id q at)).has_subpool
