-- A cell pool is added, and then has an extent.
use Rattle.std.proofs.Common.{◌≡◌, ℕ, ◌==◌, Bool, true, false, List, [], Option, Some, None, IsSome, if◌then◌else◌, refl, sym, ap, ◌∙◌, subst}
use Rattle.std.specs.Prelude.{IfSome, option_map}
use Rattle.std.proofs.lemmas.Bool.{eq-eqb, eqb-true, cond-true, cond-false}
use Rattle.vsm_elements.specs.Store.{Store}
use Rattle.vsm_elements.proofs.ChainFrame.{false_if}
use Rattle.subpool_set.proofs.KeyLemmas.{not_both}
use Rattle.cell_pool.specs.declared.settings.CellSettings.{CellSettings}
use Rattle.cell_pool.specs.Pools.{Pool, at_id, extended}
use Rattle.cell_pool.specs.CellPools.{pool, by_id}
use Rattle.cell_pool.specs.Laws.{AreOne}
use Rattle.cell_pool.proofs.LawLemmas.{pools_are_one}
use Rattle.subpool_storage.specs.declared.storage.SubpoolStorage.{SubpoolStorage}
use Rattle.subpool_storage.specs.Subpools.{IsUnnamed, built_pool}
use Rattle.subpool_storage.specs.SubpoolStorage.{subpools_of, Stands}

-- a name that none has is free among the cell pools
pub name_is_none : (s : Store) (q : SubpoolStorage) (name : List ℕ) → Stands s q → IsUnnamed (subpools_of s q) name → pool s q.cells name ≡ None
unfolding Stands subpools_of
name_is_none s q name h unnamed = go (pool s q.cells name) refl where
  one : AreOne s q.cells
  one = pools_are_one s q.cells h.cells

  go : (o : Option Pool) → pool s q.cells name ≡ o → pool s q.cells name ≡ None
  go None e = e
  go (Some p) e = let k : (p.name ≡ name) × (by_id s q.cells p.id ≡ Some p) = one.names name p e in absurd (unnamed p.id p k.1 k.0)

-- the cell pool that was added, without an extent
abbrev pub bare_pool : ℕ → List ℕ → CellSettings → Option (List ℕ) → Pool
bare_pool id name settings header = record { id = id; name = name; settings = settings; header = header; extents = []; cells = [] }

module _ (old new : ℕ → Option Pool) (id : ℕ) (base : Pool) (is : (i : ℕ) → new i ≡ (if i == id then Some base else old i)) where
  pub new_is_there : new id ≡ Some base
  new_is_there = is id ∙ cond-true (id == id) (Some base) (old id) (eq-eqb id id refl)

  pub there_now : IsSome (new id)
  there_now = let P : Option Pool → Type 0 = λ o. IsSome o in subst P (sym new_is_there) refl

  pub of_new : (P : Pool → Type 0) → P base → IfSome (new id) P
  of_new P h = let Q : Option Pool → Type 0 = λ o. IfSome o P in subst Q (sym new_is_there) h

-- with its extent
module _ (s : Store) (q : SubpoolStorage) (h : Stands s q) (id : ℕ) (name : List ℕ) (settings : CellSettings) (header : Option (List ℕ)) (start count : ℕ) (mid end : ℕ → Option Pool)
    (came : (i : ℕ) → mid i ≡ (if i == id then Some (bare_pool id name settings header) else by_id s q.cells i))
    (grew : (i : ℕ) → end i ≡ option_map (at_id id (extended start count)) (mid i)) where
  abbrev base : Pool
  base = bare_pool id name settings header

  -- no other one has its id
  other_stays : (i : ℕ) (o : Option Pool) → by_id s q.cells i ≡ o → (i == id) ≡ false → option_map (at_id id (extended start count)) o ≡ o
  unfolding Stands
  other_stays i None e other = refl
  other_stays i (Some p) e other =
      let own : p.id ≡ i = ((pools_are_one s q.cells h.cells).ids i p e).0 in
      let apart : (id == p.id) ≡ false = false_if (id == p.id) (λ same. not_both (i == id) (eq-eqb i id (sym (eqb-true id p.id same ∙ own))) other) in
      ap Some (cond-false (id == p.id) (extended start count p) p apart)

  pub built_is : (i : ℕ) → end i ≡ (if i == id then Some (built_pool id name settings header start count) else by_id s q.cells i)
  built_is i = grew i ∙ ap (option_map (at_id id (extended start count))) (came i) ∙ go (i == id) refl where
    go : (b : Bool) → (i == id) ≡ b → option_map (at_id id (extended start count)) (if b then Some base else by_id s q.cells i) ≡ (if b then Some (built_pool id name settings header start count) else by_id s q.cells i)
    go true e = ap Some (cond-true (id == id) (extended start count base) base (eq-eqb id id refl))
    go false e = other_stays i (by_id s q.cells i) refl e
