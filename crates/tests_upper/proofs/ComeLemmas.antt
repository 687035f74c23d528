-- For the test: a change that builds a cell pool fits the first storage.
use Rattle.std.proofs.Common.{◌≡◌, ℕ, ◌/◌, ◌==◌, Bool, true, false, if◌then◌else◌, [], Option, Some, None, IsSome, inl, inr, refl, sym, subst, ◌∙◌}
use Rattle.std.proofs.lemmas.Bool.{eq-eqb, eqb-true}
use Rattle.run_set.specs.Runs.{inside}
use Rattle.vsm_model.specs.declared.limits.Settings.{Settings}
use Rattle.cell_pool.specs.Pools.{Pool}
use Rattle.subpool_storage.specs.Subpools.{HasPool}
use Rattle.storage_changes.specs.Changes.{Change, change_of, change_building, no_pages, Fit}
use Rattle.storage_changes.specs.State.{StorageState}
use Rattle.storage_changes.proofs.Cases.{cond-in, cond-out}
use Rattle.storage_swap.specs.declared.storage.Parts.{Parts}
use Rattle.storage_swap.specs.Storage.{state_of}
use Rattle.storage_swap.specs.declared.change.Change.{Change as TheChange}
use Rattle.storage_swap.specs.Swap.{means}
use Rattle.storage_swap.specs.Fresh.{first_storage, IsFresh}
use Rattle.storage_swap.specs.Reserve.{Reserves}
use Rattle.storage_swap.proofs.FrameLemmas.{nowhere}

-- only the cell pool is built
abbrev pub coming : Pool → Change
coming pool = change_building pool (change_of [] 1 no_pages)

module _ (m : StorageState) (pool : Pool) (empty : (id : ℕ) → m.subpools.cells id ≡ None) where
  no-frame : (a : ℕ) → (coming pool).frames a ≡ None
  no-frame a = cond-out (inside (a / 4096) no_pages) (Some 0) None (nowhere (a / 4096))

  some-none : (o : Option ℕ) → o ≡ None → IsSome o → ⊥
  some-none None e h = cc
  some-none (Some x) e h = cc

  parked-there : (coming pool).parked.cells pool.id ≡ Some pool
  parked-there = cond-in (pool.id == pool.id) (Some pool) None (eq-eqb pool.id pool.id refl)

  alone : (i : ℕ) (q : Pool) (b : Bool) → (i == pool.id) ≡ b → (if b then Some pool else None) ≡ Some q → i ≡ pool.id
  alone i q true e is = eqb-true i pool.id e
  alone i q false e is = cc

  single : (i : ℕ) (q : Pool) → HasPool m.subpools (coming pool).parked i q → i ≡ pool.id
  single i q (inl e) = cc (empty i)
  single i q (inr e) = alone i q (i == pool.id) refl e

  comes-fits : Fit m (coming pool)
  comes-fits = record {
    in_turn = (
      record {
        here = (let P : Option Pool → Type 0 = λ o. IsSome o in subst P (sym parked-there) refl);
        not_there = empty pool.id;
        single = λ p e i q has same. single i q has;
      },
      tt,
    );
    fresh = λ a h. absurd (some-none ((coming pool).frames a) (no-frame a) h);
    brought = no-frame;
  }

-- reserved for the first storage, it fits
pub coming-fits : (settings : Settings) (p t : Parts) (c : TheChange) (pool : Pool) → IsFresh settings p → Reserves p (coming pool) c t → Fit (state_of t) (means t.elements c)
coming-fits settings p t c pool f r =
    let P : Change → Type 0 = λ z. Fit (state_of t) z in
    let Q : StorageState → Type 0 = λ z. Fit z (coming pool) in
    subst P (sym r.meaning) (subst Q (sym (r.shows ∙ f.shows)) (comes-fits (first_storage settings) pool (λ id. refl)))
