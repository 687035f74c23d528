-- The cell pools of a subpool that passes to another task.
use Rattle.std.proofs.Common.{◌≡◌, ℕ, Bool, true, false, ◌==◌, if◌then◌else◌, map, Option, Some, None, refl, sym, ◌∙◌, ap}
use Rattle.std.specs.Option.{option_map}
use Rattle.std.proofs.lemmas.Bool.{and_left, cond-false}
use Rattle.vsm_model.specs.declared.Subpool.{Subpool}
use Rattle.vsm_model.specs.Passing
use Rattle.cell_pool.specs.Pools.{Pool, handed_on, lies_in}
use Rattle.storage_changes.specs.TableLaws.{AllRowsChange}
use Rattle.storage_changes.specs.NamedPools.{AreNamed}
use Rattle.storage_changes.specs.PoolTable.{cell_pool_of, cell_pools_in}
use Rattle.storage_changes.proofs.Cases.{same-is}
use Rattle.storage_changes.proofs.StorageCells.{handed_name, handed_from}

module _ (old : Subpool) (to : ℕ) where
  -- a cell pool in another subpool stays where it is when a subpool is passed on
  stays_there : (q : Pool) → lies_in old q ≡ false → handed_on old to q ≡ q
  stays_there q other =
      cond-false (lies_in old q) (record q { settings = record q.settings { subpool = record q.settings.subpool { owner = to } } }) q other

  -- one that has another number then, had it before
  pub elsewhere : (o : Option Pool) (q : Pool) → option_map (handed_on old to) o ≡ Some q → (q.settings.subpool.number == old.number) ≡ false → o ≡ Some q
  elsewhere o q at other =
      let (x, was, is) = handed_from old to o q at in
      was ∙ ap Some (sym (stays_there x (away x is)) ∙ is) where
        number_stays : (x : Pool) (b : Bool)
            → (if b then record x { settings = record x.settings { subpool = record x.settings.subpool { owner = to } } } else x).settings.subpool.number
            ≡ x.settings.subpool.number
        number_stays x true = refl
        number_stays x false = refl

        away : (x : Pool) → handed_on old to x ≡ q → lies_in old x ≡ false
        away x is =
            and_left (x.settings.subpool.number == old.number) (x.settings.subpool.owner == old.owner)
            (ap (λ number. number == old.number) (sym (number_stays x (lies_in old x)) ∙ ap (λ r. r.settings.subpool.number) is) ∙ other)

  -- it's so on the plain machine,
  row_is_handed_on : (q : Pool)
      → cell_pool_of (handed_on old to q) ≡ record (cell_pool_of q) { subpool = Passing.handed_on old.number old.owner to q.settings.subpool }
  row_is_handed_on q = go (lies_in old q) refl where
    go : (b : Bool) → lies_in old q ≡ b
        → cell_pool_of (if b then record q { settings = record q.settings { subpool = record q.settings.subpool { owner = to } } } else q)
        ≡ record (cell_pool_of q) { subpool = (if b then record { number = old.number; owner = to } else q.settings.subpool) }
    go true own = λ i. record (cell_pool_of q) { subpool = record { number = (same-is q.settings.subpool old own i).number; owner = to } }
    go false other = refl

  pub rows_handed_on : AllRowsChange → (pools : ℕ → Option Pool) → AreNamed pools
      → cell_pools_in (λ id. option_map (handed_on old to) (pools id))
      ≡ map (λ row. (row.0, record row.1 { subpool = Passing.handed_on old.number old.owner to row.1.subpool })) (cell_pools_in pools)
  rows_handed_on change pools named =
      change pools (handed_on old to) (λ row. record row { subpool = Passing.handed_on old.number old.owner to row.subpool }) named
      (handed_name old to) row_is_handed_on

  -- and if no cell pool lies in the subpool all stay.
  pub rows_not_handed_on : AllRowsChange → (pools : ℕ → Option Pool) → AreNamed pools → ((id : ℕ) (q : Pool) → pools id ≡ Some q → lies_in old q ≡ false)
      → cell_pools_in pools ≡ map (λ row. (row.0, record row.1 { subpool = Passing.handed_on old.number old.owner to row.1.subpool })) (cell_pools_in pools)
  rows_not_handed_on change pools named none =
      ap cell_pools_in (λ i id. all_stay id (pools id) refl i) ∙ rows_handed_on change pools named where
        all_stay : (id : ℕ) (x : Option Pool) → pools id ≡ x → x ≡ option_map (handed_on old to) x
        all_stay id None at = refl
        all_stay id (Some q) at = ap Some (sym (stays_there q (none id q at)))
