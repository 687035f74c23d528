-- The records of one row of sight, if the task owns what it sees, and if it doesn't.
use Rattle.std.proofs.Common.{◌≡◌, ℕ, Bool, true, false, List, [], ◌∷◌, ◌++◌, sym, ap, ◌∙◌}
use Rattle.std.specs.Prelude.{map, if◌then◌else◌}
use Rattle.std.specs.List.{flat_map}
use Rattle.std.proofs.lemmas.List.{append-nil}
use Rattle.vsm_model.specs.declared.Subpool.{Subpool}
use Rattle.vsm_model.specs.Search.{is_in}
use Rattle.subpool_storage.specs.Extents.{extents}
use Rattle.subpool_storage.specs.Subpools.{Subpools}
use Rattle.storage_changes.specs.declared.record.Record.{Record}
use Rattle.storage_changes.specs.declared.record.Record.TheVariants.{Queues}
use Rattle.storage_changes.specs.Changes.{unassigned_records}
use Rattle.storage_changes.specs.State.{StorageState}
use Rattle.storage_swap.specs.declared.storage.Parts.{Parts}
use Rattle.storage_swap.specs.Storage.{state_of}
use Rattle.storage_swap.specs.declared.builder.ChangeBuilder.{ChangeBuilder}
use Rattle.storage_swap.specs.Builder.{IsBuilding}
use Rattle.task_plans.proofs.Steps.{Next, first_is}
use Rattle.storage_changes.specs.Ending.{SightRow, is_own, owned_in, emptying_records, sharer_rows, rows_with}

-- what follows the queues of a subpool whose storage moves into the change
abbrev pub behind_queues : Subpool → StorageState → List Record
behind_queues p m = unassigned_records (extents m.subpools p)

module _ (row : SightRow) where
  abbrev its : Bool → List Subpool
  its b = map (λ (r : SightRow). r.0) (if b then row ∷ [] else [])

  pub own_is : true ≡ is_own row → owned_in (row ∷ []) ≡ row.0 ∷ []
  own_is is = ap its (sym is)

  pub not_own : false ≡ is_own row → owned_in (row ∷ []) ≡ []
  not_own is = ap its (sym is)

  pub to_queues : {s : Parts} {a : ChangeBuilder} → IsBuilding s a → true ≡ is_own row
      → Next s a (flat_map (emptying_records (state_of s).subpools) (owned_in (row ∷ []))) s a (Queues (record { subpool = row.0 }) ∷ []) (behind_queues row.0 (state_of s))
  to_queues {s} building is =
      let m = state_of s in
      let first : List Record = Queues (record { subpool = row.0 }) ∷ [] in
      first_is building first (behind_queues row.0 m) (ap (flat_map (emptying_records m.subpools)) (own_is is) ∙ append-nil (first ++ behind_queues row.0 m))

-- what is removed with a row of a task that ends, in each of the three cases
module _ (m : Subpools) (ended : List ℕ) (row : SightRow) where
  abbrev with : Bool → Bool → List SightRow
  with own other = if own then sharer_rows m row.0 else if other then [] else row ∷ []

  pub own_goes : true ≡ is_own row → rows_with m ended row ≡ sharer_rows m row.0
  own_goes is = ap (λ b. with b (is_in ended row.0.owner)) (sym is)

  pub others_goes : false ≡ is_own row → true ≡ is_in ended row.0.owner → rows_with m ended row ≡ []
  others_goes foreign ends = λ i. with (sym foreign i) (sym ends i)

  pub stays_goes : false ≡ is_own row → false ≡ is_in ended row.0.owner → rows_with m ended row ≡ row ∷ []
  stays_goes foreign stays = λ i. with (sym foreign i) (sym stays i)
