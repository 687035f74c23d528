-- The records of a number that a task is given.
use Rattle.std.proofs.Common.{◌≡◌, ℕ, Some, None, [], ◌∷◌, sym, ap, ◌∙◌}
use Rattle.storage_changes.specs.declared.record.Record.{Record}
use Rattle.storage_changes.specs.State.{StorageState}
use Rattle.storage_changes.specs.Attaching.{made, gift_records, given_records}

module _ (m : StorageState) (task number now : ℕ) (is : now ≡ m.tasks.current) where
  of-now : gift_records m task number ≡ given_records task number (m.subpools.sight now number)
  of-now = ap (λ (t : ℕ). given_records task number (m.subpools.sight t number)) (sym is)

  pub gift_seen : (owner : ℕ) → Some owner ≡ m.subpools.sight now number → gift_records m task number ≡ given_records task number (Some owner)
  gift_seen owner seen = of-now ∙ ap (given_records task number) (sym seen)

  pub gift_new : (x : Record) → None ≡ m.subpools.sight now number → x ≡ made number task → gift_records m task number ≡ x ∷ []
  gift_new x unseen its = of-now ∙ ap (given_records task number) (sym unseen) ∙ ap (λ (r : Record). r ∷ []) (sym its)
