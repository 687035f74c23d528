-- The records of numbers that are shared with a task, or that it's given.
use Rattle.std.proofs.Common.{◌≡◌, ℕ, suc, ◌+◌, ◌<◌, ◌≤◌, Some, None, List, [], ◌∷◌, length, get_or, drop, sym, ap, ◌∙◌, arith}
use Rattle.std.specs.List.{flat_map}
use Rattle.std.proofs.Math.Seq.{drop-cons}
use Rattle.std.proofs.lemmas.List.{drop_all}
use Rattle.storage_changes.specs.declared.record.Record.{Record}
use Rattle.storage_changes.specs.State.{StorageState}
use Rattle.storage_swap.specs.declared.storage.Parts.{Parts}
use Rattle.storage_swap.specs.Storage.{state_of}
use Rattle.storage_swap.specs.declared.builder.ChangeBuilder.{ChangeBuilder}
use Rattle.storage_swap.specs.Builder.{Pushes}
use Rattle.storage_swap.proofs.BuilderLemmas.{Leads, leads-all}
use Rattle.task_plans.proofs.Steps.{Next, next_of}
use Rattle.storage_changes.specs.Attaching.{made, shared, share_records, sharing_records}

next : (k : ℕ) → suc k ≡ k + 1
next k = omega arith

module _ (m : StorageState) (task number now : ℕ) (is : now ≡ m.tasks.current) where
  of-now : share_records m task number ≡ sharing_records now task number (m.subpools.sight now number)
  of-now = ap (λ (t : ℕ). sharing_records t task number (m.subpools.sight t number)) (sym is)

  pub share_seen : (owner : ℕ) (x : Record) → Some owner ≡ m.subpools.sight now number → x ≡ shared number owner task → share_records m task number ≡ x ∷ []
  share_seen owner x seen its = of-now ∙ ap (sharing_records now task number) (sym seen) ∙ ap (λ (r : Record). r ∷ []) (sym its)

  pub share_new : (x y : Record) → None ≡ m.subpools.sight now number → x ≡ made number now → y ≡ shared number now task → share_records m task number ≡ x ∷ y ∷ []
  share_new x y unseen first second = of-now ∙ ap (sharing_records now task number) (sym unseen) ∙ (λ i. sym first i ∷ sym second i ∷ [])

-- The records of numbers, one after the other: those of the numbers from k on are left.
module _ (each : StorageState → ℕ → List Record) {p t : Parts} {a b : ChangeBuilder} (xs : List ℕ) (k : ℕ)
    (w : Leads p a (flat_map (each (state_of p)) xs) t b (flat_map (each (state_of p)) (drop k xs))) where
  pub each_done : length xs ≤ k → Pushes p a (flat_map (each (state_of p)) xs) t b
  each_done h =
      leads-all p t a b (flat_map (each (state_of p)) xs) (flat_map (each (state_of p)) (drop k xs)) w (ap (flat_map (each (state_of p))) (drop_all k xs h))

  module _ (less : k < length xs) where
    pub each_next : Next p a (flat_map (each (state_of p)) xs) t b (each (state_of t) (get_or xs k 0)) (flat_map (each (state_of p)) (drop (k + 1) xs))
    each_next =
        next_of w (λ m. each m (get_or xs k 0)) (flat_map (each (state_of p)) (drop (k + 1) xs))
        (ap (flat_map (each (state_of p))) (drop-cons xs k 0 less ∙ ap (λ (n : ℕ). get_or xs k 0 ∷ drop n xs) (next k)))
