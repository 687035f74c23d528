use Rattle.std.proofs.Common.{◌≡◌, ◌<◌, ℕ, true, sym, ◌∙◌, rules, length, slice_index_or}
use Rattle.vsm_model.specs.Bytes.{are_there}
use Rattle.storage_changes.specs.Meaning.{model_of}
use Rattle.storage_swap.specs.Storage.{state_of}
use Rattle.storage_plans.proofs.Stores.{are_bytes, store_planned}
use Rattle.storage_plans.proofs.store.plan_store.Goals as goal

pub returns : goal.returns
returns c settings names_full stands =
    let small : (i : ℕ) → slice_index_or c.args.bytes.now i 0 < 256 = search rules in
    let there : are_there (model_of (state_of c.args.storage.now)) c.args.address (length c.args.bytes.now) ≡ true = sym c.are_assigned.ensures ∙ c.if-not-are_assigned.false in
    store_planned settings names_full (state_of c.args.storage.now) (record { address = c.args.address; bytes = c.args.bytes }) c.requires.room there (are_bytes c.args.bytes.now small) stands.sound
