use Rattle.std.proofs.Common.{◌≡◌, ℕ, ◌+◌, ◌/◌, ◌++◌, [], ◌∷◌, ◌∙◌, sym, ap, arith, length, refl}
use Rattle.std.proofs.lemmas.List.FromFn.{length-map-range_with_len, map-range_with_len_more}
use Rattle.storage_changes.specs.declared.record.Record.{Record}
use Rattle.storage_changes.specs.declared.record.Record.TheVariants.{Bytes}
use Rattle.storage_swap.specs.Storage.{state_of}
use Rattle.storage_plans.proofs.Stores.{block_record, block_there}
use Rattle.storage_plans.proofs.store.block_records.Goals as goal

pub block_with-block-requires-clause-there : goal.block_with-block-requires-clause-there
block_with-block-requires-clause-there c =
    block_there c.args.storage.now c.requires.frameless c.args.address (length c.args.bytes.now) _ c.requires.there (omega arith) (omega arith)

pub push-requires : goal.push-requires
push-requires c =
    let record_at : ℕ → Record = block_record (state_of c.args.storage.now) c.args.address c.args.bytes.now in
    let long : length c.loop-k.records.items ≡ c.loop-k.k = ap length c.loop-k.invariant ∙ length-map-range_with_len record_at (c.args.address / 16) c.loop-k.k in (
      omega arith,
      omega (arith, long),
    )

pub loop-k-preserved : goal.loop-k-preserved
loop-k-preserved c =
    let record_at : ℕ → Record = block_record (state_of c.args.storage.now) c.args.address c.args.bytes.now in
    c.push.ensures.items ∙ (λ i. c.loop-k.invariant i ++ Bytes (c.block_with-block.ensures i) ∷ [])
    ∙ sym (map-range_with_len_more record_at (c.args.address / 16) c.loop-k.k (c.args.address / 16 + c.loop-k.k) refl)
