use Rattle.std.proofs.Common.{◌≡◌, ℕ, ◌*◌, List, Some, ap, arith}
use Rattle.vsm_model.specs.Bytes.{load}
use Rattle.storage_changes.specs.declared.record.BytesRecord.{BytesRecord}
use Rattle.storage_changes.specs.Meaning.{model_of}
use Rattle.storage_swap.specs.Storage.{state_of}
use Rattle.storage_plans.proofs.BlockBytes.{block_read, each_there, first_in_range, of_ok}
use Rattle.storage_plans.proofs.blocks.block_with.Goals as goal

pub overflow_mul-first : goal.overflow_mul-first
overflow_mul-first c = omega (arith, first_in_range c.args.storage.now c.requires.frameless c.args.block c.requires.there c.pages_in_range.ensures.range)

pub returns : goal.returns
returns c =
    let loaded : load (model_of (state_of c.args.storage.now)) (16 * c.args.block) 16 ≡ Some c.load.new.out = of_ok _ c.load.result c.unwrap.result c.unwrap.ensures c.load.ensures.ok in
    let block : List ℕ → BytesRecord = λ bytes. record { block = c.args.block; bytes = bytes } in
    ap block (block_read (state_of c.args.storage.now) (16 * c.args.block) c.args.address c.args.bytes.now c.load.new.out c.put_over.new.held 16
    (each_there c.args.storage.now c.requires.frameless c.args.block c.requires.there) loaded c.put_over.ensures.length c.put_over.ensures.bytes)
