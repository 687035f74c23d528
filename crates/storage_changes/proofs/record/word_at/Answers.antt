use Rattle.std.proofs.Common.{rules, ℕ, ◌<◌, slice_index_or}
use Rattle.storage_changes.proofs.ByteWords.{fullword-of}
use Rattle.storage_changes.proofs.record.word_at.Goals as goal

pub returns : goal.returns
returns c =
    let small : (i : ℕ) → slice_index_or c.args.bytes i 0 < 256 = search rules in
    fullword-of _ _ _ _ _ (small _) (small _) (small _) (small _) c.from_be_bytes.ensures
