use Rattle.std.proofs.Common.{rules, ◌≡◌, length, ◌++◌, ◌∙◌}
use Rattle.storage_changes.proofs.ByteWords.{four-fours}
use Rattle.storage_changes.proofs.record.byte_words.Goals as goal

pub returns-clause-bytes : goal.returns-clause-bytes
returns-clause-bytes c =
    let sixteen : length c.args.r.bytes ≡ 16 = search rules in
    (λ i. c.word_at.ensures i ++ c.word_at-2.ensures i ++ c.word_at-3.ensures i ++ c.word_at-4.ensures i) ∙ four-fours c.args.r.bytes sixteen
