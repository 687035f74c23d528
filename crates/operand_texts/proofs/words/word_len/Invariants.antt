use Rattle.std.proofs.Common.{◌≡◌, ◌+◌, drop}
use Rattle.operand_texts.specs.Words.{word_len}
use Rattle.operand_texts.proofs.words.word_len.Given as goal

abbrev pub invariant-loop-i : goal.invariant-loop-i
invariant-loop-i l = l.i + word_len (drop l.i l.text) ≡ word_len l.text
