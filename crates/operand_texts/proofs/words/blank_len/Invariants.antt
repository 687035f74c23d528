use Rattle.std.proofs.Common.{◌≡◌, ◌+◌, drop}
use Rattle.operand_texts.specs.Words.{blank_len}
use Rattle.operand_texts.proofs.words.blank_len.Given as goal

abbrev pub invariant-loop-i : goal.invariant-loop-i
invariant-loop-i l = l.i + blank_len (drop l.i l.text) ≡ blank_len l.text
