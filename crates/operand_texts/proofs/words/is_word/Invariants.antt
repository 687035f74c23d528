use Rattle.std.proofs.Common.{◌≡◌, drop}
use Rattle.operand_texts.specs.Words.{is_word}
use Rattle.operand_texts.proofs.words.is_word.Given as goal

abbrev pub invariant-loop-i : goal.invariant-loop-i
invariant-loop-i l = is_word (drop l.i l.text) (drop l.i l.word) ≡ is_word l.text l.word
