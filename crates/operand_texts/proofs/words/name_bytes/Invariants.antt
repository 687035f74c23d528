use Rattle.std.proofs.Common.{◌≡◌, ◌+◌, drop}
use Rattle.operand_texts.specs.Words.{name_bytes}
use Rattle.operand_texts.proofs.words.name_bytes.Given as goal

abbrev pub invariant-loop-i : goal.invariant-loop-i
invariant-loop-i l = l.i + name_bytes (drop l.i l.text) ≡ name_bytes l.text
