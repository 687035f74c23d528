use Rattle.std.proofs.Common.{◌≡◌, take, map}
use Rattle.std.specs.Char.{to_ascii_uppercase}
use Rattle.operand_texts.proofs.words.upper_name.Given as goal

abbrev pub invariant-loop-byte : goal.invariant-loop-byte
invariant-loop-byte l = l.name.bytes ≡ map to_ascii_uppercase (take l.byte-index l.text)
