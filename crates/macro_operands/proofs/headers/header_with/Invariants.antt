use Rattle.std.proofs.Common.{◌≡◌, take}
use Rattle.macro_operands.proofs.headers.header_with.Given as goal

abbrev pub invariant-loop-byte : goal.invariant-loop-byte
invariant-loop-byte l = l.header.bytes ≡ take l.byte-index l.text
