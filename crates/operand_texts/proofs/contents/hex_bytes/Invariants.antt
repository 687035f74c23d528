use Rattle.std.proofs.Common.{◌≡◌, ◌*◌, ◌++◌, drop, length}
use Rattle.std.specs.Option.{option_map}
use Rattle.operand_texts.specs.Values.{hex_bytes}
use Rattle.operand_texts.proofs.contents.hex_bytes.Given as goal

abbrev pub invariant-loop-i : goal.invariant-loop-i
invariant-loop-i l = record {
  rest : option_map (λ bytes. l.bytes.items ++ bytes) (hex_bytes (drop (2 * l.i) l.digits)) ≡ hex_bytes l.digits;
  count : length l.bytes.items ≡ l.i;
}
