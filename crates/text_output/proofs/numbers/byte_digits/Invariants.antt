use Rattle.std.proofs.Common.{◌≡◌, ◌*◌, take}
use Rattle.std.specs.List.{flat_map}
use Rattle.vsm_model.specs.Texts.{hexadecimal}
use Rattle.text_output.proofs.numbers.byte_digits.Given as goal

abbrev pub invariant-loop-i : goal.invariant-loop-i
invariant-loop-i l = take (2 * l.i) l.places ≡ flat_map (hexadecimal 2) (take l.i l.bytes)
