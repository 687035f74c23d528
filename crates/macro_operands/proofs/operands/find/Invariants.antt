use Rattle.std.proofs.Common.{◌≡◌, map, drop}
use Rattle.macro_operands.specs.Slots.{upper_key, entry_in, found}
use Rattle.macro_operands.proofs.operands.find.Given as goal

abbrev pub invariant-loop-i : goal.invariant-loop-i
invariant-loop-i l =
    found l.i (map entry_in (drop l.i l.entries)) (upper_key l.key) ≡ found 0 (map entry_in l.entries) (upper_key l.key)
