use Rattle.std.proofs.Common.{◌≡◌, map, drop}
use Rattle.macro_operands.specs.Operands.{is_left_out}
use Rattle.macro_operands.specs.Slots.{upper_key}
use Rattle.macro_operands.proofs.operands.is_left_out.Given as goal

abbrev pub invariant-loop-word : goal.invariant-loop-word
invariant-loop-word l =
    is_left_out (map (λ w. w.now) (drop l.word-index l.left_out)) (upper_key l.key)
    ≡ is_left_out (map (λ w. w.now) l.left_out) (upper_key l.key)
