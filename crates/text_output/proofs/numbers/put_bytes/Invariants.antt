use Rattle.std.proofs.Common.{◌≡◌, ◌++◌, List, ℕ, length}
use Rattle.std.specs.List.{flat_map}
use Rattle.vsm_model.specs.Texts.{hexadecimal}
use Rattle.text_output.specs.Writing.{Puts}
use Rattle.text_output.proofs.numbers.put_bytes.Given as goal

abbrev pub invariant-loop-rest : goal.invariant-loop-rest
invariant-loop-rest g l =
    (front : List ℕ) × (l.bytes ≡ front ++ l.rest)
    × Puts (g.W.Write.contents l.fn.writer) (g.W.Write.contents l.writer) l.fn.gathered l.gathered (flat_map (hexadecimal 2) front)

abbrev pub decreases-loop-rest : goal.decreases-loop-rest
decreases-loop-rest g l = length l.rest
