use Rattle.std.proofs.Common.{◌≡◌, ℕ, List, ◌++◌, length, Option}
use Rattle.vsm_model.specs.declared.limits.Settings.{Settings}
use Rattle.script_steps.specs.Run.{Runs}
use Rattle.script_steps.proofs.runs.take_piece.Given as goal

abbrev pub invariant-loop-rest : goal.invariant-loop-rest
invariant-loop-rest g l = (front : List ℕ) × (l.piece ≡ front ++ l.rest)
    × ((settings : Settings) (first : Option (List ℕ)) (given : List ℕ) →
    Runs settings first (g.W.Write.contents l.fn.writer) l.fn.gathered given l.fn.session →
    Runs settings first (g.W.Write.contents l.writer) l.gathered (given ++ front) l.session)

abbrev pub decreases-loop-rest : goal.decreases-loop-rest
decreases-loop-rest g l = length l.rest
