use Rattle.std.proofs.Common.{List, ℕ, Option, length}
use Rattle.text_output.specs.Writing.{Puts}
use Rattle.text_output.specs.declared.writing.Gathered.{Gathered}
use Rattle.explain_areas.specs.Keeps.{further_lines}
use Rattle.explain_areas.proofs.keeps.put_further.Given as goal

-- What puts the lines that are left puts all of them.
abbrev pub invariant-loop-line : goal.invariant-loop-line
invariant-loop-line g l =
    (new : Option (List ℕ)) (gathered : Gathered)
    → Puts (g.W.Write.contents l.writer) new l.gathered gathered (further_lines l.form l.left)
    → Puts (g.W.Write.contents l.fn.writer) new l.fn.gathered gathered (further_lines l.fn.form l.fn.lines)

abbrev pub decreases-loop-line : goal.decreases-loop-line
decreases-loop-line g l = length l.left
