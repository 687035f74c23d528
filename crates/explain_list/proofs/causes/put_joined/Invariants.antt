use Rattle.std.proofs.Common.{◌≡◌, ℕ, List, ◌++◌, drop}
use Rattle.text_output.specs.Writing.{Puts}
use Rattle.explain_list.specs.Causes.{joined}
use Rattle.explain_list.specs.declared.causes.Joint.TheVariants as joint
use Rattle.explain_list.proofs.causes.put_joined.Given as goal

abbrev pub invariant-loop-at : goal.invariant-loop-at
invariant-loop-at g l = (front : List ℕ) × (front ++ joined l.joint (drop l.at l.text) ≡ joined joint.First l.text)
    × Puts (g.W.Write.contents l.fn.writer) (g.W.Write.contents l.writer) l.fn.gathered l.gathered front
