use Rattle.std.proofs.Common.{flat_map, map, take}
use Rattle.text_output.specs.Writing.{Puts}
use Rattle.explain_who.specs.Code.{difference_in}
use Rattle.explain_who.specs.Forms.{change_in}
use Rattle.explain_who.proofs.output.put_changes.Given as goal

abbrev pub invariant-loop-change : goal.invariant-loop-change
invariant-loop-change g l =
    Puts (g.W.Write.contents l.fn.writer) (g.W.Write.contents l.writer) l.fn.gathered l.gathered (flat_map (change_in l.form l.script) (map difference_in (take l.change-index l.shown)))
