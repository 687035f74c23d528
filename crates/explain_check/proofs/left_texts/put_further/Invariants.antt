use Rattle.std.proofs.Common.{flat_map, take}
use Rattle.text_output.specs.Writing.{Puts}
use Rattle.explain_check.specs.LeftTexts.{next_line}
use Rattle.explain_check.proofs.left_texts.put_further.Given as goal

abbrev pub invariant-loop-line : goal.invariant-loop-line
invariant-loop-line g l =
    Puts (g.W.Write.contents l.fn.writer) (g.W.Write.contents l.writer) l.fn.gathered l.gathered (flat_map next_line (take l.line-index l.lines))
