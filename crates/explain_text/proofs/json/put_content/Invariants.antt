use Rattle.std.specs.List.{flat_map}
use Rattle.text_output.specs.Writing.{Puts}
use Rattle.explain_text.specs.Json.{escaped}
use Rattle.explain_text.specs.Letters.{shown_to}
use Rattle.explain_text.proofs.json.put_content.Given as goal

abbrev pub invariant-loop-at : goal.invariant-loop-at
invariant-loop-at g l =
    Puts (g.W.Write.contents l.fn.writer) (g.W.Write.contents l.writer) l.fn.gathered l.gathered
    (flat_map escaped (shown_to l.bytes l.at))
