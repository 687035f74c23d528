use Rattle.std.proofs.Common.{take}
use Rattle.script_steps.specs.Responses.{shown_text}
use Rattle.text_output.specs.Writing.{Puts}
use Rattle.explain_who.proofs.texts.put_bytes.Given as goal

abbrev pub invariant-loop-byte : goal.invariant-loop-byte
invariant-loop-byte g l =
    Puts (g.W.Write.contents l.fn.writer) (g.W.Write.contents l.writer) l.fn.gathered l.gathered (shown_text (take l.byte-index l.bytes))
