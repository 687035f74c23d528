use Rattle.std.proofs.Common.{take}
use Rattle.text_output.specs.Writing.{Puts}
use Rattle.explain_text.specs.Pieces.{pieces_text}
use Rattle.explain_text.proofs.pieces.put_pieces.Given as goal

abbrev pub invariant-loop-piece : goal.invariant-loop-piece
invariant-loop-piece g l =
    Puts (g.W.Write.contents l.fn.writer) (g.W.Write.contents l.writer) l.fn.gathered l.gathered
    (pieces_text (take l.piece-index l.pieces))
