use Rattle.std.proofs.Common.{subst}
use Rattle.std.proofs.lemmas.List.{take_all}
use Rattle.text_output.specs.Writing.{Puts}
use Rattle.text_output.proofs.Gathering.{puts_none}
use Rattle.explain_text.specs.Pieces.{pieces_text}
use Rattle.explain_text.proofs.Lines.{next_put}
use Rattle.explain_text.proofs.pieces.put_pieces.Goals as goal

pub loop-piece-init : goal.loop-piece-init
loop-piece-init g c = puts_none (g.W.Write.contents c.args.writer.now) c.args.gathered.now

pub loop-piece-preserved : goal.loop-piece-preserved
loop-piece-preserved g c =
    next_put (g.W.Write.contents c.args.writer.now) (g.W.Write.contents c.loop-piece.writer) (g.W.Write.contents c.put_piece.new.writer)
    c.args.gathered.now c.loop-piece.gathered c.put_piece.new.gathered c.args.pieces.now c.loop-piece.piece-index _ c.loop-piece-test.true c.loop-piece.invariant
    c.put_piece.ensures

pub returns-clause-text : goal.returns-clause-text
returns-clause-text g c =
    subst (λ ps. Puts (g.W.Write.contents c.args.writer.now) (g.W.Write.contents c.loop-piece.writer) c.args.gathered.now c.loop-piece.gathered (pieces_text ps))
    (take_all c.loop-piece.piece-index c.args.pieces.now c.loop-piece-test.false) c.loop-piece.invariant
