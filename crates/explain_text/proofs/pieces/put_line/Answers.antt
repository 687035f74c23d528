use Rattle.explain_text.specs.Pieces.{line_text}
use Rattle.explain_text.proofs.Lines.{line_whole}
use Rattle.explain_text.proofs.pieces.put_line.Goals as goal

pub returns-clause-text : goal.returns-clause-text
returns-clause-text g c =
    line_whole (g.W.Write.contents c.args.writer.now) (g.W.Write.contents c.put.new.writer) (g.W.Write.contents c.put_pieces.new.writer) (g.W.Write.contents c.put-2.new.writer)
    c.args.gathered.now c.put.new.self c.put_pieces.new.gathered c.put-2.new.self c.args.pieces.now c.put.ensures.puts c.put_pieces.ensures.text c.put-2.ensures.puts

pub returns-clause-some : goal.returns-clause-some
returns-clause-some g c = (line_text c.args.pieces.now, returns-clause-text g c)
