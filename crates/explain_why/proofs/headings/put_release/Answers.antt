use Rattle.std.specs.Prelude.{codes}
use Rattle.explain_reasons.proofs.Endings.{some_both}
use Rattle.explain_why.proofs.headings.put_release.Goals as goal

pub returns : goal.returns
returns g c =
    let old = g.W.Write.contents c.args.writer.now in
    let first = g.W.Write.contents c.put.new.writer in
    let second = g.W.Write.contents c.put_length.new.writer in
    let new = g.W.Write.contents c.put_pieces.new.writer in
    some_both old second new c.args.gathered.now c.put_length.new.gathered c.put_pieces.new.gathered
    (some_both old first second c.args.gathered.now c.put.new.self c.put_length.new.gathered (codes "release of ", c.put.ensures.puts) c.put_length.ensures)
    c.put_pieces.ensures.some
