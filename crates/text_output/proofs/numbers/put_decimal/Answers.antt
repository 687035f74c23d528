use Rattle.std.proofs.Common.{◌∙◌, subst}
use Rattle.text_output.specs.Writing.{Puts}
use Rattle.text_output.proofs.numbers.put_decimal.Goals as goal

pub returns : goal.returns
returns g c =
    let old = g.W.Write.contents c.args.writer.now in
    let new = g.W.Write.contents c.put.new.writer in
    subst (λ text. Puts old new c.args.gathered.now c.put.new.self text) (c.as_bytes.ensures.value ∙ c.format.ensures.text) c.put.ensures.puts
