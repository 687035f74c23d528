use Rattle.std.proofs.Common.{◌∙◌, ap, subst}
use Rattle.std.proofs.lemmas.List.{append-nil}
use Rattle.vsm_model.specs.Texts.{hexadecimal}
use Rattle.text_output.specs.Writing.{Puts}
use Rattle.text_output.proofs.numbers.put_byte.Goals as goal

pub returns : goal.returns
returns g c =
    subst (Puts (g.W.Write.contents c.args.writer.now) (g.W.Write.contents c.put.new.writer) c.args.gathered.now c.put.new.self)
    (c.write_pair.ensures ∙ append-nil (hexadecimal 2 c.from.result) ∙ ap (hexadecimal 2) c.from.ensures) c.put.ensures.puts
