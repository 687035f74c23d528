use Rattle.std.proofs.Common.{◌++◌, codes, subst}
use Rattle.text_output.specs.Writing.{Puts}
use Rattle.text_output.proofs.Gathering.{puts_both}
use Rattle.explain_list.specs.Rows.{line_text, loss_text}
use Rattle.explain_list.proofs.rows.put_lost.Goals as goal

pub returns : goal.returns
returns g c =
    let old = g.W.Write.contents c.args.writer.now in
    let new = g.W.Write.contents c.put-2.new.writer in
    let number = c.args.line.now.number in
    let line = line_text number (codes " x") c.bytes.result.now in
    let loss = loss_text number c.bytes-2.result.now in
    subst (Puts old new c.args.gathered.now c.put-2.new.self)
    (λ i. line_text number (codes " x") (c.bytes.ensures i) ++ (codes "      <== " ++ (loss_text number (c.bytes-2.ensures i) ++ codes "\n")))
    (puts_both old _ new _ _ _ line (codes "      <== " ++ (loss ++ codes "\n")) c.put_line.ensures
    (puts_both _ _ new _ _ _ (codes "      <== ") (loss ++ codes "\n") c.put.ensures.puts
    (puts_both _ _ new _ _ _ loss (codes "\n") c.put_loss.ensures c.put-2.ensures.puts)))
