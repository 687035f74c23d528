use Rattle.std.proofs.Common.{◌++◌, codes, subst}
use Rattle.std.specs.Fmt.{decimal}
use Rattle.text_output.specs.Writing.{Puts}
use Rattle.text_output.proofs.Gathering.{puts_both}
use Rattle.explain_check.proofs.rows.put_position.Goals as goal

pub returns : goal.returns
returns g c =
    let old = g.W.Write.contents c.args.writer.now in
    let new = g.W.Write.contents c.put-4.new.writer in
    let name = c.args.name.now in
    let n = c.from.result in
    let m = c.args.place.column in
    let fourth = codes ":" ++ (decimal m ++ codes ": ") in
    let third = decimal n ++ fourth in
    subst (Puts old new c.args.gathered.now c.put-4.new.self) (λ i. name ++ (codes ":" ++ (decimal (c.from.ensures i) ++ fourth)))
    (puts_both old _ new _ _ _ name (codes ":" ++ third) c.put.ensures.puts
    (puts_both _ _ new _ _ _ (codes ":") third c.put-2.ensures.puts
    (puts_both _ _ new _ _ _ (decimal n) fourth c.put_decimal.ensures
    (puts_both _ _ new _ _ _ (codes ":") (decimal m ++ codes ": ") c.put-3.ensures.puts
    (puts_both _ _ new _ _ _ (decimal m) (codes ": ") c.put_decimal-2.ensures c.put-4.ensures.puts)))))
