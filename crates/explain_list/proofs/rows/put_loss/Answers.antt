use Rattle.std.proofs.Common.{[], ◌∷◌, ◌++◌, ◌∙◌, codes, subst}
use Rattle.std.specs.Fmt.{decimal}
use Rattle.explain_text.specs.Json.{shown_in}
use Rattle.text_output.specs.Writing.{Puts}
use Rattle.text_output.proofs.Gathering.{puts_both}
use Rattle.explain_list.proofs.rows.put_loss.Goals as goal

pub returns : goal.returns
returns g c =
    let old = g.W.Write.contents c.args.writer.now in
    let new = g.W.Write.contents c.put-3.new.writer in
    let n = c.from.result in
    let byte = shown_in c.args.form (c.column_72.result ∷ []) in
    let end = codes "' in column 72" in
    let third = codes " has '" ++ (byte ++ end) in
    let number = c.from.ensures ∙ c.saturating_sub.ensures in
    subst (Puts old new c.args.gathered.now c.put-3.new.self)
    (λ i. codes "NOT CARRIED OUT: line " ++ (decimal (number i) ++ (codes " has '" ++ (shown_in c.args.form (c.column_72.ensures i ∷ []) ++ codes "' in column 72"))))
    (puts_both old _ new _ _ _ (codes "NOT CARRIED OUT: line ") (decimal n ++ third) c.put.ensures.puts
    (puts_both _ _ new _ _ _ (decimal n) third c.put_decimal.ensures
    (puts_both _ _ new _ _ _ (codes " has '") (byte ++ end) c.put-2.ensures.puts
    (puts_both _ _ new _ _ _ byte end c.put_shown_in.ensures c.put-3.ensures.puts))))
