use Rattle.std.proofs.Common.{◌≡◌, ◌-◌, ◌++◌, ◌∙◌, ℕ, List, length, replicate, ap, subst}
use Rattle.std.specs.Fmt.{decimal}
use Rattle.text_output.specs.Writing.{Puts}
use Rattle.text_output.proofs.Gathering.{puts_both}
use Rattle.explain_text.proofs.puts.put_column.Goals as goal

pub returns : goal.returns
returns g c =
    let old = g.W.Write.contents c.args.writer.now in
    let mid = g.W.Write.contents c.put_blanks.new.writer in
    let new = g.W.Write.contents c.put.new.writer in
    let text = c.as_bytes-digits.result.now in
    let is : text ≡ decimal c.args.n = c.as_bytes-digits.ensures.value ∙ c.format.ensures.text in
    let count : c.saturating_sub.result ≡ c.args.width - length (decimal c.args.n) =
    c.saturating_sub.ensures ∙ ap (λ (xs : List ℕ). c.args.width - length xs) is in
    subst (Puts old new c.args.gathered.now c.put.new.self) (λ i. replicate (count i) 32 ++ is i)
    (puts_both old mid new c.args.gathered.now c.put_blanks.new.gathered c.put.new.self (replicate c.saturating_sub.result 32) text c.put_blanks.ensures c.put.ensures.puts)
