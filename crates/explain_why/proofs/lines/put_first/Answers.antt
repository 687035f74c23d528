use Rattle.std.proofs.Common.{subst}
use Rattle.std.specs.Prelude.{codes, decimal, ◌++◌}
use Rattle.text_output.specs.Writing.{Puts}
use Rattle.text_output.proofs.Gathering.{puts_both}
use Rattle.explain_why.specs.Answers.{goes_on_text}
use Rattle.explain_why.proofs.lines.put_first.Goals as goal

pub returns : goal.returns
returns g c =
    let old = g.W.Write.contents c.args.writer.now in
    let first = g.W.Write.contents c.put.new.writer in
    let second = g.W.Write.contents c.put_decimal.new.writer in
    let third = g.W.Write.contents c.put_goes_on.new.writer in
    let new = g.W.Write.contents c.put-2.new.writer in
    let end = codes ": " in
    let more = goes_on_text c.args.first c.args.line in
    let number = decimal c.args.first in
    puts_both old first new c.args.gathered.now c.put.new.self c.put-2.new.self (codes "line ") (number ++ (more ++ end)) c.put.ensures.puts
    (puts_both first second new c.put.new.self c.put_decimal.new.gathered c.put-2.new.self number (more ++ end)
    (subst (λ n. Puts first second c.put.new.self c.put_decimal.new.gathered (decimal n)) c.from.ensures c.put_decimal.ensures)
    (puts_both second third new c.put_decimal.new.gathered c.put_goes_on.new.gathered c.put-2.new.self more end c.put_goes_on.ensures c.put-2.ensures.puts))
