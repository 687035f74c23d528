use Rattle.std.proofs.Common.{subst}
use Rattle.std.specs.Prelude.{codes, decimal, ◌++◌}
use Rattle.text_output.specs.Writing.{Puts}
use Rattle.text_output.proofs.Gathering.{puts_both}
use Rattle.explain_why.proofs.details.put_made.Goals as goal

pub returns : goal.returns
returns g c =
    let old = g.W.Write.contents c.args.writer.now in
    let first = g.W.Write.contents c.put.new.writer in
    let second = g.W.Write.contents c.put_decimal.new.writer in
    let new = g.W.Write.contents c.put-2.new.writer in
    let end = codes " defined it, " in
    let number = decimal c.args.line in
    puts_both old first new c.args.gathered.now c.put.new.self c.put-2.new.self (codes "  line ") (number ++ end) c.put.ensures.puts
    (puts_both first second new c.put.new.self c.put_decimal.new.gathered c.put-2.new.self number end
    (subst (λ n. Puts first second c.put.new.self c.put_decimal.new.gathered (decimal n)) c.from.ensures c.put_decimal.ensures) c.put-2.ensures.puts)
