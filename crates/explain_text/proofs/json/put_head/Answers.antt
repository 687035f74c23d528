use Rattle.std.proofs.Common.{◌++◌, codes}
use Rattle.text_output.proofs.Gathering.{puts_both}
use Rattle.explain_text.proofs.json.put_head.Goals as goal

pub returns : goal.returns
returns g c =
    let old = g.W.Write.contents c.args.writer.now in
    let one = g.W.Write.contents c.put.new.writer in
    let two = g.W.Write.contents c.put-2.new.writer in
    let new = g.W.Write.contents c.put-3.new.writer in
    let command = c.args.command.now in
    puts_both old one new c.args.gathered.now c.put.new.self c.put-3.new.self
    (codes "{\"version\":1,\"command\":\"") (command ++ codes "\"}\n") c.put.ensures.puts
    (puts_both one two new c.put.new.self c.put-2.new.self c.put-3.new.self command (codes "\"}\n")
    c.put-2.ensures.puts c.put-3.ensures.puts)
