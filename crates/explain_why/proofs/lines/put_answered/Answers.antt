use Rattle.std.specs.Prelude.{codes, ◌++◌}
use Rattle.script_steps.specs.Responses.{response_text}
use Rattle.text_output.proofs.Gathering.{puts_both}
use Rattle.explain_why.proofs.lines.put_answered.Goals as goal

pub returns : goal.returns
returns g c =
    let old = g.W.Write.contents c.args.writer.now in
    let first = g.W.Write.contents c.put.new.writer in
    let second = g.W.Write.contents c.put_response.new.writer in
    let new = g.W.Write.contents c.put-2.new.writer in
    let text = response_text c.args.shown.now c.args.response.now in
    puts_both old first new c.args.gathered.now c.put.new.self c.put-2.new.self (codes "  answered: ") (text ++ codes "\n") c.put.ensures.puts
    (puts_both first second new c.put.new.self c.put_response.new.gathered c.put-2.new.self text (codes "\n") c.put_response.ensures c.put-2.ensures.puts)
