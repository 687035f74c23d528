use Rattle.std.proofs.Common.{[], subst}
use Rattle.text_output.specs.Writing.{Writes}
use Rattle.text_output.proofs.Gathering.{empty_holds}
use Rattle.text_output.proofs.Known.{appends_nothing}
use Rattle.vsm_bench.proofs.messages.write_text.Goals as goal

pub returns : goal.returns
returns g c =
    let old = g.W.Write.contents c.args.writer.now in
    subst (λ text. Writes old (g.W.Write.contents c.finish.new.writer) text c.finish.result) c.as_bytes.ensures.value
    (c.finish.ensures old c.as_bytes.result.now
    (c.put.ensures.puts old [] (empty_holds old old c.new-gathered.result [] c.new-gathered.ensures (appends_nothing old))))
