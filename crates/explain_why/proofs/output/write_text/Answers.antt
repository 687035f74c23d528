use Rattle.std.proofs.Common.{[]}
use Rattle.text_output.proofs.Gathering.{empty_holds}
use Rattle.text_output.proofs.Known.{appends_nothing}
use Rattle.explain_why.proofs.output.write_text.Goals as goal

pub returns : goal.returns
returns g c =
    let old = g.W.Write.contents c.args.out.now in
    c.hand_out.ensures.writes old c.args.text.now
    (c.put.ensures.puts old [] (empty_holds old old c.new-gathered.result [] c.new-gathered.ensures (appends_nothing old)))
