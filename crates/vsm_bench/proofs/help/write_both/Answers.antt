use Rattle.std.proofs.Common.{[], ◌++◌, ◌∙◌, ap, subst}
use Rattle.text_output.specs.Writing.{Writes}
use Rattle.text_output.proofs.Gathering.{empty_holds}
use Rattle.text_output.proofs.Known.{appends_nothing}
use Rattle.vsm_bench.specs.Help.{help_end}
use Rattle.vsm_bench.proofs.help.write_both.Goals as goal

pub returns : goal.returns
returns g c =
    let old = g.O.Write.contents c.args.output.now in
    let options = c.as_bytes.result.now in
    subst (λ text. Writes old (g.O.Write.contents c.finish.new.writer) text c.finish.result)
    (ap (λ end. options ++ end) (c.as_bytes-2.ensures.value ∙ c.help_end.ensures) ∙ ap (λ front. front ++ help_end) c.as_bytes.ensures.value)
    (c.finish.ensures old (options ++ c.as_bytes-2.result.now)
    (c.put-2.ensures.puts old options
    (c.put.ensures.puts old [] (empty_holds old old c.new-gathered.result [] c.new-gathered.ensures (appends_nothing old)))))
