use Rattle.std.proofs.Common.{[]}
use Rattle.text_output.proofs.Gathering.{empty_holds}
use Rattle.text_output.proofs.Known.{appends_nothing}
use Rattle.vsm_model.specs.Map.{history_line}
use Rattle.storage_map.proofs.maps.write_history.Goals as goal

pub returns : goal.returns
returns g c =
    let old = g.W.Write.contents c.args.writer.now in
    c.finish.ensures old (history_line c.args.kept c.args.limit) (c.put_history.ensures old [] (empty_holds old old c.new-gathered.result [] c.new-gathered.ensures (appends_nothing old)))
