use Rattle.std.proofs.Common.{[]}
use Rattle.storage_core.specs.Meaning.{settings_of, state_of}
use Rattle.text_output.proofs.Gathering.{empty_holds}
use Rattle.text_output.proofs.Known.{appends_nothing}
use Rattle.vsm_model.specs.Map.{storage_map}
use Rattle.storage_map.proofs.maps.write_map.Goals as goal

pub returns : goal.returns
returns g c =
    let old = g.W.Write.contents c.args.writer.now in
    let s = c.args.storage.now in
    c.finish.ensures old (storage_map (settings_of s) (state_of s)) (c.put_map.ensures old [] (empty_holds old old c.new-gathered.result [] c.new-gathered.ensures (appends_nothing old)))
