use Rattle.std.proofs.Common.{[]}
use Rattle.std.proofs.KnownBytes.{Appends-nil}
use Rattle.text_output.proofs.Gathering.{empty_holds}
use Rattle.bench_core.proofs.bench.Bench.write_map.Goals as goal

pub returns : goal.returns
returns g c =
    let at_first = g.W.Write.contents c.args.writer.now in
    c.finish.ensures at_first _
    (c.put_map.ensures at_first [] (empty_holds at_first at_first c.new-gathered.result [] c.new-gathered.ensures (Appends-nil at_first)))
