use Rattle.std.proofs.Common.{length, subst, sym}
use Rattle.bench_core.specs.Stands.{bench_of, settings_in}
use Rattle.text_output.specs.Writing.{Puts}
use Rattle.text_output.proofs.Gathering.{puts_none}
use Rattle.script_steps.proofs.Tellings.{map_behind, none_behind}
use Rattle.script_steps.proofs.texts.put_behind.Goals as goal

pub returns-in-Map : goal.returns-in-Map
returns-in-Map g c =
    let bench = c.args.bench.now in
    let old = g.W.Write.contents c.args.writer.now in
    let new = g.W.Write.contents c.put_map.new.writer in
    subst (Puts old new c.args.gathered.now c.put_map.new.gathered)
    (map_behind (settings_in bench) (bench_of bench).present (length (bench_of bench).past) c.args.response.now c.in-Map.is)
    c.put_map.ensures

pub returns-in_default : goal.returns-in_default
returns-in_default g c =
    let bench = c.args.bench.now in
    let now = g.W.Write.contents c.args.writer.now in
    subst (Puts now now c.args.gathered.now c.args.gathered.now)
    (sym (none_behind (settings_in bench) (bench_of bench).present (length (bench_of bench).past) c.args.response.now c.in_default.not-Map))
    (puts_none now c.args.gathered.now)
