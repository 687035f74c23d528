use Rattle.std.proofs.Common.{length, subst}
use Rattle.vsm_model.specs.declared.limits.Settings.{Settings}
use Rattle.vsm_model.specs.Map.{history_line}
use Rattle.text_output.specs.Writing.{Puts}
use Rattle.bench_core.specs.Stands.{bench_of, settings_in}
use Rattle.bench_core.proofs.WholeMap.{whole_map}
use Rattle.bench_core.proofs.bench.Bench.put_map.Goals as goal

pub returns : goal.returns
returns g c =
    let b = c.args.self.now in
    let first = g.W.Write.contents c.put_map.new.writer in
    let second = g.W.Write.contents c.put_names.new.writer in
    let last = g.W.Write.contents c.put_history.new.writer in
    let kept = length (bench_of b).past in
    let history : Puts second last c.put_names.new.gathered c.put_history.new.gathered (history_line kept (settings_in b).history) =
    subst (λ n. Puts second last c.put_names.new.gathered c.put_history.new.gathered (history_line n (settings_in b).history)) c.kept.ensures
    (subst
    (λ (s : Settings). Puts second last c.put_names.new.gathered c.put_history.new.gathered (history_line c.kept.result s.history))
    c.settings.ensures c.put_history.ensures) in
    whole_map (g.W.Write.contents c.args.writer.now) first second last
    c.args.gathered.now c.put_map.new.gathered c.put_names.new.gathered c.put_history.new.gathered
    (settings_in b) (bench_of b).present kept c.put_map.ensures c.put_names.ensures history
