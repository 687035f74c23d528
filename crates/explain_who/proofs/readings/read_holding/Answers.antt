use Rattle.std.proofs.Common.{Some, sym, ap, ◌∙◌}
use Rattle.bench_core.specs.Stands.{bench_of, settings_in}
use Rattle.explain_who.specs.Readings.{holding_seen}
use Rattle.explain_who.proofs.Tasks.{there, absent}
use Rattle.explain_who.proofs.readings.read_holding.Goals as goal

pub returns-in-Some : goal.returns-in-Some
returns-in-Some c =
    let s = (bench_of c.args.bench.now).present.storage in
    let settings = settings_in c.args.bench.now in
    let task = c.args.task in
    let number = c.args.number in
    ap Some (c.seen_holding.ensures ∙ (λ i. holding_seen (c.storage-storage.ensures.settings i) (c.storage-storage.ensures.state i) task number))
    ∙ sym (there s task _ (holding_seen settings s task number) (sym (c.in-Some.ensures ∙ ap (λ x. x.parents task) c.storage-storage.ensures.state)))

pub returns-in-None : goal.returns-in-None
returns-in-None c =
    let s = (bench_of c.args.bench.now).present.storage in
    let settings = settings_in c.args.bench.now in
    let task = c.args.task in
    sym (absent s task (holding_seen settings s task c.args.number) (sym (c.in-None.ensures ∙ ap (λ x. x.parents task) c.storage-storage.ensures.state)))
