use Rattle.std.proofs.Common.{Some, sym, ap, ◌∙◌}
use Rattle.bench_core.specs.Stands.{bench_of}
use Rattle.explain_who.proofs.Tasks.{there, absent}
use Rattle.explain_who.proofs.readings.read_register.Goals as goal

pub returns-in-Some : goal.returns-in-Some
returns-in-Some c =
    let s = (bench_of c.args.bench.now).present.storage in
    let task = c.args.task in
    ap Some c.register.ensures
    ∙ sym (there s task _ (s.words task c.args.register) (sym (c.in-Some.ensures ∙ ap (λ x. x.parents task) c.storage.ensures.state)))

pub returns-in-None : goal.returns-in-None
returns-in-None c =
    let s = (bench_of c.args.bench.now).present.storage in
    let task = c.args.task in
    sym (absent s task (s.words task c.args.register) (sym (c.in-None.ensures ∙ ap (λ x. x.parents task) c.storage.ensures.state)))
