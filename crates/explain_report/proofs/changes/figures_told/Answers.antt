use Rattle.std.proofs.Common.{subst, sym}
use Rattle.bench_core.specs.Stands.{bench_of, settings_in}
use Rattle.explain_report.specs.Changes.{AreFiguresAfter}
use Rattle.explain_report.proofs.Told.{changed_at}
use Rattle.explain_report.proofs.changes.figures_told.Goals as goal

pub returns-in-Some : goal.returns-in-Some
returns-in-Some c =
    let bench = c.args.bench.now in
    let settings = settings_in bench in
    let state = (bench_of bench).present.storage in
    let after = c.figures_after.result in
    subst (λ t. AreFiguresAfter settings state c.args.before t after) (sym c.in-Some.is)
    (changed_at settings state c.storage.result.now c.args.before after c.in-Some.response c.storage.ensures.settings c.storage.ensures.state c.figures_after.ensures)
