use Rattle.std.proofs.Common.{sym, ◌∙◌}
use Rattle.bench_core.specs.Stands.{bench_of, settings_in}
use Rattle.macro_statements.specs.Requests.{act_in}
use Rattle.vsm_model.specs.Meaning.{service_in}
use Rattle.explain_why.specs.Obstacles.{obstacle_by}
use Rattle.explain_why.proofs.Asked.{cause_asked, unknown_asked}
use Rattle.explain_why.proofs.obstacles.valid_obstacle.Goals as goal

pub returns-in_default : goal.returns-in_default
returns-in_default c =
    unknown_asked (settings_in c.args.bench.now) (bench_of c.args.bench.now).present (act_in c.args.statement.now) (sym c.in_default.ensures)

pub returns-in-Ok : goal.returns-in-Ok
returns-in-Ok c =
    let b = c.args.bench.now in
    let service = service_in c.in-Some.service in
    c.obstacle_by.ensures
    ∙ (λ i. obstacle_by (c.storage.ensures.settings i) (c.storage.ensures.state i) service c.in-Ok.cause)
    ∙ cause_asked (settings_in b) (bench_of b).present (act_in c.args.statement.now) service c.in-Ok.cause (sym c.in-Some.ensures) c.in-Ok.ensures

pub returns-in-Err : goal.returns-in-Err
returns-in-Err c =
    unknown_asked (settings_in c.args.bench.now) (bench_of c.args.bench.now).present (act_in c.args.statement.now) c.in-Err.ensures
