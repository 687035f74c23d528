use Rattle.std.proofs.Common.{sym}
use Rattle.vsm_model.specs.Meaning.{service_in}
use Rattle.macro_statements.specs.Requests.{act_in}
use Rattle.bench_core.specs.Stands.{bench_of, settings_in}
use Rattle.explain_list.proofs.CauseTexts.{found_text, none_text, unknown_text}
use Rattle.explain_list.proofs.causes.put_act_cause.Goals as goal

pub returns-in_default : goal.returns-in_default
returns-in_default g c =
    let b = c.args.bench.now in
    unknown_text (settings_in b) (bench_of b).present (act_in c.args.statement.now) _ _ (sym c.in_default.ensures)

pub returns-in-Ok-Some : goal.returns-in-Ok-Some
returns-in-Ok-Some g c =
    let b = c.args.bench.now in
    found_text (settings_in b) (bench_of b).present (act_in c.args.statement.now) c.storage.result.now (service_in c.in-Some.service) c.in-Ok-Some.cause _ _ _ _
    c.storage.ensures.settings c.storage.ensures.state (sym c.in-Some.ensures) (rw c.in-Ok-Some.field-0-is at c.in-Ok-Some.ensures) c.put_cause.ensures.told

pub returns-in-Ok-None : goal.returns-in-Ok-None
returns-in-Ok-None g c =
    let b = c.args.bench.now in
    none_text (settings_in b) (bench_of b).present (act_in c.args.statement.now) _ _ (rw c.in-Ok-None.field-0-is at c.in-Ok-None.ensures)

pub returns-in-Err : goal.returns-in-Err
returns-in-Err g c =
    let b = c.args.bench.now in
    unknown_text (settings_in b) (bench_of b).present (act_in c.args.statement.now) _ _ c.in-Err.ensures
