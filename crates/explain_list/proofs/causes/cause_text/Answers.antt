use Rattle.std.proofs.Common.{List, ℕ, [], ◌++◌, ◌∙◌, Some, sym, ap, subst}
use Rattle.std.proofs.KnownBytes.{Appends-nil}
use Rattle.macro_statements.specs.Requests.{IsValidAsked, asked_in}
use Rattle.bench_core.specs.Stands.{bench_of, settings_in}
use Rattle.text_output.proofs.Gathering.{empty_holds}
use Rattle.explain_list.specs.Causes.{IsCauseText}
use Rattle.explain_list.proofs.causes.cause_text.Goals as goal

pub returns-in-Ok-clause-text : goal.returns-in-Ok-clause-text
returns-in-Ok-clause-text c =
    let b = c.args.bench.now in
    let asked = asked_in c.args.request.now in
    let e = c.put_request_cause.ensures in
    let first = Some c.new-text.result.items in
    let out = c.in-Ok.ensures.writes first e.0 (e.2 first [] (empty_holds first first c.new-gathered.result [] c.new-gathered.ensures (Appends-nil first))) in
    subst (λ t. IsValidAsked asked → IsCauseText (settings_in b) (bench_of b).present asked t)
    (sym (out ∙ ap (λ (o : List ℕ). o ++ e.0) c.new-text.ensures.items)) e.1

pub returns-in-Err-clause-failed : goal.returns-in-Err-clause-failed
returns-in-Err-clause-failed c = (c.put_request_cause.ensures.0, c.in-Err.ensures.failed, c.put_request_cause.ensures.1)
