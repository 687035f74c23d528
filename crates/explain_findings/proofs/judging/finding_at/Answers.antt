use Rattle.std.proofs.Common.{ap, refl, ◌∙◌}
use Rattle.bench_core.specs.Stands.{bench_of}
use Rattle.macro_statements.specs.Requests.{act_in}
use Rattle.vsm_model.specs.Meaning.{service_in}
use Rattle.explain_findings.specs.Judged.{stale_by}
use Rattle.explain_findings.specs.NameEndings.{ending_kept}
use Rattle.explain_findings.proofs.FewBytes.{few_asked}
use Rattle.explain_findings.proofs.FindingLemmas.{same_finding}
use Rattle.explain_findings.proofs.judging.finding_at.Goals as goal

pub stored_outside-requires : goal.stored_outside-requires
stored_outside-requires c =
    few_asked (bench_of c.args.carried.now.bench).present (act_in c.args.statement.now) (service_in c.args.service.now)
    c.requires.valid c.requires.asked

pub returns-clause-found : goal.returns-clause-found
returns-clause-found c =
    same_finding c.stored_outside.ensures
    (c.stale.ensures ∙ ap (stale_by (ending_kept c.args.known.now.endings)) c.name_used.ensures)
    c.released_part.ensures refl
