use Rattle.std.proofs.Common.{sym, ap, ◌∙◌}
use Rattle.bench_core.specs.Machine.{service_asked}
use Rattle.bench_core.specs.Stands.{bench_of}
use Rattle.macro_statements.specs.Requests.{act_in}
use Rattle.vsm_model.specs.Meaning.{service_in}
use Rattle.vsm_model.specs.Names.{NamedState}
use Rattle.explain_findings.proofs.FewBytes.{few_asked}
use Rattle.explain_findings.proofs.FoundBefore.{found_before}
use Rattle.explain_findings.proofs.replay.judge_before.Goals as goal

pub returns-clause-judges : goal.returns-clause-judges
returns-clause-judges c = λ settings older knows.
    let x = act_in c.args.statement.now in
    let asked = ap (λ (k : NamedState). service_asked k x) (sym knows.carried.present) ∙ sym c.in_ok-service.ensures in
    record {
      served = record {
        service = service_in c.in_ok-service.service;
        asked = asked;
        ends_it = c.of.ensures;
        stores_it = c.stored_by.ensures;
      };
      found = λ reply replied. found_before settings older c.args.carried.now c.args.known.now knows x (service_in c.in_ok-service.service) c.finding_at-finding.result reply asked c.finding_at-finding.ensures.found replied;
    }

pub stored_by-requires : goal.stored_by-requires
stored_by-requires c =
    few_asked (bench_of c.args.carried.now.bench).present (act_in c.args.statement.now) (service_in c.in_ok-service.service) c.requires (sym c.in_ok-service.ensures)
