use Rattle.std.proofs.Common.{ap, refl, ◌/◌, ◌∙◌}
use Rattle.macro_statements.specs.Requests.{written_in}
use Rattle.explain_standing.specs.Carried.{state_in}
use Rattle.explain_standing.specs.NumberMaps.{number_in}
use Rattle.explain_findings.specs.Homes.{home_at}
use Rattle.explain_findings.specs.Judged.{read_by, stale_by, unset_by}
use Rattle.explain_findings.specs.NameEndings.{ending_kept}
use Rattle.explain_findings.proofs.FindingLemmas.{name_read, same_finding}
use Rattle.explain_findings.proofs.judging.reading_finding.Goals as goal

pub returns-clause-found : goal.returns-clause-found
returns-clause-found c =
    let carried = c.args.carried.now in
    let homes = home_at (state_in carried) (number_in carried.lines) in
    let reading = c.args.reading.now in
    same_finding
    (c.read_outside.ensures ∙ ap (λ o. read_by homes o reading.count) c.word-address.ensures)
    (c.stale.ensures
    ∙ ap (stale_by (ending_kept c.args.known.now.endings)) (c.name_in.ensures ∙ name_read (written_in reading.address) reading.count))
    refl
    (c.read_unset.ensures
    ∙ ap (λ o. unset_by homes (λ cell. number_in carried.cells (cell / 4)) (number_in c.args.known.now.stored) o reading.count)
    c.word-address.ensures)
