use Rattle.std.proofs.Common.{sym, ap, ◌∙◌}
use Rattle.storage_core.specs.Meaning.{state_of}
use Rattle.explain_standing.specs.Carried.{state_in}
use Rattle.explain_standing.specs.NumberMaps.{number_in}
use Rattle.explain_findings.specs.Accesses.{outside_at}
use Rattle.explain_findings.specs.Homes.{home_at}
use Rattle.explain_findings.specs.Judged.{read_by}
use Rattle.explain_findings.proofs.judging.read_outside.Goals as goal

pub returns-in-Some : goal.returns-in-Some
returns-in-Some c =
    let carried = c.args.carried.now in
    let lines = number_in carried.lines in
    let address = c.in-Some.address in
    c.outside_at.ensures ∙ ap (outside_at (home_at (state_of c.storage.result.now) lines) address) c.from-count.ensures
    ∙ ap (λ s. outside_at (home_at s lines) address c.args.count) c.storage.ensures.state
    ∙ ap (λ o. read_by (home_at (state_in carried) lines) o c.args.count) (sym c.in-Some.is)
