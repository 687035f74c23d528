use Rattle.std.proofs.Common.{Some, length, sym, ap, ◌∙◌}
use Rattle.vsm_model.specs.Meaning.{service_in}
use Rattle.explain_standing.specs.Carried.{state_in}
use Rattle.explain_standing.specs.NumberMaps.{number_in}
use Rattle.explain_findings.specs.Accesses.{outside_at}
use Rattle.explain_findings.specs.Homes.{home_at}
use Rattle.explain_findings.specs.Judged.{outside_by}
use Rattle.explain_findings.proofs.judging.stored_outside.Goals as goal

pub returns-in-Store : goal.returns-in-Store
returns-in-Store c =
    let carried = c.args.carried.now in
    let lines = number_in carried.lines in
    c.outside_at.ensures ∙ ap (λ s. outside_at (home_at s lines) c.in-Store.address (length c.in-Store.bytes.now)) c.storage.ensures.state
    ∙ ap (λ service. outside_by (home_at (state_in carried) lines) (Some (service_in service))) (sym c.in-Store.is)
