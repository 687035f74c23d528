use Rattle.std.proofs.Common.{◌/◌, Some, sym, ap, ◌∙◌}
use Rattle.vsm_model.specs.Meaning.{service_in}
use Rattle.vsm_model.specs.Regions.{doublewords}
use Rattle.storage_core.specs.Meaning.{state_of}
use Rattle.explain_standing.specs.Carried.{state_in}
use Rattle.explain_standing.specs.NumberMaps.{number_in}
use Rattle.explain_findings.specs.Homes.{home_at}
use Rattle.explain_findings.specs.Judged.{part_by}
use Rattle.explain_findings.specs.Parts.{part_at}
use Rattle.explain_findings.proofs.judging.released_part.Goals as goal

pub returns-in-Release : goal.returns-in-Release
returns-in-Release c =
    let carried = c.args.carried.now in
    let lines = number_in carried.lines in
    let first = c.in-Release.release.address / 8 in
    c.part_at.ensures ∙ ap (part_at (home_at (state_of c.storage.result.now) lines) lines first) c.doublewords-count.ensures.count
    ∙ ap (λ s. part_at (home_at s lines) lines first (doublewords c.in-Release.release.length)) c.storage.ensures.state
    ∙ ap (λ service. part_by (home_at (state_in carried) lines) lines (Some (service_in service))) (sym c.in-Release.is)
