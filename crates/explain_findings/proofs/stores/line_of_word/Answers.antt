use Rattle.std.proofs.Common.{◌/◌, ap, ◌∙◌}
use Rattle.explain_standing.specs.NumberMaps.{number_in}
use Rattle.explain_findings.specs.Homes.{home_at}
use Rattle.explain_findings.specs.Stores.{line_at_home}
use Rattle.explain_findings.proofs.stores.line_of_word.Goals as goal

pub returns-clause-line : goal.returns-clause-line
returns-clause-line c =
    let carried = c.args.carried.now in
    c.line_at_home.ensures
    ∙ ap (line_at_home (λ cell. number_in carried.cells (cell / 4)))
    (c.home_at-home.ensures ∙ ap (λ s. home_at s (number_in carried.lines) c.args.word) c.storage.ensures.state)
