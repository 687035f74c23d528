use Rattle.std.proofs.Common.{sym, ap, ◌∙◌}
use Rattle.vsm_model.specs.Search.{all_pass}
use Rattle.explain_standing.specs.NumberMaps.{on_page}
use Rattle.explain_standing.specs.NumberMaps.{same_number}
use Rattle.explain_standing.proofs.NumberMaps.{one_passes}
use Rattle.explain_standing.proofs.number_map.is_run_of.Goals as goal

pub returns-in-One : goal.returns-in-One
returns-in-One c =
    let a = c.args in
    c.is_same.ensures ∙ one_passes (same_number a.number c.in-One.its) a.from a.count c.requires.some
    ∙ ap (λ p. all_pass (λ d. same_number a.number (on_page p d)) a.from a.count) (sym c.in-One.is)
