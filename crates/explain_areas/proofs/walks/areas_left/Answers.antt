use Rattle.std.proofs.Common.{ap, ◌∙◌}
use Rattle.vsm_model.specs.Names.{NamedState}
use Rattle.explain_areas.proofs.Lines.{left_are}
use Rattle.explain_areas.proofs.walks.areas_left.Goals as goal

pub returns : goal.returns
returns c = λ settings xs h.
    let is = c.storage.ensures.state ∙ ap (λ (m : NamedState). m.storage) h.present in
    left_are settings xs c.args.carried.now.lines c.storage.result.now is h.lines c.areas_with.result (λ areas. areas.items) c.areas_with.ensures
