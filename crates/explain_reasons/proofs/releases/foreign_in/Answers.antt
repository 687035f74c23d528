use Rattle.std.proofs.Common.{ℕ, Option, ap, ◌∙◌}
use Rattle.std.specs.Prelude.{unwrap_or}
use Rattle.vsm_model.specs.Releasing.{is_foreign}
use Rattle.vsm_model.specs.Search.{least}
use Rattle.vsm_model.proofs.Least.{least_by}
use Rattle.storage_core.specs.Meaning.{settings_of, state_of}
use Rattle.explain_reasons.proofs.releases.foreign_in.Goals as goal

pub returns : goal.returns
returns c =
    let s = c.args.storage.now in
    let f = is_foreign (settings_of s) (state_of s) c.args.subpool in
    let area = c.area_of-area in
    c.unwrap_or.ensures
    ∙ ap (λ (o : Option ℕ). unwrap_or o area.result.start) (least_by f area.result.start area.result.len c.first_foreign.result c.first_foreign.ensures)
    ∙ (λ i. unwrap_or (least f (area.ensures.start i) (area.ensures.len i)) (area.ensures.start i))
