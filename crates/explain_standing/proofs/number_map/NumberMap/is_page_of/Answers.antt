use Rattle.std.proofs.Common.{None, length, sym, ap, ◌∙◌, arith}
use Rattle.std.proofs.lemmas.Option.{slice_get_past}
use Rattle.vsm_model.specs.Search.{all_pass}
use Rattle.explain_standing.specs.NumberMaps.{in_page}
use Rattle.explain_standing.specs.NumberMaps.{same_number}
use Rattle.explain_standing.proofs.NumberMaps.{one_passes}
use Rattle.explain_standing.proofs.number_map.NumberMap.is_page_of.Goals as goal

pub returns-in-None : goal.returns-in-None
returns-in-None c =
    let a = c.args in
    let pages = a.self.now.pages.items in
    c.is_same.ensures ∙ one_passes (same_number a.number None) a.from a.count c.requires.some
    ∙ ap (λ o. all_pass (λ d. same_number a.number (in_page o d)) a.from a.count)
    (sym (slice_get_past pages a.page (omega (arith, c.in-None.ensures.lookup, ap length c.deref.ensures.value))))
