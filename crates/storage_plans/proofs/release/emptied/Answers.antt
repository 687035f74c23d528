use Rattle.std.proofs.Common.{◌≡◌, ◌+◌, ◌-◌, ◌*◌, ◌/◌, ◌∙◌, refl, ap, arith, rules}
use Rattle.vsm_model.specs.Search.{all_pass}
use Rattle.vsm_model.specs.Regions.{pages_for}
use Rattle.storage_plans.proofs.FreeSides.{free_before, free_after}
use Rattle.storage_plans.proofs.release.emptied.Goals as goal

pub returns-clause-value : goal.returns-clause-value
returns-clause-value c m p h =
    let area = c.args.area in
    let pages = c.pages_of-pages in
    let end = area.start + area.len in
    let front : c.is_part-keeps_first.result ≡ all_pass (m.free p) (512 * (area.start / 512)) (area.start - 512 * (area.start / 512)) =
    c.is_part-keeps_first.ensures
    ∙ free_before (m.free p) area c.args.sides h (512 * pages.result.start) (area.start - 512 * pages.result.start) (omega (arith, pages.ensures.start))
    ∙ ap (λ page. all_pass (m.free p) (512 * page) (area.start - 512 * page)) pages.ensures.start in
    let back : c.is_part-keeps_last.result ≡ all_pass (m.free p) end (512 * pages_for end - end) =
    c.is_part-keeps_last.ensures
    ∙ free_after (m.free p) area c.args.sides h end (512 * (pages.result.start + pages.result.len) - end) refl
    ∙ ap (λ past. all_pass (m.free p) end (512 * past - end)) pages.ensures.end in
    search rules
