use Rattle.std.proofs.Common.{◌≡◌, Some, ◌∙◌, sym, rules}
use Rattle.storage_changes.specs.Meaning.{model_of}
use Rattle.storage_swap.specs.Storage.{state_of}
use Rattle.storage_plans.specs.Releases.{area_cause}
use Rattle.storage_plans.proofs.OwnedAreas.{is_outside, foreign_where, has_no_others, is_all_taken, is_free_in, is_missing}
use Rattle.storage_plans.proofs.GivenBack.{is_foreign_first, is_free_first, caused, has_no_cause}
use Rattle.storage_plans.proofs.release.check_area.Goals as goal

pub returns-then-not-lies_in_a_region-clause-err : goal.returns-then-not-lies_in_a_region-clause-err
returns-then-not-lies_in_a_region-clause-err c =
    let m = state_of c.args.storage.now in
    let area = c.args.area in
    let pages = c.pages_of-pages in
    is_foreign_first c.args.settings (model_of m) c.args.subpool area.start area.len
    (is_outside area pages.result c.requires.some pages.ensures.start pages.ensures.end c.args.settings m c.args.subpool
    (sym c.lies_in_a_region.ensures.value ∙ c.if-not-lies_in_a_region.true))

pub returns-then-has_others-clause-err : goal.returns-then-has_others-clause-err
returns-then-has_others-clause-err c =
    let m = state_of c.args.storage.now in
    let area = c.args.area in
    let pages = c.pages_of-pages in
    let in_region = sym c.lies_in_a_region.ensures.value ∙ c.if-not-lies_in_a_region.false in
    is_foreign_first c.args.settings (model_of m) c.args.subpool area.start area.len
    (sym (foreign_where area pages.result c.requires.some pages.ensures.start pages.ensures.end c.args.settings m c.args.subpool in_region)
    ∙ sym c.has_others.ensures ∙ c.if-has_others.true)

pub returns-then-not-has_pages-clause-err : goal.returns-then-not-has_pages-clause-err
returns-then-not-has_pages-clause-err c =
    let m = state_of c.args.storage.now in
    let area = c.args.area in
    let pages = c.pages_of-pages in
    let in_region = sym c.lies_in_a_region.ensures.value ∙ c.if-not-lies_in_a_region.false in
    is_free_first c.args.settings (model_of m) c.args.subpool area.start area.len
    (sym (foreign_where area pages.result c.requires.some pages.ensures.start pages.ensures.end c.args.settings m c.args.subpool in_region)
    ∙ sym c.has_others.ensures ∙ c.if-has_others.false)
    (is_missing area pages.result c.requires.some pages.ensures.start pages.ensures.end c.args.settings m c.args.subpool c.requires.stands.sound.sound
    (sym c.has_pages.ensures ∙ c.if-not-has_pages.true))

pub returns-in_ok-check_cells-in-Some-clause-ok : goal.returns-in_ok-check_cells-in-Some-clause-ok
returns-in_ok-check_cells-in-Some-clause-ok c =
    let m = state_of c.args.storage.now in
    let area = c.args.area in
    let pages = c.pages_of-pages in
    let in_region = sym c.lies_in_a_region.ensures.value ∙ c.if-not-lies_in_a_region.false in
    let has = sym c.has_pages.ensures ∙ c.if-not-has_pages.false in
    has_no_cause c.args.settings (model_of m) c.args.subpool area.start area.len
    (sym (foreign_where area pages.result c.requires.some pages.ensures.start pages.ensures.end c.args.settings m c.args.subpool in_region)
    ∙ has_no_others area pages.result c.requires.some pages.ensures.start pages.ensures.end c.args.settings m c.args.subpool c.requires.stands.sound.sound has)
    (is_all_taken area pages.result c.requires.some pages.ensures.start pages.ensures.end c.args.settings m c.args.subpool c.requires.stands.sound.sound has
    c.in-Some.ensures.sides.taken)
    c.in_ok-check_cells-in-Some.ensures.ok

pub returns-in_err-check_cells-in-Some-clause-err : goal.returns-in_err-check_cells-in-Some-clause-err
returns-in_err-check_cells-in-Some-clause-err c =
    let m = state_of c.args.storage.now in
    let area = c.args.area in
    let pages = c.pages_of-pages in
    let in_region = sym c.lies_in_a_region.ensures.value ∙ c.if-not-lies_in_a_region.false in
    let has = sym c.has_pages.ensures ∙ c.if-not-has_pages.false in
    let first : area_cause c.args.settings m c.args.subpool area ≡ Some c.in_err-check_cells-in-Some.field-0.0 =
    caused c.args.settings (model_of m) c.args.subpool area.start area.len c.in_err-check_cells-in-Some.field-0.0
    (sym (foreign_where area pages.result c.requires.some pages.ensures.start pages.ensures.end c.args.settings m c.args.subpool in_region)
    ∙ has_no_others area pages.result c.requires.some pages.ensures.start pages.ensures.end c.args.settings m c.args.subpool c.requires.stands.sound.sound has)
    (is_all_taken area pages.result c.requires.some pages.ensures.start pages.ensures.end c.args.settings m c.args.subpool c.requires.stands.sound.sound has
    c.in-Some.ensures.sides.taken)
    c.in_err-check_cells-in-Some.ensures.err in
    search rules

pub returns-in-None-clause-err : goal.returns-in-None-clause-err
returns-in-None-clause-err c =
    let m = state_of c.args.storage.now in
    let area = c.args.area in
    let pages = c.pages_of-pages in
    let in_region = sym c.lies_in_a_region.ensures.value ∙ c.if-not-lies_in_a_region.false in
    let has = sym c.has_pages.ensures ∙ c.if-not-has_pages.false in
    is_free_first c.args.settings (model_of m) c.args.subpool area.start area.len
    (sym (foreign_where area pages.result c.requires.some pages.ensures.start pages.ensures.end c.args.settings m c.args.subpool in_region)
    ∙ has_no_others area pages.result c.requires.some pages.ensures.start pages.ensures.end c.args.settings m c.args.subpool c.requires.stands.sound.sound has)
    (is_free_in area pages.result c.requires.some pages.ensures.start pages.ensures.end c.args.settings m c.args.subpool c.requires.stands.sound.sound has
    c.in-None.ensures.free)
