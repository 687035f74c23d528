use Rattle.std.proofs.Common.{◌≡◌, ◌<◌, ◌≤◌, ◌∙◌, ap, is_some, arith}
use Rattle.std.proofs.lemmas.Grind.{common_steps}
use Rattle.vsm_model.specs.Regions.{doublewords}
use Rattle.vsm_model.specs.Services.{minimum, maximum}
use Rattle.storage_changes.specs.Meaning.{model_of}
use Rattle.storage_swap.specs.Storage.{state_of}
use Rattle.storage_plans.proofs.AskedLengths.{has_place, longest_is, longest_is_most, longest_none, up_to_for}
use Rattle.storage_plans.proofs.areas.find_place.Goals as goal

pub returns-in-Some-clause-count : goal.returns-in-Some-clause-count
returns-in-Some-clause-count c =
    let s = model_of (state_of c.args.storage.now) in
    let o = c.args.o in
    let most : c.div_ceil-most.result ≡ doublewords (maximum o.lengths) = grind (arith, common_steps) in
    longest_is_most c.args.settings s o c.div_ceil-most.result most c.requires.ordered
    (has_place c.args.settings s o c.side_of-side.result c.args.subpool c.spacing_of-spacing.result c.side_of-side.ensures c.requires.subpool c.spacing_of-spacing.ensures.value
    c.div_ceil-most.result c.area_place.result c.area_place.ensures ∙ ap is_some c.in-Some.is)

pub returns-then-count-least-clause-none : goal.returns-then-count-least-clause-none
returns-then-count-least-clause-none c =
    let s = model_of (state_of c.args.storage.now) in
    let o = c.args.o in
    let most : c.div_ceil-most.result ≡ doublewords (maximum o.lengths) = grind (arith, common_steps) in
    let few : c.longest_place-count.result < doublewords (minimum o.lengths) = grind (arith, common_steps) in
    let none = has_place c.args.settings s o c.side_of-side.result c.args.subpool c.spacing_of-spacing.result c.side_of-side.ensures c.requires.subpool c.spacing_of-spacing.ensures.value
    c.div_ceil-most.result c.area_place.result c.area_place.ensures ∙ ap is_some c.in_default.is in
    let up_to = up_to_for c.args.settings s o c.side_of-side.result c.args.subpool c.spacing_of-spacing.result c.longest_place-count.result
    c.side_of-side.ensures c.requires.subpool c.spacing_of-spacing.ensures.value c.longest_place-count.ensures in
    longest_none c.args.settings s o c.div_ceil-most.result most c.requires.ordered c.longest_place-count.result c.requires.some up_to none few

pub returns-in-Some-area_place-clause-count : goal.returns-in-Some-area_place-clause-count
returns-in-Some-area_place-clause-count c =
    let s = model_of (state_of c.args.storage.now) in
    let o = c.args.o in
    let most : c.div_ceil-most.result ≡ doublewords (maximum o.lengths) = grind (arith, common_steps) in
    let enough : doublewords (minimum o.lengths) ≤ c.longest_place-count.result = grind (arith, common_steps) in
    let none = has_place c.args.settings s o c.side_of-side.result c.args.subpool c.spacing_of-spacing.result c.side_of-side.ensures c.requires.subpool c.spacing_of-spacing.ensures.value
    c.div_ceil-most.result c.area_place.result c.area_place.ensures ∙ ap is_some c.in_default.is in
    let up_to = up_to_for c.args.settings s o c.side_of-side.result c.args.subpool c.spacing_of-spacing.result c.longest_place-count.result
    c.side_of-side.ensures c.requires.subpool c.spacing_of-spacing.ensures.value c.longest_place-count.ensures in
    longest_is c.args.settings s o c.div_ceil-most.result most c.requires.ordered c.longest_place-count.result c.requires.some up_to none enough
