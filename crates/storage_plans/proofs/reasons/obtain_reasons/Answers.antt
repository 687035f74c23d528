use Rattle.std.proofs.Common.{◌≡◌, ◌∙◌, ap, arith, max, min}
use Rattle.std.proofs.lemmas.Grind.{common_steps}
use Rattle.vsm_model.specs.Regions.{doublewords}
use Rattle.vsm_model.specs.Services.{maximum, minimum}
use Rattle.vsm_model.specs.Obtaining.{place_for}
use Rattle.storage_changes.specs.Meaning.{model_of}
use Rattle.storage_swap.specs.Storage.{state_of}
use Rattle.storage_plans.proofs.AskedLengths.{count_given, none_just_where, place_is, up_to_for}
use Rattle.storage_plans.proofs.reasons.obtain_reasons.Goals as goal

pub returns-clause-count : goal.returns-clause-count
returns-clause-count c =
    let s = model_of (state_of c.args.storage.now) in
    let o = c.args.o in
    let top = c.longest_place-top.result in
    let count : c.max-count.result ≡ max (min top (doublewords (maximum o.lengths))) (doublewords (minimum o.lengths)) = grind (arith, common_steps) in
    count
    ∙ count_given c.args.settings s o top c.requires.some c.requires.ordered
    (up_to_for c.args.settings s o c.side_of-side.result c.args.subpool c.spacing_of-spacing.result top
    c.side_of-side.ensures c.requires.subpool c.spacing_of-spacing.ensures.value c.longest_place-top.ensures)

pub returns-clause-place : goal.returns-clause-place
returns-clause-place c =
    let s = model_of (state_of c.args.storage.now) in
    c.reasons-sides.ensures.place
    ∙ place_is c.args.settings s c.args.o c.side_of-side.result c.args.subpool c.spacing_of-spacing.result c.side_of-side.ensures c.requires.subpool c.spacing_of-spacing.ensures.value c.max-count.result

pub returns-clause-none : goal.returns-clause-none
returns-clause-none c =
    let s = model_of (state_of c.args.storage.now) in
    let o = c.args.o in
    let top = c.longest_place-top.result in
    let count : c.max-count.result ≡ max (min top (doublewords (maximum o.lengths))) (doublewords (minimum o.lengths)) = grind (arith, common_steps) in
    none_just_where c.args.settings s o top c.requires.some c.requires.ordered
    (up_to_for c.args.settings s o c.side_of-side.result c.args.subpool c.spacing_of-spacing.result top
    c.side_of-side.ensures c.requires.subpool c.spacing_of-spacing.ensures.value c.longest_place-top.ensures)
    _ (returns-clause-place c ∙ ap (place_for c.args.settings s o) count)
