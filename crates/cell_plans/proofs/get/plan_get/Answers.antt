use Rattle.std.proofs.Common.{◌≡◌, sym, ap, ◌∙◌, slice_get, arith}
use Rattle.std.specs.Prelude.{drop}
use Rattle.vsm_model.specs.Areas.{is_nowhere}
use Rattle.cell_pool.specs.CellPools.{by_id}
use Rattle.storage_swap.specs.Storage.{state_of}
use Rattle.storage_plans.specs.Places.{place_of}
use Rattle.cell_plans.proofs.HandedOut.{address_is_word, cells_fit, first_is, first_planned, four_planned, further_planned, get_full, get_nowhere, none_is, place_at}
use Rattle.cell_plans.proofs.SeenPools.{fact_of, some_there}
use Rattle.cell_plans.proofs.get.plan_get.Goals as goal

pub returns-then-names_full : goal.returns-then-names_full
returns-then-names_full c =
    let m = state_of c.args.storage.now in
    let id = c.in_ok-id.id in
    let (p, there) = some_there (m.subpools.cells id) c.in_ok-id.ensures.there in
    get_full c.args.settings c.args.names_full m c.args.name.now c.args.g id p (c.in_ok-id.ensures.seen p there) c.if-names_full.true

pub returns-in-Some : goal.returns-in-Some
returns-in-Some c =
    let storage = c.args.storage.now in
    let m = state_of storage in
    let id = c.in_ok-id.id in
    let pools = c.cell_pools-pools in
    let plan = c.plan_cell in
    let (p, there) = some_there (m.subpools.cells id) c.in_ok-id.ensures.there in
    let first = fact_of (λ p. c.first_free.result ≡ slice_get p.cells 0) (by_id storage.elements pools.result id) p (pools.ensures.pools id ∙ there) c.first_free.ensures in
    first_planned c.args.settings c.args.names_full m c.args.name.now c.args.g id p (c.in_ok-id.ensures.seen p there)
    c.in-Some.cell (drop 1 p.cells) (first_is p.cells c.in-Some.cell (sym c.in-Some.is ∙ first))
    c.handing_out_leads.ensures c.cell_pools_stay_well_formed.ensures.get
    (c.cell_pools_are_named.ensures storage.elements storage.subpools c.requires.sound.stands.subpools) c.requires.valid c.requires.register c.requires.sound.sound c.if-names_full.false
    plan.result plan.ensures.emptied plan.ensures.records plan.ensures.blanks plan.ensures.fresh plan.ensures.reply

pub returns-then-g : goal.returns-then-g
returns-then-g c =
    let storage = c.args.storage.now in
    let m = state_of storage in
    let id = c.in_ok-id.id in
    let pools = c.cell_pools-pools in
    let plan = c.answer_four in
    let (p, there) = some_there (m.subpools.cells id) c.in_ok-id.ensures.there in
    let first = fact_of (λ p. c.first_free.result ≡ slice_get p.cells 0) (by_id storage.elements pools.result id) p (pools.ensures.pools id ∙ there) c.first_free.ensures in
    four_planned c.args.settings c.args.names_full m c.args.name.now c.args.g id p (c.in_ok-id.ensures.seen p there)
    c.requires.sound.sound c.if-names_full.false (none_is p.cells (sym c.in_default.is ∙ first)) c.if-g.true
    plan.result plan.ensures.emptied plan.ensures.records plan.ensures.blanks plan.ensures.fresh plan.ensures.reply

pub extent_doublewords-count-requires : goal.extent_doublewords-count-requires
extent_doublewords-count-requires c =
    let storage = c.args.storage.now in
    let m = state_of storage in
    let id = c.in_ok-id.id in
    let pools = c.cell_pools-pools in
    let cells = c.settings-cells in
    let (p, there) = some_there (m.subpools.cells id) c.in_ok-id.ensures.there in
    let are = fact_of (λ p. cells.result ≡ p.settings) (by_id storage.elements pools.result id) p (pools.ensures.pools id ∙ there) cells.ensures in
    let fit = cells_fit c.args.settings c.args.names_full m c.args.name.now c.args.g id p (c.in_ok-id.ensures.seen p there) cells.result are c.requires.sound.sound in
    let few = fit.2 in
    omega (arith, few)

pub area_place-requires-clause-asked : goal.area_place-requires-clause-asked
area_place-requires-clause-asked c =
    let storage = c.args.storage.now in
    let m = state_of storage in
    let id = c.in_ok-id.id in
    let pools = c.cell_pools-pools in
    let cells = c.settings-cells in
    let (p, there) = some_there (m.subpools.cells id) c.in_ok-id.ensures.there in
    let are = fact_of (λ p. cells.result ≡ p.settings) (by_id storage.elements pools.result id) p (pools.ensures.pools id ∙ there) cells.ensures in
    let fit = cells_fit c.args.settings c.args.names_full m c.args.name.now c.args.g id p (c.in_ok-id.ensures.seen p there) cells.result are c.requires.sound.sound in
    let some = fit.1 in
    let few = fit.2 in
    let count = c.extent_doublewords-count.ensures in
    (omega (arith, count, some), omega (arith, count, few), omega arith, omega arith)

pub plan_further-requires-clause-can : goal.plan_further-requires-clause-can
plan_further-requires-clause-can c =
    let storage = c.args.storage.now in
    let m = state_of storage in
    let id = c.in_ok-id.id in
    let pools = c.cell_pools-pools in
    let cells = c.settings-cells in
    let to = c.in-Some-area_place in
    let (p, there) = some_there (m.subpools.cells id) c.in_ok-id.ensures.there in
    let are = fact_of (λ p. cells.result ≡ p.settings) (by_id storage.elements pools.result id) p (pools.ensures.pools id ∙ there) cells.ensures in
    let seen = c.in_ok-id.ensures.seen p there in
    let fit = cells_fit c.args.settings c.args.names_full m c.args.name.now c.args.g id p seen cells.result are c.requires.sound.sound in
    let at = place_at c.args.settings c.args.names_full m c.args.name.now c.args.g id p seen cells.result are c.extent_doublewords-count.result c.extent_doublewords-count.ensures
    c.area_place.result c.area_place.ensures in
    record {
      count = fit.0;
      size = (fit.1, fit.2);
      address = address_is_word c.args.settings c.args.names_full m c.args.name.now c.args.g id p seen c.requires.valid c.requires.sound.sound to.place (ap place_of (sym to.is) ∙ at);
    }

pub returns-in-Some-area_place : goal.returns-in-Some-area_place
returns-in-Some-area_place c =
    let storage = c.args.storage.now in
    let m = state_of storage in
    let id = c.in_ok-id.id in
    let pools = c.cell_pools-pools in
    let cells = c.settings-cells in
    let to = c.in-Some-area_place in
    let plan = c.plan_further in
    let (p, there) = some_there (m.subpools.cells id) c.in_ok-id.ensures.there in
    let its = pools.ensures.pools id ∙ there in
    let are = fact_of (λ p. cells.result ≡ p.settings) (by_id storage.elements pools.result id) p its cells.ensures in
    let first = fact_of (λ p. c.first_free.result ≡ slice_get p.cells 0) (by_id storage.elements pools.result id) p its c.first_free.ensures in
    let seen = c.in_ok-id.ensures.seen p there in
    let at = place_at c.args.settings c.args.names_full m c.args.name.now c.args.g id p seen cells.result are c.extent_doublewords-count.result c.extent_doublewords-count.ensures
    c.area_place.result c.area_place.ensures in
    further_planned c.args.settings c.args.names_full m c.args.name.now c.args.g id p seen
    (none_is p.cells (sym c.in_default.is ∙ first)) c.if-g.false to.place (ap place_of (sym to.is) ∙ at) c.requires.sound.sound
    c.extending_leads.ensures c.cell_pools_stay_well_formed.ensures.get
    (c.cell_pools_are_named.ensures storage.elements storage.subpools c.requires.sound.stands.subpools) c.requires.valid c.requires.register c.if-names_full.false
    cells.result are plan.result plan.ensures.emptied plan.ensures.records plan.ensures.blanks plan.ensures.fresh plan.ensures.reply

pub returns-in-None : goal.returns-in-None
returns-in-None c =
    let storage = c.args.storage.now in
    let m = state_of storage in
    let id = c.in_ok-id.id in
    let pools = c.cell_pools-pools in
    let cells = c.settings-cells in
    let (p, there) = some_there (m.subpools.cells id) c.in_ok-id.ensures.there in
    let its = pools.ensures.pools id ∙ there in
    let are = fact_of (λ p. cells.result ≡ p.settings) (by_id storage.elements pools.result id) p its cells.ensures in
    let first = fact_of (λ p. c.first_free.result ≡ slice_get p.cells 0) (by_id storage.elements pools.result id) p its c.first_free.ensures in
    let seen = c.in_ok-id.ensures.seen p there in
    let at = place_at c.args.settings c.args.names_full m c.args.name.now c.args.g id p seen cells.result are c.extent_doublewords-count.result c.extent_doublewords-count.ensures
    c.area_place.result c.area_place.ensures in
    get_nowhere c.args.settings c.args.names_full m c.args.name.now c.args.g id p seen c.if-names_full.false (none_is p.cells (sym c.in_default.is ∙ first)) c.if-g.false
    (ap is_nowhere (sym at) ∙ ap (λ o. is_nowhere (place_of o)) c.in-None.is)
