use Rattle.std.proofs.Common.{◌≡◌, ◌∙◌, Option, Some, sym, ap, subst, ℕ, ◌/◌, arith}
use Rattle.std.specs.Prelude.{option_map, slice_get, IfSome}
use Rattle.run_set.specs.Runs.{Run}
use Rattle.cell_pool.specs.Pools.{Pool}
use Rattle.storage_swap.specs.Storage.{state_of}
use Rattle.cell_plans.specs.Emptied.{area_of}
use Rattle.cell_plans.proofs.GivenAreas.{EndsLow, area_there, ends_there}
use Rattle.cell_plans.proofs.areas.area_at.Goals as goal

pub extent_doublewords-requires : goal.extent_doublewords-requires
extent_doublewords-requires c =
    let found = c.cell_pools-pools.ensures.pools c.args.pool in
    let S : Option Pool → Type 0 = λ o. IfSome o (λ (p : Pool). c.settings-size.result ≡ p.settings) in
    let X : Option Pool → Type 0 = λ o. IfSome o (λ (p : Pool). c.extent_at.result ≡ slice_get p.extents c.args.number) in
    (ends_there ((state_of c.args.storage.now).subpools.cells c.args.pool) c.requires.can.there c.settings-size.result (subst S found c.settings-size.ensures) c.extent_at.result c.args.number (subst X found c.extent_at.ensures) c.requires.can.extents c.in-Some.extent c.in-Some.is).1

pub returns-in-Some-clause-area : goal.returns-in-Some-clause-area
returns-in-Some-clause-area c =
    let found = c.cell_pools-pools.ensures.pools c.args.pool in
    let S : Option Pool → Type 0 = λ o. IfSome o (λ (p : Pool). c.settings-size.result ≡ p.settings) in
    let X : Option Pool → Type 0 = λ o. IfSome o (λ (p : Pool). c.extent_at.result ≡ slice_get p.extents c.args.number) in
    ap (λ (n : ℕ). Some (record { start = c.in-Some.extent.start / 8; len = n })) c.extent_doublewords.ensures
    ∙ sym (area_there ((state_of c.args.storage.now).subpools.cells c.args.pool) c.requires.can.there c.settings-size.result (subst S found c.settings-size.ensures) c.extent_at.result c.args.number (subst X found c.extent_at.ensures)
    ∙ ap (option_map (area_of c.settings-size.result.size)) c.in-Some.is)

pub returns-in-Some-clause-low : goal.returns-in-Some-clause-low
returns-in-Some-clause-low c =
    let found = c.cell_pools-pools.ensures.pools c.args.pool in
    let S : Option Pool → Type 0 = λ o. IfSome o (λ (p : Pool). c.settings-size.result ≡ p.settings) in
    let X : Option Pool → Type 0 = λ o. IfSome o (λ (p : Pool). c.extent_at.result ≡ slice_get p.extents c.args.number) in
    let low = ends_there ((state_of c.args.storage.now).subpools.cells c.args.pool) c.requires.can.there c.settings-size.result (subst S found c.settings-size.ensures) c.extent_at.result c.args.number (subst X found c.extent_at.ensures) c.requires.can.extents c.in-Some.extent c.in-Some.is in
    (omega (arith, low.0, c.extent_doublewords.ensures), omega (arith, low.2, c.extent_doublewords.ensures))

pub returns-in-None-clause-area : goal.returns-in-None-clause-area
returns-in-None-clause-area c =
    let found = c.cell_pools-pools.ensures.pools c.args.pool in
    let S : Option Pool → Type 0 = λ o. IfSome o (λ (p : Pool). c.settings-size.result ≡ p.settings) in
    let X : Option Pool → Type 0 = λ o. IfSome o (λ (p : Pool). c.extent_at.result ≡ slice_get p.extents c.args.number) in
    sym (area_there ((state_of c.args.storage.now).subpools.cells c.args.pool) c.requires.can.there c.settings-size.result (subst S found c.settings-size.ensures) c.extent_at.result c.args.number (subst X found c.extent_at.ensures)
    ∙ ap (option_map (area_of c.settings-size.result.size)) c.in-None.is)
