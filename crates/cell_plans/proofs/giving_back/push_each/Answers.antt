use Rattle.std.proofs.Common.{◌≡◌, ℕ, ◌+◌, ◌*◌, List, length, ap, sym, ◌∙◌, subst, arith}
use Rattle.storage_changes.specs.declared.record.Record.{Record}
use Rattle.storage_swap.specs.declared.storage.Parts.{Parts}
use Rattle.storage_swap.specs.Storage.{state_of}
use Rattle.storage_swap.specs.Growth.{MakesElements}
use Rattle.cell_plans.specs.Areas.{areas_of}
use Rattle.cell_plans.specs.CellPlans.{pool_given_back}
use Rattle.cell_plans.specs.Noted.{noted_count, BuildsBeside, PushesBeside}
use Rattle.cell_plans.proofs.AreaWalks.{AreasLead, still_can, its_subpool, pool_as_areas, areas_count, areas_given_back, areas_none, first_noted, all_came, all_counted, is_one_more, area_room, pushed_builds, note_room, noted_so, area_more, area_refused, note_refused, as_needed}
use Rattle.storage_swap.proofs.BuilderLemmas.{if-refused}
use Rattle.cell_plans.proofs.giving_back.push_each.Goals as goal

pub loop-area-init : goal.loop-area-init
loop-area-init c = areas_none _ _ _ _ c.args.areas.now c.requires.building c.requires.queue c.requires.none c.requires.owned

pub area_at-requires-clause-can : goal.area_at-requires-clause-can
area_at-requires-clause-can c = still_can c.args.storage.now c.loop-area.storage c.args.pool c.loop-area.invariant.builds.keeps.shows c.requires.can

pub push_area-requires-clause-noted : goal.push_area-requires-clause-noted
push_area-requires-clause-noted c = first_noted _ _ _ _ _ _ _ _ c.loop-area.invariant

pub returns-then-count-eq-EXTENTS_MOST-clause-builds : goal.returns-then-count-eq-EXTENTS_MOST-clause-builds
returns-then-count-eq-EXTENTS_MOST-clause-builds c = c.loop-area.invariant.builds

pub returns-then-count-eq-EXTENTS_MOST-clause-needless : goal.returns-then-count-eq-EXTENTS_MOST-clause-needless
returns-then-count-eq-EXTENTS_MOST-clause-needless c = λ room.
    let more = is_one_more _ _ _ _ _ _ _ _ c.loop-area.invariant c.in-Some.area (sym c.in-Some.ensures.area) in
    let o = (state_of c.args.storage.now).subpools.cells c.args.pool in
    absurd (omega (arith, more, room, areas_count o, c.if-count-eq-EXTENTS_MOST.true, c.spares_are_few.ensures))

pub returns-then-count-eq-EXTENTS_MOST-clause-made : goal.returns-then-count-eq-EXTENTS_MOST-clause-made
returns-then-count-eq-EXTENTS_MOST-clause-made c =
    let m = (state_of c.args.storage.now).subpools in
    let o = m.cells c.args.pool in
    let p = c.settings.result.subpool in
    let whole : areas_given_back m p (areas_of o) ≡ pool_given_back m o = pool_as_areas m p o (its_subpool _ o c.settings.result (c.cell_pools-pools.ensures.pools c.args.pool) c.settings.ensures) in
    subst (MakesElements c.args.storage.now.elements c.loop-area.storage.elements) (as_needed (ap length whole) (areas_count o)) c.loop-area.invariant.made

pub returns-in_err-push_area-clause-made : goal.returns-in_err-push_area-clause-made
returns-in_err-push_area-clause-made c =
    let m = (state_of c.args.storage.now).subpools in
    let o = m.cells c.args.pool in
    let p = c.settings.result.subpool in
    let whole : areas_given_back m p (areas_of o) ≡ pool_given_back m o = pool_as_areas m p o (its_subpool _ o c.settings.result (c.cell_pools-pools.ensures.pools c.args.pool) c.settings.ensures) in
    if-refused _ c.from_residual.result
    (subst (MakesElements c.args.storage.now.elements c.push_area.new.storage.elements) (as_needed (ap length whole) (areas_count o))
    (area_refused _ _ _ _ _ _ _ _ c.loop-area.invariant c.in-Some.area (sym c.in-Some.ensures.area) c.push_area.new.storage.elements c.in_err-push_area.ensures.made))

pub returns-in_err-note-clause-made : goal.returns-in_err-note-clause-made
returns-in_err-note-clause-made c =
    let m = (state_of c.args.storage.now).subpools in
    let o = m.cells c.args.pool in
    let p = c.settings.result.subpool in
    let whole : areas_given_back m p (areas_of o) ≡ pool_given_back m o = pool_as_areas m p o (its_subpool _ o c.settings.result (c.cell_pools-pools.ensures.pools c.args.pool) c.settings.ensures) in
    if-refused _ c.from_residual-in_err-note.result
    (subst (MakesElements c.args.storage.now.elements c.note.new.storage.elements) (as_needed (ap length whole) (areas_count o))
    (note_refused _ _ _ _ _ _ _ _ c.loop-area.invariant c.in-Some.area (sym c.in-Some.ensures.area) c.push_area.new.storage c.push_area.new.builder c.push_area.ensures.builds
    c.in_ok-push_area.ensures.ok c.note.new.storage.elements c.in_err-note.ensures.made))

pub returns-in_err-push_area-clause-builds : goal.returns-in_err-push_area-clause-builds
returns-in_err-push_area-clause-builds c =
    pushed_builds _ _ _ _ _ _ _ _ c.loop-area.invariant c.in-Some.area (sym c.in-Some.ensures.area) c.push_area.new.storage c.push_area.new.builder c.push_area.ensures.builds

pub returns-in_err-push_area-clause-needless : goal.returns-in_err-push_area-clause-needless
returns-in_err-push_area-clause-needless c = λ room.
    let m = (state_of c.args.storage.now).subpools in
    let o = m.cells c.args.pool in
    let p = c.settings.result.subpool in
    let whole : areas_given_back m p (areas_of o) ≡ pool_given_back m o = pool_as_areas m p o (its_subpool _ o c.settings.result (c.cell_pools-pools.ensures.pools c.args.pool) c.settings.ensures) in
    absurd (cc (c.in_err-push_area.ensures.needless
    (area_room _ _ _ _ _ _ _ _ c.loop-area.invariant c.in-Some.area (sym c.in-Some.ensures.area) (omega (arith, room, ap length whole, areas_count o)))))

pub note-requires-clause-queue : goal.note-requires-clause-queue
note-requires-clause-queue c =
    (pushed_builds _ _ _ _ _ _ _ _ c.loop-area.invariant c.in-Some.area (sym c.in-Some.ensures.area) c.push_area.new.storage c.push_area.new.builder c.push_area.ensures.builds).beside.queue

pub returns-in_err-note-clause-builds : goal.returns-in_err-note-clause-builds
returns-in_err-note-clause-builds c =
    let P : Parts → Type 0 = λ t. BuildsBeside c.args.storage.now c.args.builder.now t c.push_area.new.builder c.note.new.noted in
    subst P (sym c.note.ensures.same)
    (noted_so _ _ _ _ _ _ _ _ c.loop-area.invariant c.in-Some.area (sym c.in-Some.ensures.area) c.push_area.new.storage c.push_area.new.builder c.push_area.ensures.builds
    c.in_ok-push_area.ensures.ok c.note.new.storage.elements c.note.new.noted c.note.ensures.queue c.note.ensures.moves c.note.ensures.aside)

pub returns-in_err-note-clause-needless : goal.returns-in_err-note-clause-needless
returns-in_err-note-clause-needless c = λ room.
    let m = (state_of c.args.storage.now).subpools in
    let o = m.cells c.args.pool in
    let p = c.settings.result.subpool in
    let whole : areas_given_back m p (areas_of o) ≡ pool_given_back m o = pool_as_areas m p o (its_subpool _ o c.settings.result (c.cell_pools-pools.ensures.pools c.args.pool) c.settings.ensures) in
    absurd (cc (c.in_err-note.ensures.needless
    (note_room _ _ _ _ _ _ _ _ c.loop-area.invariant c.in-Some.area (sym c.in-Some.ensures.area) c.push_area.new.storage c.push_area.new.builder c.push_area.ensures.builds c.in_ok-push_area.ensures.ok
    (omega (arith, room, ap length whole, areas_count o)))))

pub loop-area-smaller : goal.loop-area-smaller
loop-area-smaller c =
    let more = is_one_more _ _ _ _ _ _ _ _ c.loop-area.invariant c.in-Some.area (sym c.in-Some.ensures.area) in
    omega (arith, more)

pub loop-area-preserved : goal.loop-area-preserved
loop-area-preserved c =
    let P : Parts → Type 0 = λ t. AreasLead c.settings.result.subpool c.args.pool c.args.storage.now c.args.builder.now t c.push_area.new.builder (c.loop-area.count + 1) c.note.new.noted in
    subst P (sym c.note.ensures.same)
    (area_more _ _ _ _ _ _ _ _ c.loop-area.invariant c.in-Some.area (sym c.in-Some.ensures.area) c.push_area.new.storage c.push_area.new.builder c.push_area.ensures.builds
    c.in_ok-push_area.ensures.ok c.note.new.storage.elements c.note.new.noted c.note.ensures.queue c.note.ensures.moves c.note.ensures.aside
    (omega (arith, c.loop-area.invariant.few, c.if-count-eq-EXTENTS_MOST.false)) c.in_ok-note.ensures.set c.in_ok-note.ensures.one)

pub returns-clause-ok : goal.returns-clause-ok
returns-clause-ok c =
    let m = (state_of c.args.storage.now).subpools in
    let o = m.cells c.args.pool in
    let p = c.settings.result.subpool in
    let whole : areas_given_back m p (areas_of o) ≡ pool_given_back m o = pool_as_areas m p o (its_subpool _ o c.settings.result (c.cell_pools-pools.ensures.pools c.args.pool) c.settings.ensures) in
    let P : List Record → ℕ → Type 0 = λ rs n. PushesBeside c.args.storage.now c.args.builder.now rs (noted_count c.loop-area.storage c.loop-area.areas) (4 * n + 1) c.loop-area.storage c.loop-area.builder in
    subst (λ n. P (pool_given_back m o) n) (areas_count o) (subst (λ rs. P rs (length (areas_of o))) whole (all_came _ _ _ _ _ _ _ _ c.loop-area.invariant (sym c.in_default.ensures.area)))

pub returns-clause-count : goal.returns-clause-count
returns-clause-count c =
    let o = (state_of c.args.storage.now).subpools.cells c.args.pool in
    all_counted _ _ _ _ _ _ _ _ c.loop-area.invariant (sym c.in_default.ensures.area) ∙ areas_count o
