use Rattle.std.proofs.Common.{ℕ, ◌+◌, ◌*◌, List, refl, ◌∙◌, subst, arith, length}
use Rattle.storage_changes.specs.declared.record.Record.{Record}
use Rattle.storage_swap.specs.Storage.{state_of}
use Rattle.storage_swap.proofs.BuilderLemmas.{builds-follow, refused-made, if-refused}
use Rattle.cell_plans.specs.CellPlans.{delete_change, extents_of_pool, extents_need}
use Rattle.cell_plans.specs.Noted.{PushesBeside}
use Rattle.cell_plans.proofs.AreaWalks.{still_can, pushed-before, pushed-behind}
use Rattle.cell_plans.proofs.DeletePlans.{found_pool, last, records_are, blanks_are, all_counted}
use Rattle.cell_plans.proofs.delete.DeletePlan.push_records.Goals as goal

pub push_extents-requires-clause-can : goal.push_extents-requires-clause-can
push_extents-requires-clause-can c = still_can c.args.storage.now c.push.new.storage c.args.self.pool c.push.ensures.builds.keeps.shows c.requires.can

pub returns-in_err-extents-clause-builds : goal.returns-in_err-extents-clause-builds
returns-in_err-extents-clause-builds c = builds-follow _ _ _ _ _ _ c.push.ensures.builds c.push_extents.ensures.builds

pub returns-in_err-push_return-clause-builds : goal.returns-in_err-push_return-clause-builds
returns-in_err-push_return-clause-builds c = builds-follow _ _ _ _ _ _ (builds-follow _ _ _ _ _ _ c.push.ensures.builds c.push_extents.ensures.builds) c.push_return.ensures.builds

pub returns-clause-builds : goal.returns-clause-builds
returns-clause-builds c = builds-follow _ _ _ _ _ _ (builds-follow _ _ _ _ _ _ c.push.ensures.builds c.push_extents.ensures.builds) c.push_return.ensures.builds

pub returns-in_err-extents-clause-needless : goal.returns-in_err-extents-clause-needless
returns-in_err-extents-clause-needless c = λ room.
    let storage = c.args.storage.now in
    let m = state_of storage in
    let u = state_of c.push.new.storage in
    let same = c.push.ensures.builds.keeps.shows in
    let id = c.args.self.pool in
    let found = found_pool (m.subpools.cells id) c.requires.can.there in
    let own = (c.cell_pools_are_named.ensures storage.elements storage.subpools c.requires.building.ready.stands.storage.subpools).ids id found.0 found.1 in
    let counted = all_counted m u same id found.0 found.1 own u same m.tasks.current refl in
    let blanks = blanks_are m u same id found.0 found.1 own _ refl in
    absurd (cc (c.in_err-extents.ensures.needless (omega (arith, room, counted, blanks, c.in_ok-push.ensures.ok.spare))))

pub returns-in_err-push_return-clause-needless : goal.returns-in_err-push_return-clause-needless
returns-in_err-push_return-clause-needless c = λ room.
    let storage = c.args.storage.now in
    let m = state_of storage in
    let u = state_of c.push.new.storage in
    let same = c.push.ensures.builds.keeps.shows in
    let id = c.args.self.pool in
    let found = found_pool (m.subpools.cells id) c.requires.can.there in
    let own = (c.cell_pools_are_named.ensures storage.elements storage.subpools c.requires.building.ready.stands.storage.subpools).ids id found.0 found.1 in
    let counted = all_counted m u same id found.0 found.1 own (state_of c.push_extents.new.storage) (c.push_extents.ensures.builds.keeps.shows ∙ same) c.current-current.result c.current-current.ensures in
    absurd (cc (c.in_err-push_return.ensures.needless (omega (arith, room, counted, c.in_ok-push.ensures.ok.spare, c.in_ok-extents.ensures.ok.spare))))

pub returns-in_err-push-clause-made : goal.returns-in_err-push-clause-made
returns-in_err-push-clause-made c =
    let storage = c.args.storage.now in
    let m = state_of storage in
    let d = delete_change m c.args.self in
    let id = c.args.self.pool in
    let found = found_pool (m.subpools.cells id) c.requires.can.there in
    let own = (c.cell_pools_are_named.ensures storage.elements storage.subpools c.requires.building.ready.stands.storage.subpools).ids id found.0 found.1 in
    let counted = all_counted m m refl id found.0 found.1 own m refl m.tasks.current refl in
    if-refused _ c.from_residual.result
    (refused-made storage.elements storage.elements c.push.new.storage.elements 0 1 (length d.records + d.blanks) (omega arith) (omega arith) (omega (arith, counted)) c.in_err-push.ensures.made)

pub returns-in_err-extents-clause-made : goal.returns-in_err-extents-clause-made
returns-in_err-extents-clause-made c =
    let storage = c.args.storage.now in
    let m = state_of storage in
    let d = delete_change m c.args.self in
    let u = state_of c.push.new.storage in
    let same = c.push.ensures.builds.keeps.shows in
    let id = c.args.self.pool in
    let found = found_pool (m.subpools.cells id) c.requires.can.there in
    let own = (c.cell_pools_are_named.ensures storage.elements storage.subpools c.requires.building.ready.stands.storage.subpools).ids id found.0 found.1 in
    let counted = all_counted m u same id found.0 found.1 own u same m.tasks.current refl in
    let blanks = blanks_are m u same id found.0 found.1 own _ refl in
    if-refused _ c.from_residual-in_err-extents.result
    (refused-made storage.elements c.push.new.storage.elements c.push_extents.new.storage.elements 1 (extents_need u id) (length d.records + d.blanks) c.in_ok-push.ensures.ok.made c.in_ok-push.ensures.ok.live
    (omega (arith, counted, blanks)) c.in_err-extents.ensures.made)

pub returns-in_err-push_return-clause-made : goal.returns-in_err-push_return-clause-made
returns-in_err-push_return-clause-made c =
    let storage = c.args.storage.now in
    let m = state_of storage in
    let d = delete_change m c.args.self in
    let t = c.push.new.storage in
    let u = state_of t in
    let v = c.push_extents.new.storage in
    let same = c.push.ensures.builds.keeps.shows in
    let id = c.args.self.pool in
    let found = found_pool (m.subpools.cells id) c.requires.can.there in
    let own = (c.cell_pools_are_named.ensures storage.elements storage.subpools c.requires.building.ready.stands.storage.subpools).ids id found.0 found.1 in
    let counted = all_counted m u same id found.0 found.1 own (state_of c.push_extents.new.storage) (c.push_extents.ensures.builds.keeps.shows ∙ same) c.current-current.result c.current-current.ensures in
    let blanks = blanks_are m u same id found.0 found.1 own _ refl in
    let before = pushed-before _ _ _ _ _ _ _ _ _ c.in_ok-push.ensures.ok c.in_ok-extents.ensures.ok in
    if-refused _ c.from_residual-in_err-push_return.result
    (refused-made storage.elements v.elements c.push_return.new.storage.elements (extents_need u id + 1) (length (last (state_of v) c.current-current.result)) (length d.records + d.blanks) (omega (arith, before.made)) (omega (arith, before.live))
    (omega (arith, counted, blanks)) c.in_err-push_return.ensures.made)

pub returns-clause-ok : goal.returns-clause-ok
returns-clause-ok c =
    let storage = c.args.storage.now in
    let m = state_of storage in
    let u = state_of c.push.new.storage in
    let same = c.push.ensures.builds.keeps.shows in
    let id = c.args.self.pool in
    let found = found_pool (m.subpools.cells id) c.requires.can.there in
    let own = (c.cell_pools_are_named.ensures storage.elements storage.subpools c.requires.building.ready.stands.storage.subpools).ids id found.0 found.1 in
    let P : List Record → ℕ → Type 0 = λ rs n. PushesBeside storage c.args.builder.now rs 0 n c.push_return.new.storage c.push_return.new.self in
    subst (P (delete_change m c.args.self).records) (blanks_are m u same id found.0 found.1 own _ refl)
    (subst (λ rs. P rs (4 * extents_of_pool (u.subpools.cells id) + 1)) (records_are m u same id found.0 found.1 own (state_of c.push_extents.new.storage) (c.push_extents.ensures.builds.keeps.shows ∙ same)
    c.current-current.result c.current-current.ensures)
    (pushed-behind _ _ _ _ _ _ _ _ _ (pushed-before _ _ _ _ _ _ _ _ _ c.in_ok-push.ensures.ok c.in_ok-extents.ensures.ok) c.in_ok-push_return.ensures.ok))

pub returns-clause-blanks : goal.returns-clause-blanks
returns-clause-blanks c =
    let storage = c.args.storage.now in
    let m = state_of storage in
    let u = state_of c.push.new.storage in
    let id = c.args.self.pool in
    let found = found_pool (m.subpools.cells id) c.requires.can.there in
    let own = (c.cell_pools_are_named.ensures storage.elements storage.subpools c.requires.building.ready.stands.storage.subpools).ids id found.0 found.1 in
    blanks_are m u c.push.ensures.builds.keeps.shows id found.0 found.1 own c.in_ok-extents.extents c.in_ok-extents.ensures.count
