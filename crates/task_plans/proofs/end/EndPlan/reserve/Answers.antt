use Rattle.std.proofs.Common.{◌+◌, ◌≤◌, length, arith, ap, ◌∙◌}
use Rattle.std.proofs.lemmas.Result.{IfOk-weaker, IfErr-weaker}
use Rattle.vsm_elements.specs.Store.{made, live_count}
use Rattle.storage_changes.specs.Changes.{change_of, no_pages}
use Rattle.storage_swap.specs.Storage.{state_of}
use Rattle.storage_swap.specs.Builder.{builder_holds, Keeps}
use Rattle.storage_swap.specs.Reserve.{Grown}
use Rattle.storage_swap.proofs.BuilderLemmas.{begun-grown, made-reserves, makes-follow}
use Rattle.task_plans.specs.TaskPlans.{end_change, parks_all}
use Rattle.task_plans.proofs.EndRecords.{never}
use Rattle.task_plans.proofs.Reservations.{blanks_room_behind, all_used, all_live, records_room_behind}
use Rattle.storage_swap.specs.declared.storage.Parts.{Parts}
use Rattle.task_plans.proofs.end.EndPlan.reserve.Goals as goal

pub returns-in-Ok-clause-ok : goal.returns-in-Ok-clause-ok
returns-in-Ok-clause-ok c =
    let p = c.args.storage.now in
    let t = c.push_records.new.storage in
    let its = c.in-Ok.ensures in
    made-reserves p t c.finish.new.storage c.new-builder.result c.push_records.new.builder (c.new-builder.ensures.none p) c.push_records.ensures.builds c.in-Ok.blanks
    (end_change (state_of p) c.args.self) c.finish.result c.finish.ensures.ok
    (λ i. record (change_of (its.records i) (its.blanks i) no_pages) { parked = its.parked i })

pub returns-in-Ok-clause-made : goal.returns-in-Ok-clause-made
returns-in-Ok-clause-made c =
    let p = c.args.storage.now in
    let t = c.push_records.new.storage in
    let u = c.finish.new.storage in
    let d = end_change (state_of p) c.args.self in
    let parks = length (parks_all (state_of p) c.args.self.top) in
    makes-follow (made p.elements) (made t.elements) (made u.elements) (live_count p.elements) (live_count t.elements)
    (parks + length d.records) c.in-Ok.blanks (parks + (length d.records + d.blanks)) c.in-Ok.ensures.made (omega (arith, c.in-Ok.ensures.live, c.in-Ok.ensures.blanks)) (omega arith) c.finish.ensures.made

pub returns-in-Ok-clause-same_frames : goal.returns-in-Ok-clause-same_frames
returns-in-Ok-clause-same_frames c = c.finish.ensures.same_frames ∙ ap (λ (z : Parts). z.region) c.push_records.ensures.builds.keeps.same

pub returns-in-Err-clause-made : goal.returns-in-Err-clause-made
returns-in-Err-clause-made c = omega (arith, c.in-Err.ensures.made, c.discard.ensures.as_many)

pub returns-in-Err-clause-same_frames : goal.returns-in-Err-clause-same_frames
returns-in-Err-clause-same_frames c =
    ap (λ (z : Parts). z.region) c.discard.ensures.keeps.same ∙ ap (λ (z : Parts). z.region) c.push_records.ensures.builds.keeps.same

pub returns-in-Ok-clause-grown : goal.returns-in-Ok-clause-grown
returns-in-Ok-clause-grown c =
    let p = c.args.storage.now in
    let t = c.push_records.new.storage in
    let u = c.finish.new.storage in
    let b = c.push_records.new.builder in
    IfErr-weaker c.finish.result (λ _. Keeps t u (builder_holds t b) (λ i. 0)) (λ _. Grown p u)
    (λ refused back. begun-grown p t u c.new-builder.result b (c.new-builder.ensures.none p) c.push_records.ensures.builds back) c.finish.ensures.err

pub returns-in-Ok-clause-needless : goal.returns-in-Ok-clause-needless
returns-in-Ok-clause-needless c = λ h.
    let d = end_change (state_of c.args.storage.now) c.args.self in
    c.finish.ensures.needless (blanks_room_behind (length (parks_all (state_of c.args.storage.now) c.args.self.top)) (length d.records) d.blanks _ _ c.in-Ok.blanks h c.in-Ok.ensures.spare c.in-Ok.ensures.blanks)

pub returns-in-Ok-clause-uses : goal.returns-in-Ok-clause-uses
returns-in-Ok-clause-uses c =
    let d = end_change (state_of c.args.storage.now) c.args.self in
    let s = c.args.storage.now.elements.spare in
    let t = c.push_records.new.storage.elements.spare in
    let u = c.finish.new.storage.elements.spare in
    IfOk-weaker c.finish.result (λ _. t ≤ u + c.in-Ok.blanks) (λ _. s ≤ u + (length (parks_all (state_of c.args.storage.now) c.args.self.top) + (length d.records + d.blanks)))
    (λ change more. all_used (length (parks_all (state_of c.args.storage.now) c.args.self.top)) (length d.records) d.blanks s t u c.in-Ok.blanks c.in-Ok.ensures.spare c.in-Ok.ensures.blanks more) c.finish.ensures.uses

pub returns-in-Ok-clause-live : goal.returns-in-Ok-clause-live
returns-in-Ok-clause-live c =
    let d = end_change (state_of c.args.storage.now) c.args.self in
    let s = live_count c.args.storage.now.elements in
    let t = live_count c.push_records.new.storage.elements in
    let u = live_count c.finish.new.storage.elements in
    IfOk-weaker c.finish.result (λ _. u ≤ t + c.in-Ok.blanks) (λ _. u ≤ s + (length (parks_all (state_of c.args.storage.now) c.args.self.top) + (length d.records + d.blanks)))
    (λ change more. all_live (length (parks_all (state_of c.args.storage.now) c.args.self.top)) (length d.records) d.blanks s t u c.in-Ok.blanks c.in-Ok.ensures.live c.in-Ok.ensures.blanks more) c.finish.ensures.live

pub returns-in-Err-clause-grown : goal.returns-in-Err-clause-grown
returns-in-Err-clause-grown c =
    begun-grown c.args.storage.now c.push_records.new.storage c.discard.new.storage c.new-builder.result c.push_records.new.builder (c.new-builder.ensures.none c.args.storage.now)
    c.push_records.ensures.builds c.discard.ensures.keeps

pub returns-in-Err-clause-needless : goal.returns-in-Err-clause-needless
returns-in-Err-clause-needless c = λ h.
    let d = end_change (state_of c.args.storage.now) c.args.self in
    never (c.in-Err.ensures.needless (records_room_behind (length (parks_all (state_of c.args.storage.now) c.args.self.top)) (length d.records) d.blanks _ h))
