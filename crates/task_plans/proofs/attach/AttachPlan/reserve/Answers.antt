use Rattle.std.proofs.Common.{◌≡◌, ◌+◌, ◌≤◌, ◌++◌, List, length, ap, ◌∙◌, arith}
use Rattle.std.proofs.lemmas.Result.{IfOk-weaker, IfErr-weaker}
use Rattle.vsm_elements.specs.Store.{made, live_count}
use Rattle.subpool_storage.specs.Subpools.{no_subpools}
use Rattle.storage_changes.specs.declared.record.Record.{Record}
use Rattle.storage_changes.specs.Changes.{change_of, no_pages}
use Rattle.storage_swap.specs.Storage.{state_of}
use Rattle.storage_swap.specs.Builder.{records_in, parked_in, builder_holds, Keeps}
use Rattle.storage_swap.specs.Reserve.{Grown}
use Rattle.storage_swap.proofs.BuilderLemmas.{begun-grown, made-reserves, makes-follow}
use Rattle.task_plans.specs.TaskPlans.{attach_change}
use Rattle.task_plans.proofs.EndRecords.{never}
use Rattle.task_plans.proofs.Reservations.{blanks_room, both_used, both_live, records_room}
use Rattle.storage_swap.specs.declared.storage.Parts.{Parts}
use Rattle.task_plans.proofs.attach.AttachPlan.reserve.Goals as goal

pub returns-in-Ok-clause-ok : goal.returns-in-Ok-clause-ok
returns-in-Ok-clause-ok c =
    let p = c.args.storage.now in
    let d = attach_change (state_of p) c.args.self in
    let t = c.push_records.new.storage in
    let a = c.new-builder.result in
    let b = c.push_records.new.builder in
    let records : records_in t b ≡ d.records =
    c.in-Ok.ensures.ok.records ∙ ap (λ (rs : List Record). rs ++ d.records) (c.new-builder.ensures.records p) in
    let parked : parked_in t b ≡ no_subpools = c.in-Ok.ensures.ok.parked ∙ c.new-builder.ensures.parked p in
    made-reserves p t c.finish.new.storage a b (c.new-builder.ensures.none p) c.push_records.ensures.builds c.in-Ok.blanks d c.finish.result c.finish.ensures.ok
    (λ i. record (change_of (records i) (c.in-Ok.ensures.blanks i) no_pages) { parked = parked i })

pub returns-in-Ok-clause-made : goal.returns-in-Ok-clause-made
returns-in-Ok-clause-made c =
    let p = c.args.storage.now in
    let t = c.push_records.new.storage in
    let u = c.finish.new.storage in
    let d = attach_change (state_of p) c.args.self in
    makes-follow (made p.elements) (made t.elements) (made u.elements) (live_count p.elements) (live_count t.elements)
    (length d.records) c.in-Ok.blanks (length d.records + d.blanks) c.in-Ok.ensures.ok.made (omega (arith, c.in-Ok.ensures.ok.live, c.in-Ok.ensures.blanks)) (omega arith) c.finish.ensures.made

pub returns-in-Ok-clause-same_frames : goal.returns-in-Ok-clause-same_frames
returns-in-Ok-clause-same_frames c = c.finish.ensures.same_frames ∙ ap (λ (z : Parts). z.region) c.push_records.ensures.builds.keeps.same

pub returns-in-Err-clause-made : goal.returns-in-Err-clause-made
returns-in-Err-clause-made c = omega (arith, c.in-Err.ensures.made, c.discard.ensures.as_many)

pub returns-in-Err-clause-same_frames : goal.returns-in-Err-clause-same_frames
returns-in-Err-clause-same_frames c =
    ap (λ (z : Parts). z.region) c.discard.ensures.keeps.same ∙ ap (λ (z : Parts). z.region) c.push_records.ensures.builds.keeps.same

pub returns-in-Ok-clause-grown : goal.returns-in-Ok-clause-grown
returns-in-Ok-clause-grown c =
    let p = c.args.storage.now in
    let t = c.push_records.new.storage in
    let u = c.finish.new.storage in
    let b = c.push_records.new.builder in
    IfErr-weaker c.finish.result (λ _. Keeps t u (builder_holds t b) (λ i. 0)) (λ _. Grown p u)
    (λ refused back. begun-grown p t u c.new-builder.result b (c.new-builder.ensures.none p) c.push_records.ensures.builds back) c.finish.ensures.err

pub returns-in-Ok-clause-needless : goal.returns-in-Ok-clause-needless
returns-in-Ok-clause-needless c = λ h.
    let d = attach_change (state_of c.args.storage.now) c.args.self in
    c.finish.ensures.needless (blanks_room (length d.records) d.blanks _ _ c.in-Ok.blanks h c.in-Ok.ensures.ok.spare c.in-Ok.ensures.blanks)

pub returns-in-Ok-clause-uses : goal.returns-in-Ok-clause-uses
returns-in-Ok-clause-uses c =
    let d = attach_change (state_of c.args.storage.now) c.args.self in
    let s = c.args.storage.now.elements.spare in
    let t = c.push_records.new.storage.elements.spare in
    let u = c.finish.new.storage.elements.spare in
    IfOk-weaker c.finish.result (λ _. t ≤ u + c.in-Ok.blanks) (λ _. s ≤ u + (length d.records + d.blanks))
    (λ change more. both_used (length d.records) d.blanks s t u c.in-Ok.blanks c.in-Ok.ensures.ok.spare c.in-Ok.ensures.blanks more) c.finish.ensures.uses

pub returns-in-Ok-clause-live : goal.returns-in-Ok-clause-live
returns-in-Ok-clause-live c =
    let d = attach_change (state_of c.args.storage.now) c.args.self in
    let s = live_count c.args.storage.now.elements in
    let t = live_count c.push_records.new.storage.elements in
    let u = live_count c.finish.new.storage.elements in
    IfOk-weaker c.finish.result (λ _. u ≤ t + c.in-Ok.blanks) (λ _. u ≤ s + (length d.records + d.blanks))
    (λ change more. both_live (length d.records) d.blanks s t u c.in-Ok.blanks c.in-Ok.ensures.ok.live c.in-Ok.ensures.blanks more) c.finish.ensures.live

pub returns-in-Err-clause-grown : goal.returns-in-Err-clause-grown
returns-in-Err-clause-grown c =
    begun-grown c.args.storage.now c.push_records.new.storage c.discard.new.storage c.new-builder.result c.push_records.new.builder (c.new-builder.ensures.none c.args.storage.now)
    c.push_records.ensures.builds c.discard.ensures.keeps

pub returns-in-Err-clause-needless : goal.returns-in-Err-clause-needless
returns-in-Err-clause-needless c = λ h.
    let d = attach_change (state_of c.args.storage.now) c.args.self in
    never (c.in-Err.ensures.needless (records_room (length d.records) d.blanks _ h))
