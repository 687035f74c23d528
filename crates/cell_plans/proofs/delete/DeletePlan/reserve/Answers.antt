use Rattle.std.proofs.Common.{◌≡◌, ◌+◌, ◌≤◌, ◌++◌, List, length, ap, ◌∙◌, arith}
use Rattle.std.proofs.lemmas.Result.{IfOk-weaker}
use Rattle.vsm_elements.specs.Store.{made, live_count}
use Rattle.subpool_storage.specs.Subpools.{no_subpools}
use Rattle.storage_changes.specs.declared.record.Record.{Record}
use Rattle.storage_changes.specs.Changes.{change_of, no_pages}
use Rattle.storage_swap.specs.Storage.{state_of}
use Rattle.storage_swap.specs.declared.storage.Parts.{Parts}
use Rattle.storage_swap.specs.Builder.{records_in, parked_in}
use Rattle.storage_swap.proofs.BuilderLemmas.{made-reserves, makes-follow}
use Rattle.cell_plans.specs.CellPlans.{delete_change}
use Rattle.cell_plans.proofs.DeletePlans.{delete_is}
use Rattle.cell_plans.proofs.delete.DeletePlan.reserve.Goals as goal

pub returns-in-Ok-clause-ok : goal.returns-in-Ok-clause-ok
returns-in-Ok-clause-ok c =
    let p = c.args.storage.now in
    let m = state_of p in
    let d = delete_change m c.args.self in
    let t = c.push_records.new.storage in
    let a = c.new-builder.result in
    let b = c.push_records.new.builder in
    let records : records_in t b ≡ d.records =
    c.in-Ok.ensures.ok.records ∙ ap (λ (rs : List Record). rs ++ d.records) (c.new-builder.ensures.records p) in
    let parked : parked_in t b ≡ no_subpools = c.in-Ok.ensures.ok.parked ∙ c.new-builder.ensures.parked p in
    made-reserves p t c.finish.new.storage a b (c.new-builder.ensures.none p) c.push_records.ensures.builds c.in-Ok.blanks d c.finish.result c.finish.ensures.ok
    ((λ i. record (change_of (records i) (c.in-Ok.ensures.blanks i) no_pages) { parked = parked i }) ∙ delete_is m (m.subpools.cells c.args.self.pool))

pub returns-in-Ok-clause-uses : goal.returns-in-Ok-clause-uses
returns-in-Ok-clause-uses c =
    let p = c.args.storage.now in
    let t = c.push_records.new.storage in
    let u = c.finish.new.storage in
    let d = delete_change (state_of p) c.args.self in
    IfOk-weaker c.finish.result (λ _. t.elements.spare ≤ u.elements.spare + c.in-Ok.blanks) (λ _. p.elements.spare ≤ u.elements.spare + (length d.records + d.blanks))
    (λ change used. omega (arith, used, c.in-Ok.ensures.ok.spare, c.in-Ok.ensures.blanks)) c.finish.ensures.uses

pub returns-in-Ok-clause-live : goal.returns-in-Ok-clause-live
returns-in-Ok-clause-live c =
    let p = c.args.storage.now in
    let t = c.push_records.new.storage in
    let u = c.finish.new.storage in
    let d = delete_change (state_of p) c.args.self in
    IfOk-weaker c.finish.result (λ _. live_count u.elements ≤ live_count t.elements + c.in-Ok.blanks) (λ _. live_count u.elements ≤ live_count p.elements + (length d.records + d.blanks))
    (λ change more. omega (arith, more, c.in-Ok.ensures.ok.live, c.in-Ok.ensures.blanks)) c.finish.ensures.live

pub returns-in-Ok-clause-made : goal.returns-in-Ok-clause-made
returns-in-Ok-clause-made c =
    let p = c.args.storage.now in
    let t = c.push_records.new.storage in
    let u = c.finish.new.storage in
    let d = delete_change (state_of p) c.args.self in
    makes-follow (made p.elements) (made t.elements) (made u.elements) (live_count p.elements) (live_count t.elements)
    (length d.records + d.blanks) c.in-Ok.blanks (length d.records + d.blanks) c.in-Ok.ensures.ok.made (omega (arith, c.in-Ok.ensures.ok.live, c.in-Ok.ensures.blanks)) (omega arith) c.finish.ensures.made

pub returns-in-Ok-clause-same_frames : goal.returns-in-Ok-clause-same_frames
returns-in-Ok-clause-same_frames c = c.finish.ensures.same_frames ∙ ap (λ (z : Parts). z.region) c.push_records.ensures.builds.keeps.same

pub returns-in-Err-clause-made : goal.returns-in-Err-clause-made
returns-in-Err-clause-made c = omega (arith, c.in-Err.ensures.made, c.discard.ensures.as_many)

pub returns-in-Err-clause-same_frames : goal.returns-in-Err-clause-same_frames
returns-in-Err-clause-same_frames c =
    ap (λ (z : Parts). z.region) c.discard.ensures.keeps.same ∙ ap (λ (z : Parts). z.region) c.push_records.ensures.builds.keeps.same
