use Rattle.std.proofs.Common.{length, refl, sym, ap, ◌∙◌, arith}
use Rattle.std.specs.Prelude.{map}
use Rattle.std.specs.List.{flat_map}
use Rattle.storage_changes.specs.Ending.{ended_below, rows_with, unshared}
use Rattle.storage_swap.specs.Storage.{state_of}
use Rattle.storage_swap.proofs.BuilderLemmas.{builds-follow, if-refused}
use Rattle.task_plans.proofs.EndRecords.{never}
use Rattle.task_plans.proofs.SightLemmas.{still_ends}
use Rattle.task_plans.proofs.Unshared.{goes_behind, fewer_behind}
use Rattle.task_plans.proofs.Steps.{next_room, next_refused}
use Rattle.task_plans.proofs.Walks.{walk_none, walk_all, walk_next, walk_more, walk_less, walk_over, unshared_rows}
use Rattle.task_plans.proofs.end.push_unshared.Goals as goal

pub loop-seen-init : goal.loop-seen-init
loop-seen-init c =
    let top = c.args.ending.now.tree.top in
    walk_none (unshared_rows c.args.ending.now.tree.top) top c.first_seen-place.result c.requires.building (c.first_seen-place.ensures (state_of c.args.storage.now) top)

pub loop-seen-smaller : goal.loop-seen-smaller
loop-seen-smaller c = walk_less c.args.ending.now.tree.top c.loop-seen.place c.in-Some.next c.in-Some.ensures.next c.push_unseen.ensures.builds

pub loop-seen-preserved : goal.loop-seen-preserved
loop-seen-preserved c = walk_more c.loop-seen.invariant c.in-Some.next c.in-Some.ensures.next c.push_unseen.ensures.builds c.in_ok-push_unseen.ensures.ok

pub next_seen-requires-clause-ending : goal.next_seen-requires-clause-ending
next_seen-requires-clause-ending c = still_ends c.args.ending.now _ _ c.loop-seen.invariant.leads.builds.keeps.shows c.requires.ending

pub returns-in_err-push_unseen-clause-builds : goal.returns-in_err-push_unseen-clause-builds
returns-in_err-push_unseen-clause-builds c = builds-follow _ _ _ _ _ _ c.loop-seen.invariant.leads.builds c.push_unseen.ensures.builds

pub returns-in_err-push_unseen-clause-needless : goal.returns-in_err-push_unseen-clause-needless
returns-in_err-push_unseen-clause-needless c = λ room. never (c.in_err-push_unseen.ensures.needless (next_room (walk_next c.loop-seen.invariant c.in-Some.next c.in-Some.ensures.next) room))

pub returns-in_err-push_unseen-clause-made : goal.returns-in_err-push_unseen-clause-made
returns-in_err-push_unseen-clause-made c =
    if-refused _ c.from_residual.result (next_refused (walk_next c.loop-seen.invariant c.in-Some.next c.in-Some.ensures.next) c.push_unseen.new.storage c.in_err-push_unseen.ensures.made)

pub returns-clause-ok : goal.returns-clause-ok
returns-clause-ok c = walk_all c.loop-seen.invariant c.in_default.ensures.none

pub push_unseen-requires-clause-ending : goal.push_unseen-requires-clause-ending
push_unseen-requires-clause-ending c = still_ends c.args.ending.now _ _ c.loop-seen.invariant.leads.builds.keeps.shows c.requires.ending

pub loop-seen-preserved-then-not-is_shared : goal.loop-seen-preserved-then-not-is_shared
loop-seen-preserved-then-not-is_shared c =
    let t = c.loop-seen.storage in
    let top = c.args.ending.now.tree.top in
    let k = state_of t in
    let seen = c.in-Some.seen in
    let w = c.loop-seen.invariant in
    let range = (c.subpools_are_there.ensures t.elements t.subpools w.leads.builds.building.ready.stands.storage.subpools).0 in
    let behind = c.behind_number-place.ensures k (still_ends c.args.ending.now _ _ w.leads.builds.keeps.shows c.requires.ending) in
    walk_over w c.behind_number-place.result (ap (map unshared)
    (goes_behind k top seen.subpool.number range (sym c.is_shared.ensures ∙ c.if-not-is_shared.true) c.loop-seen.place c.in-Some.next seen.subpool seen.task c.in-Some.ensures.next refl c.in-Some.ensures.number c.in-Some.ensures.sees
    ∙ sym (ap (flat_map (rows_with k.subpools (ended_below k.tasks.parents top))) behind)))

pub loop-seen-smaller-then-not-is_shared : goal.loop-seen-smaller-then-not-is_shared
loop-seen-smaller-then-not-is_shared c =
    let t = c.loop-seen.storage in
    let top = c.args.ending.now.tree.top in
    let seen = c.in-Some.seen in
    let w = c.loop-seen.invariant in
    let range = (c.subpools_are_there.ensures t.elements t.subpools w.leads.builds.building.ready.stands.storage.subpools).0 in
    let behind = c.behind_number-place.ensures (state_of t) (still_ends c.args.ending.now _ _ w.leads.builds.keeps.shows c.requires.ending) in
    let fewer = fewer_behind (state_of t) top seen.subpool.number range (sym c.is_shared.ensures ∙ c.if-not-is_shared.true) c.loop-seen.place c.in-Some.next seen.subpool seen.task c.in-Some.ensures.next refl c.in-Some.ensures.number c.in-Some.ensures.sees in
    omega (arith, fewer, ap length behind)
