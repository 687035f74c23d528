use Rattle.std.proofs.Common.{sym, subst}
use Rattle.subpool_storage.specs.Subpools.{Subpools}
use Rattle.storage_swap.specs.Storage.{state_of}
use Rattle.storage_changes.specs.Ending.{ended_below}
use Rattle.storage_swap.proofs.BuilderLemmas.{builds-follow, if-refused}
use Rattle.task_plans.specs.TaskPlans.{parks_all, CanPark}
use Rattle.task_plans.proofs.EndRecords.{never}
use Rattle.task_plans.proofs.OwnedNames.{owned_are_names}
use Rattle.task_plans.proofs.SightLemmas.{still_ends}
use Rattle.task_plans.proofs.Parks.{names_can, parks_none, parks_done, parks_can, parks_room, parks_more, parks_refused}
use Rattle.task_plans.proofs.Walks.{walk_less}
use Rattle.task_plans.proofs.end.park_owned.Goals as goal

pub loop-seen-init : goal.loop-seen-init
loop-seen-init c =
    let p = c.args.storage.now in
    let m = state_of p in
    let top = c.args.ending.now.tree.top in
    let range = (c.subpools_are_there.ensures p.elements p.subpools c.requires.building.ready.stands.storage.subpools).0 in
    let P : Subpools → Type 0 = λ z. CanPark z (parks_all m top) in
    parks_none top c.first_seen-place.result c.requires.building (c.first_seen-place.ensures m top)
    (subst P (sym c.requires.none) (names_can (parks_all m top) (owned_are_names m.subpools range (ended_below m.tasks.parents top))))

pub park_one-requires-clause-can : goal.park_one-requires-clause-can
park_one-requires-clause-can c = parks_can c.loop-seen.invariant c.in-Some.next c.in-Some.ensures.next

pub loop-seen-smaller : goal.loop-seen-smaller
loop-seen-smaller c = walk_less c.args.ending.now.tree.top c.loop-seen.place c.in-Some.next c.in-Some.ensures.next c.park_one.ensures.builds

pub loop-seen-preserved : goal.loop-seen-preserved
loop-seen-preserved c = parks_more c.loop-seen.invariant c.in-Some.next c.in-Some.ensures.next c.park_one.ensures.builds c.in_ok-park_one.ensures.ok

pub next_seen-requires-clause-ending : goal.next_seen-requires-clause-ending
next_seen-requires-clause-ending c = still_ends c.args.ending.now _ _ c.loop-seen.invariant.builds.keeps.shows c.requires.ending

pub returns-in_err-park_one-clause-builds : goal.returns-in_err-park_one-clause-builds
returns-in_err-park_one-clause-builds c = builds-follow _ _ _ _ _ _ c.loop-seen.invariant.builds c.park_one.ensures.builds

pub returns-in_err-park_one-clause-needless : goal.returns-in_err-park_one-clause-needless
returns-in_err-park_one-clause-needless c = λ room. never (c.in_err-park_one.ensures.needless (parks_room c.loop-seen.invariant c.in-Some.next c.in-Some.ensures.next room))

pub returns-in_err-park_one-clause-made : goal.returns-in_err-park_one-clause-made
returns-in_err-park_one-clause-made c = if-refused _ c.from_residual.result (parks_refused c.loop-seen.invariant c.in-Some.next c.in-Some.ensures.next c.park_one.new.storage.elements c.in_err-park_one.ensures.made)

pub returns-clause-ok : goal.returns-clause-ok
returns-clause-ok c = parks_done c.loop-seen.invariant c.in_default.ensures.none
