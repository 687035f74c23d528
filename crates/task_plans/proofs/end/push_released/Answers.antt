use Rattle.storage_swap.specs.Storage.{state_of}
use Rattle.storage_swap.proofs.BuilderLemmas.{builds-follow, if-refused}
use Rattle.task_plans.proofs.EndRecords.{never}
use Rattle.task_plans.proofs.SightLemmas.{still_ends}
use Rattle.task_plans.proofs.Steps.{next_room, next_refused}
use Rattle.task_plans.proofs.Walks.{walk_none, walk_all, walk_next, walk_more, walk_less, released_rows}
use Rattle.task_plans.proofs.end.push_released.Goals as goal

pub loop-seen-init : goal.loop-seen-init
loop-seen-init c =
    let top = c.args.ending.now.tree.top in
    walk_none released_rows top c.first_seen-place.result c.requires.building (c.first_seen-place.ensures (state_of c.args.storage.now) top)

pub loop-seen-smaller : goal.loop-seen-smaller
loop-seen-smaller c = walk_less c.args.ending.now.tree.top c.loop-seen.place c.in-Some.next c.in-Some.ensures.next c.push_emptied.ensures.builds

pub loop-seen-preserved : goal.loop-seen-preserved
loop-seen-preserved c = walk_more c.loop-seen.invariant c.in-Some.next c.in-Some.ensures.next c.push_emptied.ensures.builds c.in_ok-push_emptied.ensures.ok

pub next_seen-requires-clause-ending : goal.next_seen-requires-clause-ending
next_seen-requires-clause-ending c = still_ends c.args.ending.now _ _ c.loop-seen.invariant.leads.builds.keeps.shows c.requires.ending

pub returns-in_err-push_emptied-clause-builds : goal.returns-in_err-push_emptied-clause-builds
returns-in_err-push_emptied-clause-builds c = builds-follow _ _ _ _ _ _ c.loop-seen.invariant.leads.builds c.push_emptied.ensures.builds

pub returns-in_err-push_emptied-clause-needless : goal.returns-in_err-push_emptied-clause-needless
returns-in_err-push_emptied-clause-needless c = λ room. never (c.in_err-push_emptied.ensures.needless (next_room (walk_next c.loop-seen.invariant c.in-Some.next c.in-Some.ensures.next) room))

pub returns-in_err-push_emptied-clause-made : goal.returns-in_err-push_emptied-clause-made
returns-in_err-push_emptied-clause-made c =
    if-refused _ c.from_residual.result (next_refused (walk_next c.loop-seen.invariant c.in-Some.next c.in-Some.ensures.next) c.push_emptied.new.storage c.in_err-push_emptied.ensures.made)

pub returns-clause-ok : goal.returns-clause-ok
returns-clause-ok c = walk_all c.loop-seen.invariant c.in_default.ensures.none
