use Rattle.storage_swap.proofs.BuilderLemmas.{builds-follow, if-refused}
use Rattle.task_plans.proofs.AttachRecords.{zero, gifts, shares, to_comes}
use Rattle.task_plans.proofs.EndRecords.{never}
use Rattle.task_plans.proofs.Steps.{next_step, last_step, next_room, next_refused, ok_last, err_last}
use Rattle.task_plans.proofs.attach.AttachPlan.push_task.Goals as goal

pub returns-in_err-push-clause-needless : goal.returns-in_err-push-clause-needless
returns-in_err-push-clause-needless c = λ h.
    let first = to_comes c.args.self c.args.given.now.items c.args.shared.now.items _ c.current.ensures c.requires.building in
    never (c.in_err-push.ensures.needless (next_room first h))

pub returns-in_err-push-clause-made : goal.returns-in_err-push-clause-made
returns-in_err-push-clause-made c =
    let first = to_comes c.args.self c.args.given.now.items c.args.shared.now.items _ c.current.ensures c.requires.building in
    if-refused _ c.from_residual.result (next_refused first c.push.new.storage c.in_err-push.ensures.made)

pub returns-in_err-push_zero-clause-needless : goal.returns-in_err-push_zero-clause-needless
returns-in_err-push_zero-clause-needless c = λ h.
    let first = to_comes c.args.self c.args.given.now.items c.args.shared.now.items _ c.current.ensures c.requires.building in
    let second = next_step (zero c.args.self) first c.push.ensures.builds c.in_ok-push.ensures.ok in
    never (c.in_err-push_zero.ensures.needless (next_room second h))

pub returns-in_err-push_zero-clause-made : goal.returns-in_err-push_zero-clause-made
returns-in_err-push_zero-clause-made c =
    let first = to_comes c.args.self c.args.given.now.items c.args.shared.now.items _ c.current.ensures c.requires.building in
    let second = next_step (zero c.args.self) first c.push.ensures.builds c.in_ok-push.ensures.ok in
    if-refused _ c.from_residual-in_err-push_zero.result (next_refused second c.push_zero.new.storage c.in_err-push_zero.ensures.made)

pub returns-in_err-push_zero-clause-builds : goal.returns-in_err-push_zero-clause-builds
returns-in_err-push_zero-clause-builds c = builds-follow _ _ _ _ _ _ c.push.ensures.builds c.push_zero.ensures.builds

pub returns-in_err-push_gifts-clause-needless : goal.returns-in_err-push_gifts-clause-needless
returns-in_err-push_gifts-clause-needless c = λ h.
    let first = to_comes c.args.self c.args.given.now.items c.args.shared.now.items _ c.current.ensures c.requires.building in
    let second = next_step (zero c.args.self) first c.push.ensures.builds c.in_ok-push.ensures.ok in
    let third = next_step (gifts c.args.self c.args.given.now.items) second c.push_zero.ensures.builds c.in_ok-push_zero.ensures.ok in
    never (c.in_err-push_gifts.ensures.needless (next_room third h))

pub returns-in_err-push_gifts-clause-made : goal.returns-in_err-push_gifts-clause-made
returns-in_err-push_gifts-clause-made c =
    let first = to_comes c.args.self c.args.given.now.items c.args.shared.now.items _ c.current.ensures c.requires.building in
    let second = next_step (zero c.args.self) first c.push.ensures.builds c.in_ok-push.ensures.ok in
    let third = next_step (gifts c.args.self c.args.given.now.items) second c.push_zero.ensures.builds c.in_ok-push_zero.ensures.ok in
    if-refused _ c.from_residual-in_err-push_gifts.result (next_refused third c.push_gifts.new.storage c.in_err-push_gifts.ensures.made)

pub returns-in_err-push_gifts-clause-builds : goal.returns-in_err-push_gifts-clause-builds
returns-in_err-push_gifts-clause-builds c = builds-follow _ _ _ _ _ _ (builds-follow _ _ _ _ _ _ c.push.ensures.builds c.push_zero.ensures.builds) c.push_gifts.ensures.builds

pub returns : goal.returns
returns c =
    let first = to_comes c.args.self c.args.given.now.items c.args.shared.now.items _ c.current.ensures c.requires.building in
    let second = next_step (zero c.args.self) first c.push.ensures.builds c.in_ok-push.ensures.ok in
    let third = next_step (gifts c.args.self c.args.given.now.items) second c.push_zero.ensures.builds c.in_ok-push_zero.ensures.ok in
    let last = last_step (shares c.args.self c.args.shared.now.items) third c.push_gifts.ensures.builds c.in_ok-push_gifts.ensures.ok in
    record {
      builds = builds-follow _ _ _ _ _ _ last.leads.builds c.push_shares.ensures.builds;
      ok = ok_last last c.push_shares.result c.push_shares.ensures.builds c.push_shares.ensures.ok;
      made = err_last last c.push_shares.new.storage c.push_shares.result c.push_shares.ensures.made;
      needless = λ h. c.push_shares.ensures.needless (next_room last h);
    }
