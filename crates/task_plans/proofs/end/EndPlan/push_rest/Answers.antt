use Rattle.std.proofs.Common.{refl, ◌∙◌}
use Rattle.storage_swap.specs.Storage.{state_of}
use Rattle.storage_swap.proofs.BuilderLemmas.{builds-follow, if-refused}
use Rattle.task_plans.proofs.EndRecords.{never}
use Rattle.task_plans.proofs.RestRecords.{gone, tasks, registers, to_unseen, to_code, no_code}
use Rattle.task_plans.proofs.SightLemmas.{still_ends}
use Rattle.task_plans.proofs.Steps.{next_step, last_step, next_room, next_refused, ok_last, err_last}
use Rattle.task_plans.proofs.end.EndPlan.push_rest.Goals as goal

pub returns-in_err-push_unshared-clause-needless : goal.returns-in_err-push_unshared-clause-needless
returns-in_err-push_unshared-clause-needless c = λ h.
    let first = to_unseen c.args.self c.args.ending.now.tree.top c.requires.top c.requires.building in
    never (c.in_err-push_unshared.ensures.needless (next_room first h))

pub returns-in_err-push_unshared-clause-made : goal.returns-in_err-push_unshared-clause-made
returns-in_err-push_unshared-clause-made c =
    let first = to_unseen c.args.self c.args.ending.now.tree.top c.requires.top c.requires.building in
    if-refused _ c.from_residual.result (next_refused first c.push_unshared.new.storage c.in_err-push_unshared.ensures.made)

pub returns-in_err-push_removed-clause-needless : goal.returns-in_err-push_removed-clause-needless
returns-in_err-push_removed-clause-needless c = λ h.
    let first = to_unseen c.args.self c.args.ending.now.tree.top c.requires.top c.requires.building in
    let second = next_step (gone c.args.ending.now.tree.top) first c.push_unshared.ensures.builds c.in_ok-push_unshared.ensures.ok in
    never (c.in_err-push_removed.ensures.needless (next_room second h))

pub returns-in_err-push_removed-clause-made : goal.returns-in_err-push_removed-clause-made
returns-in_err-push_removed-clause-made c =
    let first = to_unseen c.args.self c.args.ending.now.tree.top c.requires.top c.requires.building in
    let second = next_step (gone c.args.ending.now.tree.top) first c.push_unshared.ensures.builds c.in_ok-push_unshared.ensures.ok in
    if-refused _ c.from_residual-in_err-push_removed.result (next_refused second c.push_removed.new.storage c.in_err-push_removed.ensures.made)

pub returns-in_err-push_removed-clause-builds : goal.returns-in_err-push_removed-clause-builds
returns-in_err-push_removed-clause-builds c = builds-follow _ _ _ _ _ _ c.push_unshared.ensures.builds c.push_removed.ensures.builds

pub returns-in_err-push_ended-clause-needless : goal.returns-in_err-push_ended-clause-needless
returns-in_err-push_ended-clause-needless c = λ h.
    let first = to_unseen c.args.self c.args.ending.now.tree.top c.requires.top c.requires.building in
    let second = next_step (gone c.args.ending.now.tree.top) first c.push_unshared.ensures.builds c.in_ok-push_unshared.ensures.ok in
    let third = next_step (tasks c.args.ending.now.tree.top) second c.push_removed.ensures.builds c.in_ok-push_removed.ensures.ok in
    never (c.in_err-push_ended.ensures.needless (next_room third h))

pub returns-in_err-push_ended-clause-made : goal.returns-in_err-push_ended-clause-made
returns-in_err-push_ended-clause-made c =
    let first = to_unseen c.args.self c.args.ending.now.tree.top c.requires.top c.requires.building in
    let second = next_step (gone c.args.ending.now.tree.top) first c.push_unshared.ensures.builds c.in_ok-push_unshared.ensures.ok in
    let third = next_step (tasks c.args.ending.now.tree.top) second c.push_removed.ensures.builds c.in_ok-push_removed.ensures.ok in
    if-refused _ c.from_residual-in_err-push_ended.result (next_refused third c.push_ended.new.storage c.in_err-push_ended.ensures.made)

pub returns-in_err-push_ended-clause-builds : goal.returns-in_err-push_ended-clause-builds
returns-in_err-push_ended-clause-builds c = builds-follow _ _ _ _ _ _ (builds-follow _ _ _ _ _ _ c.push_unshared.ensures.builds c.push_removed.ensures.builds) c.push_ended.ensures.builds

pub returns-in-Returned : goal.returns-in-Returned
returns-in-Returned c =
    let first = to_unseen c.args.self c.args.ending.now.tree.top c.requires.top c.requires.building in
    let second = next_step (gone c.args.ending.now.tree.top) first c.push_unshared.ensures.builds c.in_ok-push_unshared.ensures.ok in
    let third = next_step (tasks c.args.ending.now.tree.top) second c.push_removed.ensures.builds c.in_ok-push_removed.ensures.ok in
    let last = last_step (registers c.args.self) third c.push_ended.ensures.builds c.in_ok-push_ended.ensures.ok in
    let code = to_code c.args.self (state_of c.push_ended.new.storage) last c.in-Returned.code c.in-Returned.is in
    record {
      builds = builds-follow _ _ _ _ _ _ last.leads.builds c.push_return.ensures.builds;
      ok = ok_last code c.push_return.result c.push_return.ensures.builds c.push_return.ensures.ok;
      made = err_last code c.push_return.new.storage c.push_return.result c.push_return.ensures.made;
      needless = λ h. c.push_return.ensures.needless (next_room code h);
    }

pub returns-in_default : goal.returns-in_default
returns-in_default c =
    let first = to_unseen c.args.self c.args.ending.now.tree.top c.requires.top c.requires.building in
    let second = next_step (gone c.args.ending.now.tree.top) first c.push_unshared.ensures.builds c.in_ok-push_unshared.ensures.ok in
    let third = next_step (tasks c.args.ending.now.tree.top) second c.push_removed.ensures.builds c.in_ok-push_removed.ensures.ok in
    let last = last_step (registers c.args.self) third c.push_ended.ensures.builds c.in_ok-push_ended.ensures.ok in
    record {
      builds = last.leads.builds;
      ok = no_code c.args.self (state_of c.push_ended.new.storage) last c.in_default.not-Returned;
      made = tt;
      needless = λ room. refl;
    }

pub push_removed-requires-clause-ending : goal.push_removed-requires-clause-ending
push_removed-requires-clause-ending c = still_ends c.args.ending.now _ _ (c.push_unshared.ensures.builds.keeps.shows) c.requires.ending

pub push_ended-requires-clause-tree : goal.push_ended-requires-clause-tree
push_ended-requires-clause-tree c =
    (still_ends c.args.ending.now _ _ (c.push_removed.ensures.builds.keeps.shows ∙ c.push_unshared.ensures.builds.keeps.shows) c.requires.ending).parents
