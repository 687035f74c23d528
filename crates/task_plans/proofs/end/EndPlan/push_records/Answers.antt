use Rattle.std.proofs.Common.{◌∙◌, ◌+◌, length, refl, arith}
use Rattle.storage_swap.proofs.BuilderLemmas.{builds-follow, made-more}
use Rattle.task_plans.proofs.EndRecords.{rest, front_room, never, to_released, to_turn, names_room, end_refused, counted, end_records_are, end_parked_is, end_spare, end_live, end_made}
use Rattle.task_plans.proofs.SightLemmas.{still_ends}
use Rattle.task_plans.proofs.Steps.{last_step, next_room, next_refused, next_more, all_last}
use Rattle.storage_swap.specs.Storage.{state_of}
use Rattle.task_plans.specs.TaskPlans.{end_change, parks_all}
use Rattle.task_plans.proofs.end.EndPlan.push_records.Goals as goal

pub returns-in_err-park_owned-clause-needless : goal.returns-in_err-park_owned-clause-needless
returns-in_err-park_owned-clause-needless c = λ h. never (c.in_err-park_owned.ensures.needless (front_room _ _ _ h))

pub returns-in_err-park_owned-clause-made : goal.returns-in_err-park_owned-clause-made
returns-in_err-park_owned-clause-made c =
    let m = state_of c.args.storage.now in
    let names = length (parks_all m c.args.self.top) in
    made-more c.args.storage.now.elements c.park_owned.new.storage.elements names (names + length (end_change m c.args.self).records) (omega arith) c.in_err-park_owned.ensures.made

pub returns-in_err-push_released-clause-builds : goal.returns-in_err-push_released-clause-builds
returns-in_err-push_released-clause-builds c = builds-follow _ _ _ _ _ _ c.park_owned.ensures.builds c.push_released.ensures.builds

pub returns-in_err-push_released-clause-needless : goal.returns-in_err-push_released-clause-needless
returns-in_err-push_released-clause-needless c = λ h.
    never (c.in_err-push_released.ensures.needless (next_room (to_released c.args.self c.park_owned.ensures.builds c.in_ok-park_owned.ensures.ok) (names_room c.args.self c.park_owned.ensures.builds c.in_ok-park_owned.ensures.ok h)))

pub returns-in_err-push_released-clause-made : goal.returns-in_err-push_released-clause-made
returns-in_err-push_released-clause-made c =
    end_refused c.args.self c.park_owned.ensures.builds c.in_ok-park_owned.ensures.ok c.push_released.new.storage.elements (next_refused (to_released c.args.self c.park_owned.ensures.builds c.in_ok-park_owned.ensures.ok) c.push_released.new.storage c.in_err-push_released.ensures.made)

pub returns-in_err-push-clause-builds : goal.returns-in_err-push-clause-builds
returns-in_err-push-clause-builds c = builds-follow _ _ _ _ _ _ (builds-follow _ _ _ _ _ _ c.park_owned.ensures.builds c.push_released.ensures.builds) c.push.ensures.builds

pub returns-in_err-push-clause-needless : goal.returns-in_err-push-clause-needless
returns-in_err-push-clause-needless c = λ h.
    let turn = to_turn c.args.self c.park_owned.ensures.builds c.in_ok-park_owned.ensures.ok c.push_released.ensures.builds c.in_ok-push_released.ensures.ok in
    never (c.in_err-push.ensures.needless (next_room turn (names_room c.args.self c.park_owned.ensures.builds c.in_ok-park_owned.ensures.ok h)))

pub returns-in_err-push-clause-made : goal.returns-in_err-push-clause-made
returns-in_err-push-clause-made c =
    let turn = to_turn c.args.self c.park_owned.ensures.builds c.in_ok-park_owned.ensures.ok c.push_released.ensures.builds c.in_ok-push_released.ensures.ok in
    end_refused c.args.self c.park_owned.ensures.builds c.in_ok-park_owned.ensures.ok c.push.new.storage.elements (next_refused turn c.push.new.storage c.in_err-push.ensures.made)

pub returns-in_err-push_rest-clause-builds : goal.returns-in_err-push_rest-clause-builds
returns-in_err-push_rest-clause-builds c = builds-follow _ _ _ _ _ _ (builds-follow _ _ _ _ _ _ (builds-follow _ _ _ _ _ _ c.park_owned.ensures.builds c.push_released.ensures.builds) c.push.ensures.builds) c.push_rest.ensures.builds

pub returns-in_err-push_rest-clause-needless : goal.returns-in_err-push_rest-clause-needless
returns-in_err-push_rest-clause-needless c = λ h.
    let turn = to_turn c.args.self c.park_owned.ensures.builds c.in_ok-park_owned.ensures.ok c.push_released.ensures.builds c.in_ok-push_released.ensures.ok in
    let last = last_step (rest c.args.self) turn c.push.ensures.builds c.in_ok-push.ensures.ok in
    never (c.in_err-push_rest.ensures.needless (next_room last (names_room c.args.self c.park_owned.ensures.builds c.in_ok-park_owned.ensures.ok h)))

pub returns-in_err-push_rest-clause-made : goal.returns-in_err-push_rest-clause-made
returns-in_err-push_rest-clause-made c =
    let turn = to_turn c.args.self c.park_owned.ensures.builds c.in_ok-park_owned.ensures.ok c.push_released.ensures.builds c.in_ok-push_released.ensures.ok in
    let last = last_step (rest c.args.self) turn c.push.ensures.builds c.in_ok-push.ensures.ok in
    end_refused c.args.self c.park_owned.ensures.builds c.in_ok-park_owned.ensures.ok c.push_rest.new.storage.elements (next_refused last c.push_rest.new.storage c.in_err-push_rest.ensures.made)

pub returns : goal.returns
returns c =
    let turn = to_turn c.args.self c.park_owned.ensures.builds c.in_ok-park_owned.ensures.ok c.push_released.ensures.builds c.in_ok-push_released.ensures.ok in
    let last = last_step (rest c.args.self) turn c.push.ensures.builds c.in_ok-push.ensures.ok in
    let all = all_last last c.push_rest.ensures.builds c.in_ok-push_rest.ensures.ok in
    record {
      builds = builds-follow _ _ _ _ _ _ (builds-follow _ _ _ _ _ _ (builds-follow _ _ _ _ _ _ c.park_owned.ensures.builds c.push_released.ensures.builds) c.push.ensures.builds) c.push_rest.ensures.builds;
      records = end_records_are c.args.self c.park_owned.ensures.builds c.in_ok-park_owned.ensures.ok all c.requires.empty;
      parked = end_parked_is c.args.self c.park_owned.ensures.builds c.in_ok-park_owned.ensures.ok all c.requires.none;
      blanks = c.count-blanks.ensures c.push.new.storage c.push.ensures.builds.building ∙ counted c.args.self c.park_owned.ensures.builds c.in_ok-park_owned.ensures.ok (next_more turn c.push.ensures.builds c.in_ok-push.ensures.ok) c.requires.empty;
      spare = end_spare c.args.self c.park_owned.ensures.builds c.in_ok-park_owned.ensures.ok all;
      live = end_live c.args.self c.park_owned.ensures.builds c.in_ok-park_owned.ensures.ok all;
      made = end_made c.args.self c.park_owned.ensures.builds c.in_ok-park_owned.ensures.ok all;
      needless = λ h. refl;
    }

pub park_owned-requires-clause-ending : goal.park_owned-requires-clause-ending
park_owned-requires-clause-ending c = record { parents = c.read_parents.ensures; tasks = c.tasks_that_end.ensures; numbers = c.numbers_end.ensures }

pub push_released-requires-clause-ending : goal.push_released-requires-clause-ending
push_released-requires-clause-ending c =
    still_ends _ _ _ (c.park_owned.ensures.builds.keeps.shows) (record { parents = c.read_parents.ensures; tasks = c.tasks_that_end.ensures; numbers = c.numbers_end.ensures })

pub push_rest-requires-clause-ending : goal.push_rest-requires-clause-ending
push_rest-requires-clause-ending c =
    still_ends _ _ _ (c.push.ensures.builds.keeps.shows ∙ c.push_released.ensures.builds.keeps.shows ∙ c.park_owned.ensures.builds.keeps.shows)
    (record { parents = c.read_parents.ensures; tasks = c.tasks_that_end.ensures; numbers = c.numbers_end.ensures })
