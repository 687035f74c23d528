use Rattle.storage_swap.specs.Storage.{state_of}
use Rattle.storage_plans.proofs.GivenBack.{is_given_back}
use Rattle.storage_plans.proofs.release.plan_release.Goals as goal

pub returns-in-Ok-clause-planned : goal.returns-in-Ok-clause-planned
returns-in-Ok-clause-planned c names_full =
    let its = c.in-Ok.ensures in
    is_given_back c.args.settings (state_of c.args.storage.now) c.args.r names_full c.in-Ok.found c.give_back.result c.requires.sound.sound
    its.none its.subpool its.area its.some its.range c.give_back.ensures
