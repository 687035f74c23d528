use Rattle.service_laws.proofs.AskedAgain.{a_giver_is_made_a_new_one}
use Rattle.service_laws.proofs.Given.{a_gift_leaves_nothing}
use Rattle.service_laws.proofs.Gifts.{a_gift_leaves_sight_sound}
use Rattle.service_laws.proofs.tasks.given.Goals as goal

pub returns-clause-nothing : goal.returns-clause-nothing
returns-clause-nothing c = a_gift_leaves_nothing

pub returns-clause-sound : goal.returns-clause-sound
returns-clause-sound c = a_gift_leaves_sight_sound

pub returns-clause-again : goal.returns-clause-again
returns-clause-again c = a_giver_is_made_a_new_one
