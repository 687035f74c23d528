use Rattle.vsm_model.proofs.Alone.{stands_alone, stays_within}
use Rattle.vsm_model.proofs.Steps.{goes_forward_again, plain_keeps, keeps_plain}
use Rattle.vsm_model.proofs.laws.any_machine_stands.Goals as goal

pub returns-clause-alone : goal.returns-clause-alone
returns-clause-alone g c = λ first step limit. stands_alone first step limit

pub returns-clause-limit : goal.returns-clause-limit
returns-clause-limit g c = λ first step limit. stays_within first step limit

pub returns-clause-forward : goal.returns-clause-forward
returns-clause-forward g c = λ step limit. goes_forward_again step limit

pub returns-clause-allowed : goal.returns-clause-allowed
returns-clause-allowed g c = λ step limit. plain_keeps step limit

pub returns-clause-only : goal.returns-clause-only
returns-clause-only g c = λ step limit. keeps_plain step limit
