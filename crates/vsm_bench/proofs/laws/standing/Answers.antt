use Rattle.vsm_model.specs.Names.{first_named_state}
use Rattle.vsm_model.proofs.Alone.{stands_alone, stays_within}
use Rattle.vsm_model.proofs.Steps.{goes_forward_again, plain_keeps, keeps_plain}
use Rattle.bench_core.specs.Machine.{statement_step}
use Rattle.vsm_bench.proofs.laws.standing.Goals as goal

pub returns-clause-alone : goal.returns-clause-alone
returns-clause-alone c = λ settings valid. stands_alone first_named_state (statement_step settings) settings.history

pub returns-clause-limit : goal.returns-clause-limit
returns-clause-limit c = λ settings valid. stays_within first_named_state (statement_step settings) settings.history

pub returns-clause-forward : goal.returns-clause-forward
returns-clause-forward c = λ settings valid. goes_forward_again (statement_step settings) settings.history

pub returns-clause-allowed : goal.returns-clause-allowed
returns-clause-allowed c = λ settings. plain_keeps (statement_step settings) settings.history

pub returns-clause-only : goal.returns-clause-only
returns-clause-only c = λ settings. keeps_plain (statement_step settings) settings.history
