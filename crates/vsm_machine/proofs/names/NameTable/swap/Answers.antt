use Rattle.vsm_machine.proofs.names.NameTable.swap.Goals as goal

pub returns-clause-turned : goal.returns-clause-turned
returns-clause-turned c = c.step.ensures.turned
