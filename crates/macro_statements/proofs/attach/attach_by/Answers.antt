use Rattle.macro_statements.proofs.attach.attach_by.Goals as goal

pub returns : goal.returns
returns c = cc
