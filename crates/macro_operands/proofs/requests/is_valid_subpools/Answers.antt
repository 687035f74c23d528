use Rattle.macro_operands.proofs.requests.is_valid_subpools.Goals as goal

pub returns-in-Listed : goal.returns-in-Listed
returns-in-Listed c = rw c.in-Listed.is c.valid-in-Listed.ensures
