use Rattle.macro_operands.proofs.requests.Statement.valid.Goals as goal

pub returns-in-DeletePool : goal.returns-in-DeletePool
returns-in-DeletePool c = rw c.in-DeletePool.is c.is_valid_name-in-DeletePool.ensures
