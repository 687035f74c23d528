use Rattle.explain_list.proofs.Apart.{rows_apart}
use Rattle.explain_list.proofs.laws.rows_begin_as_no_answer.Goals as goal

pub returns : goal.returns
returns c = rows_apart
