use Rattle.explain_standing.proofs.CellsByReply.{cell_is_in_the_reply}
use Rattle.explain_standing.proofs.laws.cell_is_in_the_reply.Goals as goal

pub returns : goal.returns
returns c = cell_is_in_the_reply
