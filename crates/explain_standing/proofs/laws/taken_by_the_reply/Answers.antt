use Rattle.explain_standing.proofs.ByReply.{taken_by_the_reply}
use Rattle.explain_standing.proofs.laws.taken_by_the_reply.Goals as goal

pub returns : goal.returns
returns c = taken_by_the_reply
