use Rattle.explain_standing.proofs.TasksByReply.{task_is_in_the_reply}
use Rattle.explain_standing.proofs.laws.task_is_in_the_reply.Goals as goal

pub returns : goal.returns
returns c = task_is_in_the_reply
