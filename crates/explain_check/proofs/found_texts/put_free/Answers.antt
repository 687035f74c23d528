use Rattle.std.proofs.Common.{codes}
use Rattle.text_output.proofs.Gathering.{puts_both}
use Rattle.explain_who.specs.TakenTexts.{subpool_text}
use Rattle.explain_check.proofs.found_texts.put_free.Goals as goal

pub returns : goal.returns
returns g c = puts_both _ _ _ _ _ _ (codes "in free storage of ") (subpool_text c.args.subpool) c.put.ensures.puts c.put_subpool.ensures
