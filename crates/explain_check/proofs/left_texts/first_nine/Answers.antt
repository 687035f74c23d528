use Rattle.std.proofs.Common.{◌∙◌, take, ap}
use Rattle.std.proofs.lemmas.List.{take_min}
use Rattle.explain_check.proofs.left_texts.first_nine.Goals as goal

pub returns : goal.returns
returns c = ap (λ k. take k c.args.lines.now) c.min.ensures ∙ take_min 9 c.args.lines.now
