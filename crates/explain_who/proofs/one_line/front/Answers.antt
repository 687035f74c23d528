use Rattle.std.proofs.Common.{take, ap, ◌∙◌}
use Rattle.std.proofs.lemmas.List.{take_min}
use Rattle.explain_who.proofs.one_line.front.Goals as goal

pub returns : goal.returns
returns c = ap (λ n. take n c.args.begins.now) c.min.ensures ∙ take_min 71 c.args.begins.now
