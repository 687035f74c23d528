use Rattle.std.proofs.Common.{◌∙◌, take, ap}
use Rattle.std.proofs.lemmas.List.{take_min}
use Rattle.explain_list.proofs.rows.shown_part.Goals as goal

pub returns-clause-value : goal.returns-clause-value
returns-clause-value c = ap (λ k. take k c.args.bytes.now) c.min.ensures ∙ take_min 80 c.args.bytes.now
