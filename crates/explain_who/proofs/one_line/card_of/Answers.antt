use Rattle.std.proofs.Common.{◌++◌, ◌∙◌, take, drop, replicate, ap}
use Rattle.macro_reader.proofs.Blanks.{filled}
use Rattle.explain_who.proofs.one_line.card_of.Goals as goal

pub returns : goal.returns
returns c = ap (λ x. x ++ drop c.min-n.result (replicate 71 32)) c.copy_from_slice.ensures.after
    ∙ ap (λ k. take k c.args.line.now ++ drop k (replicate 71 32)) c.min-n.ensures ∙ filled 71 c.args.line.now
