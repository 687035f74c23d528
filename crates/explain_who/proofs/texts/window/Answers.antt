use Rattle.std.proofs.Common.{take, drop, ap, ◌∙◌}
use Rattle.std.proofs.lemmas.List.{drop_min, take_min}
use Rattle.explain_who.proofs.texts.window.Goals as goal

pub returns : goal.returns
returns c =
    let rest = c.rest_from-rest.result.now in
    ap (λ n. take n rest) c.min-2.ensures ∙ take_min 32 rest
    ∙ ap (take 32) (c.rest_from-rest.ensures ∙ ap (λ n. drop n c.args.bytes.now) c.min.ensures ∙ drop_min c.args.skip c.args.bytes.now)
