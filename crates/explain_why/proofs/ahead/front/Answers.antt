use Rattle.std.proofs.Common.{◌≡◌, ◌∙◌, ap, arith, length, min, take}
use Rattle.std.proofs.lemmas.List.{take_min}
use Rattle.explain_why.proofs.ahead.front.Goals as goal

pub returns : goal.returns
returns c =
    let line = c.args.line.now in
    let count : c.min-count.result ≡ min 80 (length line) = omega (arith, c.min-count.ensures) in
    ap (λ n. take n line) count ∙ take_min 80 line
