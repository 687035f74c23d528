use Rattle.std.proofs.Common.{◌≤◌, length, subst, sym, arith}
use Rattle.std.proofs.lemmas.List.{length-take}
use Rattle.explain_who.proofs.one_line.columns.Goals as goal

pub returns-clause-few : goal.returns-clause-few
returns-clause-few c =
    let first = c.front-first.result.now in
    let few : length first ≤ 71 = subst (λ text. length text ≤ 71) (sym c.front-first.ensures) (omega (arith, length-take 71 c.args.begins.now)) in
    omega (arith, few, length-take c.end_of-end.result first)
