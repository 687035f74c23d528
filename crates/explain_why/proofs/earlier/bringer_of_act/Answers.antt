use Rattle.std.proofs.Common.{None, ap, refl, subst, ◌∙◌}
use Rattle.bench_core.specs.Stands.{bench_of}
use Rattle.macro_statements.specs.Requests.{IsValidAct, act_in}
use Rattle.explain_why.specs.Obstacles.{IsBringerOf, obstacle_asked}
use Rattle.explain_why.proofs.Bringers.{if_brought}
use Rattle.explain_why.proofs.earlier.bringer_of_act.Goals as goal

pub returns-in-Some-clause-its : goal.returns-in-Some-clause-its
returns-in-Some-clause-its g c = λ under.
    let m = (bench_of c.args.bench.now).present in
    let x = act_in c.args.statement.now in
    if_brought (IsValidAct x) c.args.settings c.args.script.now c.in-Some.obstacle (obstacle_asked c.args.settings m x) c.bringer_in.result
    (λ written. c.in-Some.ensures written ∙ ap (λ k. obstacle_asked k m x) under) c.bringer_in.ensures.its

pub returns-in-None-clause-its : goal.returns-in-None-clause-its
returns-in-None-clause-its g c = λ under written.
    let m = (bench_of c.args.bench.now).present in
    let x = act_in c.args.statement.now in
    subst (λ o. IsBringerOf c.args.settings c.args.script.now o None) (c.in-None.ensures written ∙ ap (λ k. obstacle_asked k m x) under) refl
