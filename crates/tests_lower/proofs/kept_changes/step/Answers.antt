use Rattle.std.proofs.Common.{ℕ, List, [], ◌∷◌, ◌++◌, sym, subst, rules}
use Rattle.step_history.specs.Single.{steps_ready}
use Rattle.tests_lower.specs.declared.counter.Counter.{Counter}
use Rattle.tests_lower.specs.Counter.{CanStep, stepped, step_of, hold_nothing, counter_fits, counter_steps, counter_laws}
use Rattle.tests_lower.proofs.kept_changes.step.Goals as goal

pub push_reserved-requires-clause-fits : goal.push_reserved-requires-clause-fits
push_reserved-requires-clause-fits g c =
    let count_of : Counter → ℕ = λ s. s.count in
    let can : CanStep (count_of c.args.counter.now) c.args.by = search rules in
    let kept = c.args.history.now.kept in
    let r = steps_ready CanStep stepped count_of (step_of count_of) (hold_nothing count_of) (counter_steps count_of) kept c.args.history.now.undone c.args.by c.args.counter.now c.requires can tt in
    let f = (counter_laws count_of).forward kept [] c.args.by c.swap.new.change c.args.counter.now c.swap.new.self r c.swap.ensures in
    let P : List ℕ → Type 0 = λ ks. counter_fits count_of (ks ++ c.swap.new.change ∷ []) c.swap.new.self [] in
    subst P (sym c.reserve_place.ensures.kept) f.0
