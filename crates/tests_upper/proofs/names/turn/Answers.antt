-- The step that takes a step back can be taken, since each name keeps its place in the table.
use Rattle.std.proofs.Common.{sym, subst}
use Rattle.vsm_machine.specs.NameChanges.{CanStep, step_in, stepped}
use Rattle.vsm_machine.specs.NameTable.{rows_of}
use Rattle.vsm_machine.specs.StepsBack.{step_back_fits}
use Rattle.tests_upper.proofs.names.turn.Goals as goal

pub returns : goal.returns
returns c =
    let t = c.args.table.now in
    let u = c.swap.new.self in
    let step = step_in t c.args.change.now in (
      subst (λ l. CanStep l (step_in u c.swap.new.change)) (sym c.swap.ensures.rows)
          (subst (CanStep (stepped (rows_of t) step)) (sym c.swap.ensures.turned) (step_back_fits (rows_of t) step c.requires.0)),
      c.swap.ensures.ready,
    )
