use Rattle.std.proofs.Common.{Ok, map, reverse, take}
use Rattle.bench_core.specs.Stands.{IsNew}
use Rattle.vsm_model.specs.declared.limits.Settings.{Settings}
use Rattle.explain_standing.specs.Carried.{line_act}
use Rattle.explain_why.proofs.Bringers.{IsKnown}
use Rattle.explain_why.proofs.earlier.last_change.Given as goal

abbrev pub invariant-loop-entry : goal.invariant-loop-entry
invariant-loop-entry l =
    (settings : Settings) → IsNew settings (Ok l.fn.bench) →
    IsKnown settings l.obstacle (reverse (map line_act (take l.entry-index l.entries))) l.carried l.was_there l.line
