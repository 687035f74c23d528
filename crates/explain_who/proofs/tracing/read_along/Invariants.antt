use Rattle.std.proofs.Common.{map, take, Ok}
use Rattle.bench_core.specs.Stands.{IsNew}
use Rattle.vsm_model.specs.declared.limits.Settings.{Settings}
use Rattle.explain_standing.specs.Carried.{line_act}
use Rattle.explain_who.proofs.Traced.{IsReadTo}
use Rattle.explain_who.proofs.tracing.read_along.Given as goal

abbrev pub invariant-loop-entry : goal.invariant-loop-entry
invariant-loop-entry l =
    (settings : Settings) → IsNew settings (Ok l.fn.bench) → IsReadTo settings l.asked (map line_act (take l.entry-index l.entries)) l.bench l.seen.items
