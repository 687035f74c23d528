use Rattle.std.proofs.Common.{[], map, reverse, take}
use Rattle.vsm_model.specs.declared.limits.Settings.{Settings}
use Rattle.explain_standing.specs.Carried.{IsCarried, line_act}
use Rattle.explain_standing.proofs.carried.Carried.carry_out_all.Given as goal

abbrev pub invariant-loop-entry : goal.invariant-loop-entry
invariant-loop-entry l =
    (settings : Settings) → IsCarried settings [] l.initial.self → IsCarried settings (reverse (map line_act (take l.entry-index l.entries))) l.self
