use Rattle.std.proofs.Common.{◌≡◌, ◌++◌, drop, map, take}
use Rattle.storage_core.specs.Meaning.{state_of}
use Rattle.explain_findings.proofs.NameEntries.{after}
use Rattle.explain_findings.proofs.endings.Endings.end.Given as goal

abbrev pub invariant-loop-i : goal.invariant-loop-i
invariant-loop-i l =
    let es = l.initial.self.names.items in
    l.self.names.items ≡ map (after (state_of l.storage) l.can_end l.line) (take l.i es) ++ drop l.i es
