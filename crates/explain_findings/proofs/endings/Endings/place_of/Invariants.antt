use Rattle.std.proofs.Common.{◌≡◌, ◌+◌, drop}
use Rattle.explain_findings.specs.NameEndings.{place_of}
use Rattle.explain_findings.proofs.endings.Endings.place_of.Given as goal

abbrev pub invariant-loop-i : goal.invariant-loop-i
invariant-loop-i l =
    l.i + place_of (drop l.i l.self.names.items) l.name.bytes ≡ place_of l.self.names.items l.name.bytes
