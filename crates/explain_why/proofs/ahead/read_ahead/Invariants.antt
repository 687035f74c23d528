use Rattle.explain_why.proofs.Reading.{IsReadSoFar}
use Rattle.explain_why.proofs.ahead.read_ahead.Given as goal

abbrev pub invariant-loop-lines : goal.invariant-loop-lines
invariant-loop-lines l = IsReadSoFar l.text l.at l.lines l.places.lines.items l.reader
