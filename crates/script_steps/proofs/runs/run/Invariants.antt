use Rattle.std.proofs.Common.{ℕ, List}
use Rattle.std.specs.Io.KnownBytes.{Consumes}
use Rattle.script_steps.specs.Run.{Runs}
use Rattle.text_output.specs.Writing.{IsEmpty}
use Rattle.script_steps.proofs.runs.run.Given as goal

abbrev pub invariant-reads : goal.invariant-reads
invariant-reads g l = (given : List ℕ) × Consumes (g.R.Read.remaining l.fn.reader) (g.R.Read.remaining l.reader) given
    × Runs l.fn.settings (g.W.Write.contents l.fn.writer) (g.W.Write.contents l.writer) l.gathered given l.session × IsEmpty l.gathered
