use Rattle.std.proofs.Common.{ap}
use Rattle.macro_reader.specs.Modes.{mode_of}
use Rattle.macro_reader.proofs.reading.Reader.finish.Goals as goal

pub returns-clause-mode : goal.returns-clause-mode
returns-clause-mode c = ap (λ mode. mode_of mode c.self.inside.statement) c.replace.ensures.after
