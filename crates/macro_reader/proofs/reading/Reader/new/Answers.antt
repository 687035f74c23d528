use Rattle.std.proofs.Common.{[], refl, rules}
use Rattle.macro_reader.proofs.reading.Reader.new.Goals as goal

pub returns : goal.returns
returns c = record { counted = refl; between = ([], search rules) }
