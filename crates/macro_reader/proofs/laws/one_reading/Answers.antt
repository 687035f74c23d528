use Rattle.macro_reader.proofs.Readings.{one_reading}
use Rattle.macro_reader.proofs.laws.one_reading.Goals as goal

pub returns : goal.returns
returns c = one_reading
