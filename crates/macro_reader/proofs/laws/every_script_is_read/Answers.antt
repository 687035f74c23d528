use Rattle.macro_reader.proofs.Readings.{some_reading}
use Rattle.macro_reader.proofs.laws.every_script_is_read.Goals as goal

pub returns : goal.returns
returns c = some_reading
