use Rattle.explain_faults.proofs.FieldBytes.{bytes_are_there}
use Rattle.explain_faults.proofs.laws.field_bytes_are_there.Goals as goal

pub returns : goal.returns
returns c = bytes_are_there
