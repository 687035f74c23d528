use Rattle.std.proofs.Common.{refl}
use Rattle.text_output.proofs.writing.Gathered.new.Goals as goal

pub returns : goal.returns
returns c = (c.new.ensures, refl)
