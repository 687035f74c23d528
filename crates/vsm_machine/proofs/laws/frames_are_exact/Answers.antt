use Rattle.vsm_machine.proofs.FrameLemmas.{frames-exact}
use Rattle.vsm_machine.proofs.laws.frames_are_exact.Goals as goal

pub returns : goal.returns
returns c = frames-exact
