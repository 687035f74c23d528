use Rattle.std.proofs.Common.{ap, ◌/◌}
use Rattle.vsm_model.specs.Names.{NamedState}
use Rattle.vsm_model.specs.Standing as plain
use Rattle.explain_standing.proofs.carried.Carried.new.Goals as goal

pub returns-clause-carried : goal.returns-clause-carried
returns-clause-carried c = λ settings is. record {
  present = ap (λ (b : plain.Bench NamedState). b.present) is.1;
  under = is.2;
  lines = λ d here. c.new.ensures d;
  cells = λ cell here. c.new-2.ensures (cell / 4);
  askers = λ line low. c.new-3.ensures line;
  births = λ task here. c.new-4.ensures task;
}
