use Rattle.std.proofs.Common.{[], refl, arith}
use Rattle.script_steps.proofs.session.Session.new.Goals as goal

pub returns : goal.returns
returns c = λ settings is. record {
  lines = [];
  rest = [];
  within = record { cut = refl; each = tt; unended = (tt, omega arith); few = omega arith; room = λ some. absurd (omega arith) };
  count = refl;
  long = refl;
  kept = c.new-2.ensures;
  told = c.new.ensures;
  led = record { leads = is.1; met = tt };
  under = is.2;
  statements = refl;
  refused = refl;
}
