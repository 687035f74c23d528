use Rattle.std.proofs.Common.{◌≡◌, ◌+◌, ◌^◌, ◌<◌, ◌≤◌, ◌++◌, drop}
use Rattle.vsm_model.specs.Texts.{hexadecimal}
use Rattle.text_output.proofs.numbers.hexadecimal_digits.Given as goal

abbrev pub invariant-loop-digits : goal.invariant-loop-digits
invariant-loop-digits l = record {
  rest : hexadecimal l.fn.width l.fn.n ≡ hexadecimal l.digits l.rest ++ drop (l.place + 1) l.places;
  place : l.place ≤ 7;
  few : l.digits ≤ l.place + 1;
  small : l.rest < 16 ^ (l.place + 1);
}

abbrev pub decreases-loop-digits : goal.decreases-loop-digits
decreases-loop-digits l = l.place
