use Rattle.std.proofs.Common.{◌≡◌, ◌-◌, ◌<◌, ◌≤◌, ◌⊎◌, inl, inr, length, arith}
use Rattle.text_output.proofs.DigitByDigit.{room_in_front, fits_in_front, one_in_front, first_written}
use Rattle.text_output.proofs.numbers.hexadecimal_digits.Goals.{then-digits-gt1, else-digits-gt1+then-rest-ge16}
use Rattle.text_output.proofs.numbers.hexadecimal_digits.Goals as goal

pub loop-digits-preserved : goal.loop-digits-preserved
loop-digits-preserved c =
    let l = c.loop-digits in
    let some : (1 < l.digits) ⊎ (16 ≤ l.rest) = elim c.if-digits-gt1.branch [
      | then-digits-gt1 w ↦ inl w.if-digits-gt1.true
      | else-digits-gt1+then-rest-ge16 w ↦ inr w.if-rest-ge16.true
    ] in
    let front : 1 ≤ l.place = room_in_front l.digits l.rest l.place l.invariant.few l.invariant.small some in
    let less : c.saturating_sub-digits.result ≡ l.digits - 1 = c.saturating_sub-digits.ensures in
    let within : l.place < length l.places = omega (arith, l.invariant.place) in
    record {
      rest = rw less (one_in_front _ l.digits l.rest l.place l.places c.hexadecimal_digit.result some (omega (arith, l.auto.rest-fits)) within front c.hexadecimal_digit.ensures l.invariant.rest);
      place = omega (arith, l.invariant.place);
      few = omega (arith, l.invariant.few, less);
      small = fits_in_front l.rest l.place front l.invariant.small;
    }

pub returns-clause-digits : goal.returns-clause-digits
returns-clause-digits c =
    let l = c.loop-digits in
    first_written _ l.digits l.rest l.place l.places c.hexadecimal_digit-2.result c.if-digits-gt1.false (omega (arith, c.if-rest-ge16.false)) (omega (arith, l.invariant.place))
    c.hexadecimal_digit-2.ensures l.invariant.rest
