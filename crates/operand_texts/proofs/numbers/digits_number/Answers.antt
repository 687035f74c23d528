use Rattle.std.proofs.Common.{◌≡◌, get_or, arith, sym, ◌∙◌}
use Rattle.std.specs.Char.{digit_value}
use Rattle.std.proofs.lemmas.Grind.{common_steps}
use Rattle.std.proofs.lemmas.Int.Digits.{digits_value_more}
use Rattle.std.proofs.lemmas.List.{take_all}
use Rattle.operand_texts.proofs.Digits.{spelled, too_great}
use Rattle.operand_texts.proofs.numbers.digits_number.Goals as goal

pub returns-in_err-checked_mul : goal.returns-in_err-checked_mul
returns-in_err-checked_mul c =
    c.from_residual-in_err-checked_mul.ensures
    ∙ sym (too_great c.args.radix c.args.most c.args.text.now c.loop-byte.byte-index (omega arith) (omega arith)
    (rw (← c.loop-byte.invariant.value) (omega (arith, c.in_err-checked_mul.ensures))))

pub returns-in_err-number : goal.returns-in_err-number
returns-in_err-number c =
    let digit : c.in_ok-digit.digit ≡ digit_value (get_or c.args.text.now c.loop-byte.byte-index 0) = grind (arith, common_steps) in
    c.from_residual-in_err-number.ensures
    ∙ sym (too_great c.args.radix c.args.most c.args.text.now c.loop-byte.byte-index (omega arith) (omega arith)
    (rw (← c.loop-byte.invariant.value, ← digit) (omega (arith, c.in_err-number.ensures, c.in_ok-checked_mul.ensures))))

pub loop-byte-preserved : goal.loop-byte-preserved
loop-byte-preserved c =
    let digit : c.in_ok-digit.digit ≡ digit_value (get_or c.args.text.now c.loop-byte.byte-index 0) = grind (arith, common_steps) in
    record {
      value = (rw (digits_value_more c.args.radix c.args.text.now c.loop-byte.byte-index (omega arith), ← c.loop-byte.invariant.value, ← digit) (omega (arith, c.in_ok-number.ensures, c.in_ok-checked_mul.ensures)));
      small = omega (arith, c.in_ok-number.ensures);
      all = grind (arith, common_steps);
    }

pub returns : goal.returns
returns c =
    let whole = take_all c.loop-byte.byte-index c.args.text.now c.loop-byte-test.false in
    spelled c.args.radix c.args.most c.args.text.now c.loop-byte.number (rw whole at c.loop-byte.invariant.value) (rw whole at c.loop-byte.invariant.all)
    c.loop-byte.invariant.small c.if-is_empty.ensures c.if-text-most.false
