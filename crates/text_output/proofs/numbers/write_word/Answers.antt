use Rattle.std.proofs.Common.{◌≡◌, ◌+◌, ◌%◌, ◌++◌, ◌∙◌, ap, take, drop, arith}
use Rattle.vsm_model.specs.Texts.{hexadecimal}
use Rattle.text_output.proofs.DigitByDigit.{word_written}
use Rattle.text_output.proofs.Places.{written_before}
use Rattle.text_output.proofs.numbers.write_word.Goals as goal

pub returns : goal.returns
returns c =
    let places = c.args.places.now in
    let from = c.args.from in
    let n = c.args.n in
    let end : from + 6 + 2 ≡ from + 8 = omega arith in
    let last = c.write_pair.ensures ∙ ap (λ e. take (from + 6) places ++ hexadecimal 2 (n % 256) ++ drop e places) end in
    let third = written_before places _ _ _ _ (from + 4) (from + 6) (from + 4 + 2) (from + 8) (omega arith) (omega (arith, c.requires)) (omega arith) last c.write_pair-2.ensures in
    let second = written_before places _ _ _ _ (from + 2) (from + 4) (from + 2 + 2) (from + 8) (omega arith) (omega (arith, c.requires)) (omega arith) third c.write_pair-3.ensures in
    let first = written_before places _ _ _ _ from (from + 2) (from + 2) (from + 8) (omega arith) (omega (arith, c.requires)) (omega arith) second c.write_pair-4.ensures in
    first ∙ ap (λ x. take from places ++ x ++ drop (from + 8) places) (word_written n c.ranges.n.fits)
