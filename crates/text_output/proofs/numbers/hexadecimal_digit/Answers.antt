use Rattle.std.proofs.Common.{◌≡◌, ◌%◌, ◌∙◌, ap, true, refl, arith}
use Rattle.std.specs.Fmt.{digit_glyph}
use Rattle.text_output.specs.declared.numbers.TheConstants.{PAIRS}
use Rattle.text_output.proofs.DigitTable.{are_pairs, pair_at}
use Rattle.text_output.proofs.numbers.hexadecimal_digit.Goals as goal

pub returns : goal.returns
unfolding are_pairs
returns c =
    let small : c.args.n % 16 ≡ c.args.n = omega (arith, c.requires) in
    (pair_at PAIRS 256 refl c.args.n (omega (arith, c.requires))).1 ∙ ap (digit_glyph true) small
