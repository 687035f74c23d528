use Rattle.std.proofs.Common.{◌++◌, ◌∙◌, sym, ap, take, drop, set, ◌+◌, true, refl}
use Rattle.std.proofs.lemmas.Fmt.{hex_byte}
use Rattle.text_output.specs.declared.numbers.TheConstants.{PAIRS}
use Rattle.text_output.proofs.DigitTable.{are_pairs, pair_at}
use Rattle.text_output.proofs.Places.{two_set}
use Rattle.text_output.proofs.numbers.write_pair.Goals as goal

pub returns : goal.returns
unfolding are_pairs
returns c =
    let places = c.args.places.now in
    let from = c.args.from in
    let both = pair_at PAIRS 256 refl c.args.byte c.requires.byte in
    (λ i. set (set places from (both.0 i)) (from + 1) (both.1 i))
    ∙ two_set places from _ _ c.requires.room
    ∙ ap (λ x. take from places ++ x ++ drop (from + 2) places) (sym (hex_byte true c.args.byte c.requires.byte))
