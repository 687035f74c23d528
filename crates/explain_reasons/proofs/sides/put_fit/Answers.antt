use Rattle.std.proofs.Common.{◌++◌, ℕ, subst}
use Rattle.std.specs.Prelude.{codes}
use Rattle.vsm_model.specs.Texts.{hexadecimal}
use Rattle.text_output.specs.Writing.{Puts}
use Rattle.text_output.proofs.Gathering.{puts_both}
use Rattle.explain_reasons.proofs.sides.put_fit.Goals as goal

pub returns : goal.returns
returns g c =
    let old = g.W.Write.contents c.args.writer.now in
    let first = g.W.Write.contents c.put.new.writer in
    let second = g.W.Write.contents c.put_hexadecimal.new.writer in
    let new = g.W.Write.contents c.put-2.new.writer in
    let words = codes "fits: the lowest place is " in
    let digits = hexadecimal 8 c.saturating_mul.result in
    subst (λ (n : ℕ). Puts old new c.args.gathered.now c.put-2.new.self (words ++ hexadecimal 8 n ++ codes "\n")) c.saturating_mul.ensures
    (puts_both old second new c.args.gathered.now c.put_hexadecimal.new.gathered c.put-2.new.self (words ++ digits) (codes "\n")
    (puts_both old first second c.args.gathered.now c.put.new.self c.put_hexadecimal.new.gathered words digits c.put.ensures.puts c.put_hexadecimal.ensures)
    c.put-2.ensures.puts)
