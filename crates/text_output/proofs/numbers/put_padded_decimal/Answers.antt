use Rattle.std.proofs.Common.{rules, ◌≡◌, ◌-◌, [], drop, take, length, subst, sym, ap, ◌∙◌, arith}
use Rattle.std.proofs.lemmas.Fmt.{length-decimal-le}
use Rattle.std.proofs.lemmas.List.{append-nil, take_rest}
use Rattle.vsm_model.specs.Texts.{padded_decimal}
use Rattle.text_output.specs.Writing.{Puts}
use Rattle.text_output.proofs.DigitByDigit.{padded_over_zeros, long_over_zeros}
use Rattle.text_output.proofs.numbers.put_padded_decimal.Goals as goal

pub write_digits-first-requires : goal.write_digits-first-requires
write_digits-first-requires g c = search (rules, length-decimal-le 10)

pub returns : goal.returns
returns g c =
    let width = c.args.width in
    let w = c.write_digits-first in
    let places = w.new.buf in
    let k = c.min.result in
    let long : length places ≡ 10 = long_over_zeros c.from.result w.result places [] w.ensures.start w.ensures.written w.ensures.before in
    let whole : take (10 - k) (drop k places) ≡ drop k places =
    ap (λ l. take (l - k) (drop k places)) (sym long) ∙ take_rest places k in
    let shown : drop k places ≡ padded_decimal width c.args.n =
    ap (λ i. drop i places) c.min.ensures
    ∙ padded_over_zeros width c.from.result w.result places [] (omega (arith, c.requires)) w.ensures.start w.ensures.written w.ensures.before
    ∙ append-nil (padded_decimal width c.from.result) ∙ ap (padded_decimal width) c.from.ensures in
    subst (Puts (g.W.Write.contents c.args.writer.now) (g.W.Write.contents c.put.new.writer) c.args.gathered.now c.put.new.self)
    (whole ∙ shown) c.put.ensures.puts
