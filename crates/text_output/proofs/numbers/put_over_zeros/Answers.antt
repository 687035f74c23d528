use Rattle.std.proofs.Common.{◌≡◌, ◌++◌, codes, drop, take, subst, sym, ap, ◌∙◌, arith}
use Rattle.std.proofs.lemmas.Fmt.{length-decimal-le}
use Rattle.std.proofs.lemmas.List.{take_rest, take-append-drop}
use Rattle.vsm_model.specs.Texts.{padded_decimal}
use Rattle.text_output.specs.Writing.{Puts}
use Rattle.text_output.proofs.DigitByDigit.{padded_over_zeros}
use Rattle.text_output.proofs.Places.{ten_long}
use Rattle.text_output.proofs.numbers.put_over_zeros.Goals as goal

pub write_digits-first-requires : goal.write_digits-first-requires
write_digits-first-requires g c = (length-decimal-le 10 c.from.result (omega arith) (omega arith) (omega arith), ten_long c.args.places.now c.requires)

pub returns : goal.returns
returns g c =
    let w = c.write_digits-first in
    let places = w.new.buf in
    let behind = drop 10 c.args.places.now in
    let split : c.args.places.now ≡ codes "0000000000" ++ behind =
    sym (take-append-drop 10 c.args.places.now) ∙ ap (λ x. x ++ behind) c.requires in
    let shown : drop c.min.result places ≡ padded_decimal 7 c.args.n ++ behind =
    ap (λ i. drop i places) c.min.ensures
    ∙ padded_over_zeros 7 c.from.result w.result places behind (omega arith) w.ensures.start w.ensures.written (w.ensures.before ∙ ap (take w.result) split)
    ∙ ap (λ n. padded_decimal 7 n ++ behind) c.from.ensures in
    subst (Puts (g.W.Write.contents c.args.writer.now) (g.W.Write.contents c.put.new.writer) c.args.gathered.now c.put.new.self)
    (take_rest places c.min.result ∙ shown) c.put.ensures.puts
