use Rattle.std.proofs.Common.{◌≡◌, ◌-◌, ◌++◌, ◌∷◌, [], take, drop, ap, sym, ◌∙◌, subst, arith}
use Rattle.std.proofs.lemmas.Grind.{replicate_next}
use Rattle.std.proofs.lemmas.List.{append-nil, take_rest}
use Rattle.vsm_model.specs.Texts.{hexadecimal}
use Rattle.text_output.specs.Writing.{Puts}
use Rattle.text_output.proofs.Gathering.{puts_both, puts_none}
use Rattle.text_output.proofs.DigitByDigit.{zeros, zeros_in_front}
use Rattle.text_output.proofs.numbers.put_hexadecimal.Goals as goal

pub loop-init : goal.loop-init
loop-init g c = puts_none _ _

pub loop-preserved : goal.loop-preserved
loop-preserved g c =
    let l = c.loop in
    let old = g.W.Write.contents c.args.writer.now in
    let now = g.W.Write.contents l.writer in
    let new = g.W.Write.contents c.put-in-loop.new.writer in
    subst (Puts old new c.args.gathered.now c.put-in-loop.new.self) (sym (replicate_next l.counter 48))
    (puts_both old now new c.args.gathered.now l.gathered c.put-in-loop.new.self (zeros l.counter) (48 ∷ []) l.invariant c.put-in-loop.ensures.puts)

pub returns-then-width-eq8 : goal.returns-then-width-eq8
returns-then-width-eq8 g c =
    let old = g.W.Write.contents c.args.writer.now in
    let new = g.W.Write.contents c.put.new.writer in
    subst (Puts old new c.args.gathered.now c.put.new.self) (c.write_word.ensures ∙ append-nil (hexadecimal 8 c.args.n) ∙ ap (λ w. hexadecimal w c.args.n) (sym c.if-width-eq8.true)) c.put.ensures.puts

pub returns : goal.returns
returns g c =
    let width = c.args.width in
    let n = c.args.n in
    let old = g.W.Write.contents c.args.writer.now in
    let now = g.W.Write.contents c.loop.writer in
    let new = g.W.Write.contents c.put-2.new.writer in
    let first = c.hexadecimal_digits-first.result in
    let places = c.hexadecimal_digits-first.new.places in
    let digits = take (8 - first) (drop first places) in
    let whole : digits ≡ drop first places =
    ap (λ n. take (n - first) (drop first places)) (sym c.hexadecimal_digits-first.array_long) ∙ take_rest places first in
    let more : c.loop.counter ≡ width - 8 = omega (arith, c.loop-test.false, c.loop.auto.counter-end, c.saturating_sub-end.ensures) in
    let all : zeros c.loop.counter ++ digits ≡ hexadecimal width n =
    ap (λ k. zeros k ++ digits) more
    ∙ ap (λ x. zeros (width - 8) ++ x) (whole ∙ c.hexadecimal_digits-first.ensures.digits ∙ ap (λ w. hexadecimal w n) c.min.ensures)
    ∙ sym (zeros_in_front width n c.ranges.n.fits) in
    subst (Puts old new c.args.gathered.now c.put-2.new.self) all
    (puts_both old now new c.args.gathered.now c.loop.gathered c.put-2.new.self (zeros c.loop.counter) digits c.loop.invariant c.put-2.ensures.puts)
