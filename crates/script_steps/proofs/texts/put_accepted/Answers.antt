use Rattle.std.proofs.Common.{◌++◌, ap, subst, sym, arith}
use Rattle.std.proofs.lemmas.Fmt.{decimal_digit}
use Rattle.std.specs.Prelude.{codes}
use Rattle.script_steps.specs.Responses.{numbered}
use Rattle.text_output.specs.Writing.{Puts}
use Rattle.script_steps.proofs.texts.put_accepted.Goals as goal

pub returns : goal.returns
returns g c =
    let old = g.W.Write.contents c.args.writer.now in
    let new = g.W.Write.contents c.put_over_zeros.new.writer in
    subst (Puts old new c.args.gathered.now c.put_over_zeros.new.gathered)
    (ap (λ digits. numbered c.args.line (codes "RC=" ++ digits)) (sym (decimal_digit 0 (omega arith)))) c.put_over_zeros.ensures
