use Rattle.std.proofs.Common.{◌++◌, ◌∙◌, subst, sym, ap}
use Rattle.std.specs.Prelude.{codes}
use Rattle.vsm_model.specs.Texts.{code_text, hexadecimal, padded_decimal}
use Rattle.text_output.specs.Writing.{Puts}
use Rattle.text_output.proofs.Gathering.{puts_both}
use Rattle.script_steps.proofs.texts.put_code.Goals as goal

pub returns-in-System : goal.returns-in-System
returns-in-System g c =
    let old = g.W.Write.contents c.args.writer.now in
    let now = g.W.Write.contents c.put.new.writer in
    let new = g.W.Write.contents c.put_hexadecimal.new.writer in
    subst (Puts old new c.args.gathered.now c.put_hexadecimal.new.gathered) (ap (λ n. codes "S" ++ hexadecimal 3 n) c.from.ensures ∙ ap code_text (sym c.in-System.is))
    (puts_both old now new c.args.gathered.now c.put.new.self c.put_hexadecimal.new.gathered
    (codes "S") (hexadecimal 3 c.from.result) c.put.ensures.puts c.put_hexadecimal.ensures)

pub returns-in-User : goal.returns-in-User
returns-in-User g c =
    let old = g.W.Write.contents c.args.writer.now in
    let now = g.W.Write.contents c.put-in-User.new.writer in
    let new = g.W.Write.contents c.put_padded_decimal.new.writer in
    subst (Puts old new c.args.gathered.now c.put_padded_decimal.new.gathered) (ap (λ n. codes "U" ++ padded_decimal 4 n) c.from-in-User.ensures ∙ ap code_text (sym c.in-User.is))
    (puts_both old now new c.args.gathered.now c.put-in-User.new.self c.put_padded_decimal.new.gathered
    (codes "U") (padded_decimal 4 c.from-in-User.result) c.put-in-User.ensures.puts c.put_padded_decimal.ensures)
