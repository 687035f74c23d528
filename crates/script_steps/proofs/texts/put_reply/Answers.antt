use Rattle.std.proofs.Common.{◌++◌, ◌∙◌, subst, sym, ap}
use Rattle.std.specs.Prelude.{codes}
use Rattle.std.specs.Fmt.{decimal}
use Rattle.vsm_model.specs.Texts.{reply_text, hexadecimal}
use Rattle.text_output.specs.Writing.{Puts}
use Rattle.text_output.proofs.Gathering.{puts_both}
use Rattle.script_steps.proofs.texts.put_reply.Goals as goal

pub returns-in-Obtained : goal.returns-in-Obtained
returns-in-Obtained g c =
    let old = g.W.Write.contents c.args.writer.now in
    let first = g.W.Write.contents c.put.new.writer in
    let second = g.W.Write.contents c.put_hexadecimal.new.writer in
    let third = g.W.Write.contents c.put-in-Obtained.new.writer in
    let new = g.W.Write.contents c.put_hexadecimal-in-Obtained.new.writer in
    let before = c.args.gathered.now in
    let behind = c.put_hexadecimal-in-Obtained.new.gathered in
    let address = hexadecimal 8 c.in-Obtained.address in
    let length = hexadecimal 8 c.in-Obtained.length in
    subst (Puts old new before behind) (ap reply_text (sym c.in-Obtained.is))
    (puts_both old third new before c.put-in-Obtained.new.self behind (codes "RC=0 A=" ++ address ++ codes " L=") length
    (puts_both old second third before c.put_hexadecimal.new.gathered c.put-in-Obtained.new.self (codes "RC=0 A=" ++ address) (codes " L=")
    (puts_both old first second before c.put.new.self c.put_hexadecimal.new.gathered (codes "RC=0 A=") address c.put.ensures.puts c.put_hexadecimal.ensures)
    c.put-in-Obtained.ensures.puts)
    c.put_hexadecimal-in-Obtained.ensures)

pub returns-in-Returned : goal.returns-in-Returned
returns-in-Returned g c =
    let old = g.W.Write.contents c.args.writer.now in
    let now = g.W.Write.contents c.put-in-Returned.new.writer in
    let new = g.W.Write.contents c.put_decimal.new.writer in
    subst (Puts old new c.args.gathered.now c.put_decimal.new.gathered) (ap (λ n. codes "RC=" ++ decimal n) c.from.ensures ∙ ap reply_text (sym c.in-Returned.is))
    (puts_both old now new c.args.gathered.now c.put-in-Returned.new.self c.put_decimal.new.gathered
    (codes "RC=") (decimal c.from.result) c.put-in-Returned.ensures.puts c.put_decimal.ensures)

pub returns-in-Cell : goal.returns-in-Cell
returns-in-Cell g c =
    let old = g.W.Write.contents c.args.writer.now in
    let now = g.W.Write.contents c.put-in-Cell.new.writer in
    let new = g.W.Write.contents c.put_hexadecimal-in-Cell.new.writer in
    subst (Puts old new c.args.gathered.now c.put_hexadecimal-in-Cell.new.gathered) (ap reply_text (sym c.in-Cell.is))
    (puts_both old now new c.args.gathered.now c.put-in-Cell.new.self c.put_hexadecimal-in-Cell.new.gathered
    (codes "RC=0 A=") (hexadecimal 8 c.in-Cell.cell) c.put-in-Cell.ensures.puts c.put_hexadecimal-in-Cell.ensures)

pub returns-in-Attached : goal.returns-in-Attached
returns-in-Attached g c =
    let old = g.W.Write.contents c.args.writer.now in
    let now = g.W.Write.contents c.put-in-Attached.new.writer in
    let new = g.W.Write.contents c.put_decimal-in-Attached.new.writer in
    subst (Puts old new c.args.gathered.now c.put_decimal-in-Attached.new.gathered) (ap (λ n. codes "RC=0 T=" ++ decimal n) c.from-in-Attached.ensures ∙ ap reply_text (sym c.in-Attached.is))
    (puts_both old now new c.args.gathered.now c.put-in-Attached.new.self c.put_decimal-in-Attached.new.gathered
    (codes "RC=0 T=") (decimal c.from-in-Attached.result) c.put-in-Attached.ensures.puts c.put_decimal-in-Attached.ensures)

pub returns-in-Turn : goal.returns-in-Turn
returns-in-Turn g c =
    let old = g.W.Write.contents c.args.writer.now in
    let now = g.W.Write.contents c.put-in-Turn.new.writer in
    let new = g.W.Write.contents c.put_decimal-in-Turn.new.writer in
    subst (Puts old new c.args.gathered.now c.put_decimal-in-Turn.new.gathered) (ap (λ n. codes "T=" ++ decimal n) c.from-in-Turn.ensures ∙ ap reply_text (sym c.in-Turn.is))
    (puts_both old now new c.args.gathered.now c.put-in-Turn.new.self c.put_decimal-in-Turn.new.gathered
    (codes "T=") (decimal c.from-in-Turn.result) c.put-in-Turn.ensures.puts c.put_decimal-in-Turn.ensures)

pub returns-in-Stored : goal.returns-in-Stored
returns-in-Stored g c =
    let old = g.W.Write.contents c.args.writer.now in
    let new = g.W.Write.contents c.put-in-Stored.new.writer in
    subst (Puts old new c.args.gathered.now c.put-in-Stored.new.self) (ap reply_text (sym c.in-Stored.is)) c.put-in-Stored.ensures.puts
