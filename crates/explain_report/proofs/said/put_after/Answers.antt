use Rattle.std.proofs.Common.{ℕ, List, ◌++◌, codes, subst}
use Rattle.text_output.specs.Writing.{Puts}
use Rattle.text_output.proofs.Gathering.{puts_both}
use Rattle.explain_text.specs.Json.{number_field, object_end, object_start}
use Rattle.script_steps.specs.Responses.{response_text}
use Rattle.explain_report.specs.SaidTexts.{answer_field}
use Rattle.explain_report.proofs.said.put_after.Goals as goal

pub returns : goal.returns
returns g c =
    let w0 = g.W.Write.contents c.args.writer.now in
    let g0 = c.args.gathered.now in
    let w1 = g.W.Write.contents c.put_object_start.new.writer in
    let g1 = c.put_object_start.new.gathered in
    let w2 = g.W.Write.contents c.put_number_field.new.writer in
    let g2 = c.put_number_field.new.gathered in
    let w3 = g.W.Write.contents c.put_answer_field.new.writer in
    let g3 = c.put_answer_field.new.gathered in
    let w4 = g.W.Write.contents c.put_object_end.new.writer in
    let g4 = c.put_object_end.new.gathered in
    let t1 : List ℕ = object_start (codes "after") in
    let t2 : List ℕ = number_field (codes "line") c.args.line in
    let t3 : List ℕ = answer_field (response_text c.args.shown.now c.args.response.now) in
    let t4 : List ℕ = object_end in
    (puts_both w0 w3 w4 g0 g3 g4 (t1 ++ t2 ++ t3) t4
    (puts_both w0 w2 w3 g0 g2 g3 (t1 ++ t2) t3
    (puts_both w0 w1 w2 g0 g1 g2 (t1) t2
    (c.put_object_start.ensures)
    (subst (λ (n : ℕ). Puts w1 w2 g1 g2 (number_field (codes "line") n)) c.from.ensures c.put_number_field.ensures))
    (c.put_answer_field.ensures))
    (c.put_object_end.ensures))
