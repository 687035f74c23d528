use Rattle.std.proofs.Common.{ℕ, List, ◌++◌, ◌+◌, codes, subst}
use Rattle.text_output.specs.Writing.{Puts}
use Rattle.text_output.proofs.Gathering.{puts_both}
use Rattle.explain_text.specs.Json.{number_field, object_end, object_start}
use Rattle.explain_report.proofs.objects.put_total_object.Goals as goal

pub returns : goal.returns
returns g c =
    let w0 = g.W.Write.contents c.args.writer.now in
    let g0 = c.args.gathered.now in
    let w1 = g.W.Write.contents c.put_object_start.new.writer in
    let g1 = c.put_object_start.new.gathered in
    let w2 = g.W.Write.contents c.put_number_field.new.writer in
    let g2 = c.put_number_field.new.gathered in
    let w3 = g.W.Write.contents c.put_number_field-2.new.writer in
    let g3 = c.put_number_field-2.new.gathered in
    let w4 = g.W.Write.contents c.put_number_field-3.new.writer in
    let g4 = c.put_number_field-3.new.gathered in
    let w5 = g.W.Write.contents c.put_number_field-4.new.writer in
    let g5 = c.put_number_field-4.new.gathered in
    let w6 = g.W.Write.contents c.put_object_end.new.writer in
    let g6 = c.put_object_end.new.gathered in
    let m = c.args.moment.now in
    let t1 : List ℕ = object_start (codes "total") in
    let t2 : List ℕ = number_field (codes "pages") (m.totals.low_pages + m.totals.high_pages) in
    let t3 : List ℕ = number_field (codes "taken") m.totals.taken in
    let t4 : List ℕ = number_field (codes "free") m.totals.free in
    let t5 : List ℕ = number_field (codes "areas") m.free.count in
    let t6 : List ℕ = object_end in
    (puts_both w0 w5 w6 g0 g5 g6 (t1 ++ t2 ++ t3 ++ t4 ++ t5) t6
    (puts_both w0 w4 w5 g0 g4 g5 (t1 ++ t2 ++ t3 ++ t4) t5
    (puts_both w0 w3 w4 g0 g3 g4 (t1 ++ t2 ++ t3) t4
    (puts_both w0 w2 w3 g0 g2 g3 (t1 ++ t2) t3
    (puts_both w0 w1 w2 g0 g1 g2 (t1) t2
    (c.put_object_start.ensures)
    (subst (λ (n : ℕ). Puts w1 w2 g1 g2 (number_field (codes "pages") n)) (λ i. c.from.ensures i + c.from-2.ensures i) c.put_number_field.ensures))
    (c.put_number_field-2.ensures))
    (c.put_number_field-3.ensures))
    (subst (λ (n : ℕ). Puts w4 w5 g4 g5 (number_field (codes "areas") n)) c.from-areas.ensures c.put_number_field-4.ensures))
    (c.put_object_end.ensures))
