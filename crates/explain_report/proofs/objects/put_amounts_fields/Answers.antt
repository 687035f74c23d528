use Rattle.std.proofs.Common.{ℕ, List, ◌++◌, ◌*◌, codes, ap, subst}
use Rattle.text_output.specs.Writing.{Puts}
use Rattle.text_output.proofs.Gathering.{puts_both}
use Rattle.explain_text.specs.Json.{number_field}
use Rattle.explain_report.specs.Values.{taken_of}
use Rattle.explain_report.proofs.objects.put_amounts_fields.Goals as goal

pub returns : goal.returns
returns g c =
    let w0 = g.W.Write.contents c.args.writer.now in
    let g0 = c.args.gathered.now in
    let w1 = g.W.Write.contents c.put_number_field.new.writer in
    let g1 = c.put_number_field.new.gathered in
    let w2 = g.W.Write.contents c.put_number_field-2.new.writer in
    let g2 = c.put_number_field-2.new.gathered in
    let w3 = g.W.Write.contents c.put_number_field-3.new.writer in
    let g3 = c.put_number_field-3.new.gathered in
    let w4 = g.W.Write.contents c.put_number_field-4.new.writer in
    let g4 = c.put_number_field-4.new.gathered in
    let w5 = g.W.Write.contents c.put_number_field-5.new.writer in
    let g5 = c.put_number_field-5.new.gathered in
    let share = c.args.share.now in
    let t1 : List ℕ = number_field (codes "pages") share.pages in
    let t2 : List ℕ = number_field (codes "taken") (taken_of share) in
    let t3 : List ℕ = number_field (codes "free") (8 * share.free.total) in
    let t4 : List ℕ = number_field (codes "areas") share.free.count in
    let t5 : List ℕ = number_field (codes "largest") (8 * share.largest) in
    (puts_both w0 w4 w5 g0 g4 g5 (t1 ++ t2 ++ t3 ++ t4) t5
    (puts_both w0 w3 w4 g0 g3 g4 (t1 ++ t2 ++ t3) t4
    (puts_both w0 w2 w3 g0 g2 g3 (t1 ++ t2) t3
    (puts_both w0 w1 w2 g0 g1 g2 (t1) t2
    (subst (λ (n : ℕ). Puts w0 w1 g0 g1 (number_field (codes "pages") n)) c.from.ensures c.put_number_field.ensures)
    (subst (λ (n : ℕ). Puts w1 w2 g1 g2 (number_field (codes "taken") n)) c.taken_of.ensures c.put_number_field-2.ensures))
    (subst (λ (n : ℕ). Puts w2 w3 g2 g3 (number_field (codes "free") n)) (ap (λ n. 8 * n) c.from-free.ensures) c.put_number_field-3.ensures))
    (subst (λ (n : ℕ). Puts w3 w4 g3 g4 (number_field (codes "areas") n)) c.from-2.ensures c.put_number_field-4.ensures))
    (subst (λ (n : ℕ). Puts w4 w5 g4 g5 (number_field (codes "largest") n)) (ap (λ n. 8 * n) c.from-largest.ensures) c.put_number_field-5.ensures))
