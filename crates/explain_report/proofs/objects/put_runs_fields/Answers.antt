use Rattle.std.proofs.Common.{ℕ, List, ◌++◌, ◌*◌, ◌∙◌, codes, nat_lt, ap, subst}
use Rattle.text_output.specs.Writing.{Puts}
use Rattle.text_output.proofs.Gathering.{puts_both}
use Rattle.explain_text.specs.Json.{number_field}
use Rattle.explain_report.specs.Values.{shown_address}
use Rattle.explain_report.specs.Objects.{at_field}
use Rattle.explain_report.proofs.objects.put_runs_fields.Goals as goal

pub returns : goal.returns
returns g c =
    let w0 = g.W.Write.contents c.args.writer.now in
    let g0 = c.args.gathered.now in
    let w1 = g.W.Write.contents c.put_number_field.new.writer in
    let g1 = c.put_number_field.new.gathered in
    let w2 = g.W.Write.contents c.put_number_field-2.new.writer in
    let g2 = c.put_number_field-2.new.gathered in
    let w3 = g.W.Write.contents c.put_number_field-3.new.writer in
    let g3 = c.put_number_field-3.new.gathered in
    let w4 = g.W.Write.contents c.put_number_field-4.new.writer in
    let g4 = c.put_number_field-4.new.gathered in
    let w5 = g.W.Write.contents c.put_at.new.writer in
    let g5 = c.put_at.new.gathered in
    let runs = c.args.runs.now in
    let t1 : List ℕ = number_field (codes "pages") runs.total in
    let t2 : List ℕ = number_field (codes "runs") runs.count in
    let t3 : List ℕ = number_field (codes "longest") runs.longest in
    let t4 : List ℕ = number_field (codes "bytes") (4096 * runs.longest) in
    let t5 : List ℕ = at_field (shown_address (nat_lt 0 runs.longest) (4096 * runs.at)) in
    (puts_both w0 w4 w5 g0 g4 g5 (t1 ++ t2 ++ t3 ++ t4) t5
    (puts_both w0 w3 w4 g0 g3 g4 (t1 ++ t2 ++ t3) t4
    (puts_both w0 w2 w3 g0 g2 g3 (t1 ++ t2) t3
    (puts_both w0 w1 w2 g0 g1 g2 (t1) t2
    (subst (λ (n : ℕ). Puts w0 w1 g0 g1 (number_field (codes "pages") n)) c.from.ensures c.put_number_field.ensures)
    (subst (λ (n : ℕ). Puts w1 w2 g1 g2 (number_field (codes "runs") n)) c.from-2.ensures c.put_number_field-2.ensures))
    (subst (λ (n : ℕ). Puts w2 w3 g2 g3 (number_field (codes "longest") n)) c.from-3.ensures c.put_number_field-3.ensures))
    (subst (λ (n : ℕ). Puts w3 w4 g3 g4 (number_field (codes "bytes") n)) c.bytes_of.ensures c.put_number_field-4.ensures))
    (subst (λ a. Puts w4 w5 g4 g5 (at_field a)) (c.shown_address-at.ensures ∙ ap (λ n. shown_address (nat_lt 0 runs.longest) n) c.bytes_of-2.ensures) c.put_at.ensures))
