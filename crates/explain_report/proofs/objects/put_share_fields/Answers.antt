use Rattle.std.proofs.Common.{ℕ, List, ◌++◌, ◌*◌, ◌∙◌, codes, nat_lt, ap, subst}
use Rattle.text_output.specs.Writing.{Puts}
use Rattle.text_output.proofs.Gathering.{puts_both}
use Rattle.explain_text.specs.Json.{number_field}
use Rattle.explain_report.specs.Values.{could_get, fragmented, shown_address}
use Rattle.explain_report.specs.Objects.{amounts_fields, at_field}
use Rattle.explain_report.proofs.objects.put_share_fields.Goals as goal

pub returns : goal.returns
returns g c =
    let w0 = g.W.Write.contents c.args.writer.now in
    let g0 = c.args.gathered.now in
    let w1 = g.W.Write.contents c.put_amounts_fields.new.writer in
    let g1 = c.put_amounts_fields.new.gathered in
    let w2 = g.W.Write.contents c.put_at.new.writer in
    let g2 = c.put_at.new.gathered in
    let w3 = g.W.Write.contents c.put_number_field.new.writer in
    let g3 = c.put_number_field.new.gathered in
    let w4 = g.W.Write.contents c.put_number_field-2.new.writer in
    let g4 = c.put_number_field-2.new.gathered in
    let share = c.args.share.now in
    let t1 : List ℕ = amounts_fields share in
    let t2 : List ℕ = at_field (shown_address (nat_lt 0 share.largest) (8 * share.free.at)) in
    let t3 : List ℕ = number_field (codes "fragmented") (fragmented share.largest share.free.total) in
    let t4 : List ℕ = number_field (codes "could_get") (could_get share) in
    (puts_both w0 w3 w4 g0 g3 g4 (t1 ++ t2 ++ t3) t4
    (puts_both w0 w2 w3 g0 g2 g3 (t1 ++ t2) t3
    (puts_both w0 w1 w2 g0 g1 g2 (t1) t2
    (c.put_amounts_fields.ensures)
    (subst (λ a. Puts w1 w2 g1 g2 (at_field a)) (c.shown_address-at.ensures ∙ ap (λ n. shown_address (nat_lt 0 share.largest) (8 * n)) c.from.ensures) c.put_at.ensures))
    (subst (λ (n : ℕ). Puts w2 w3 g2 g3 (number_field (codes "fragmented") n)) c.fragmented-lacks.ensures c.put_number_field.ensures))
    (subst (λ (n : ℕ). Puts w3 w4 g3 g4 (number_field (codes "could_get") n)) c.could_get.ensures c.put_number_field-2.ensures))
