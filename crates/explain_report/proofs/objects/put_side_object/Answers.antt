use Rattle.std.proofs.Common.{ℕ, List, ◌++◌, codes, subst}
use Rattle.text_output.specs.Writing.{Puts}
use Rattle.text_output.proofs.Gathering.{puts_both}
use Rattle.explain_text.specs.Json.{number_field, object_end, object_start, string_field}
use Rattle.explain_report.specs.Objects.{share_fields, sharers_field}
use Rattle.vsm_model.specs.Map.{sharers}
use Rattle.storage_core.specs.Meaning.{state_of}
use Rattle.explain_report.proofs.objects.put_side_object.Goals as goal

pub returns : goal.returns
returns g c =
    let w0 = g.W.Write.contents c.args.writer.now in
    let g0 = c.args.gathered.now in
    let w1 = g.W.Write.contents c.put_object_start.new.writer in
    let g1 = c.put_object_start.new.gathered in
    let w2 = g.W.Write.contents c.put_number_field.new.writer in
    let g2 = c.put_number_field.new.gathered in
    let w3 = g.W.Write.contents c.put_number_field-2.new.writer in
    let g3 = c.put_number_field-2.new.gathered in
    let w4 = g.W.Write.contents c.put_string_field.new.writer in
    let g4 = c.put_string_field.new.gathered in
    let w5 = g.W.Write.contents c.put_share_fields.new.writer in
    let g5 = c.put_share_fields.new.gathered in
    let w6 = g.W.Write.contents c.put_sharers.new.writer in
    let g6 = c.put_sharers.new.gathered in
    let w7 = g.W.Write.contents c.put_object_end.new.writer in
    let g7 = c.put_object_end.new.gathered in
    let row = c.args.row.now in
    let t1 : List ℕ = object_start (codes "subpool") in
    let t2 : List ℕ = number_field (codes "subpool") row.subpool.number in
    let t3 : List ℕ = number_field (codes "owner") row.subpool.owner in
    let t4 : List ℕ = string_field (codes "side") c.args.side.now in
    let t5 : List ℕ = share_fields c.args.share.now in
    let t6 : List ℕ = sharers_field (sharers (state_of c.args.storage.now) row.subpool.number row.subpool.owner) in
    let t7 : List ℕ = object_end in
    (puts_both w0 w6 w7 g0 g6 g7 (t1 ++ t2 ++ t3 ++ t4 ++ t5 ++ t6) t7
    (puts_both w0 w5 w6 g0 g5 g6 (t1 ++ t2 ++ t3 ++ t4 ++ t5) t6
    (puts_both w0 w4 w5 g0 g4 g5 (t1 ++ t2 ++ t3 ++ t4) t5
    (puts_both w0 w3 w4 g0 g3 g4 (t1 ++ t2 ++ t3) t4
    (puts_both w0 w2 w3 g0 g2 g3 (t1 ++ t2) t3
    (puts_both w0 w1 w2 g0 g1 g2 (t1) t2
    (c.put_object_start.ensures)
    (subst (λ (n : ℕ). Puts w1 w2 g1 g2 (number_field (codes "subpool") n)) c.from-number.ensures c.put_number_field.ensures))
    (subst (λ (n : ℕ). Puts w2 w3 g2 g3 (number_field (codes "owner") n)) c.from-owner.ensures c.put_number_field-2.ensures))
    (c.put_string_field.ensures))
    (c.put_share_fields.ensures))
    (c.put_sharers.ensures))
    (c.put_object_end.ensures))
