use Rattle.std.proofs.Common.{ℕ, List, [], ◌∷◌, ◌++◌, ◌∙◌, codes, subst}
use Rattle.std.specs.Prelude.{option_map}
use Rattle.text_output.specs.Writing.{Puts}
use Rattle.text_output.proofs.Gathering.{puts_both}
use Rattle.vsm_model.specs.Map.{field, header_text, location_text}
use Rattle.storage_map.proofs.cells.put_cell_pool_line.Goals as goal

pub returns : goal.returns
returns g c =
    let w0 = g.W.Write.contents c.args.writer.now in
    let g0 = c.args.gathered.now in
    let w1 = g.W.Write.contents c.put.new.writer in
    let g1 = c.put.new.self in
    let w2 = g.W.Write.contents c.put-2.new.writer in
    let g2 = c.put-2.new.self in
    let w3 = g.W.Write.contents c.put_field.new.writer in
    let g3 = c.put_field.new.gathered in
    let w4 = g.W.Write.contents c.put_field-2.new.writer in
    let g4 = c.put_field-2.new.gathered in
    let w5 = g.W.Write.contents c.put_field-3.new.writer in
    let g5 = c.put_field-3.new.gathered in
    let w6 = g.W.Write.contents c.put_field-4.new.writer in
    let g6 = c.put_field-4.new.gathered in
    let w7 = g.W.Write.contents c.put_field-5.new.writer in
    let g7 = c.put_field-5.new.gathered in
    let w8 = g.W.Write.contents c.put_location.new.writer in
    let g8 = c.put_location.new.gathered in
    let w9 = g.W.Write.contents c.put_header.new.writer in
    let g9 = c.put_header.new.gathered in
    let w10 = g.W.Write.contents c.put-3.new.writer in
    let g10 = c.put-3.new.self in
    let t1 = codes " CELLPOOL " in
    let t2 = c.args.name.now.bytes in
    let t3 = field (codes " SUBPOOL") c.args.settings.subpool.number in
    let t4 = field (codes " OWNER") c.args.settings.subpool.owner in
    let t5 = field (codes " SIZE") c.args.settings.size in
    let t6 = field (codes " PRIMARY") c.args.settings.primary in
    let t7 = field (codes " SECONDARY") c.args.settings.secondary in
    let t8 = location_text c.args.settings.location in
    let t9 = header_text (option_map (λ h. h.items) c.args.header.now) in
    let t10 = (10 ∷ []) in
    puts_both w0 w9 w10 g0 g9 g10 (t1 ++ t2 ++ t3 ++ t4 ++ t5 ++ t6 ++ t7 ++ t8 ++ t9) t10
    (puts_both w0 w8 w9 g0 g8 g9 (t1 ++ t2 ++ t3 ++ t4 ++ t5 ++ t6 ++ t7 ++ t8) t9
    (puts_both w0 w7 w8 g0 g7 g8 (t1 ++ t2 ++ t3 ++ t4 ++ t5 ++ t6 ++ t7) t8
    (puts_both w0 w6 w7 g0 g6 g7 (t1 ++ t2 ++ t3 ++ t4 ++ t5 ++ t6) t7
    (puts_both w0 w5 w6 g0 g5 g6 (t1 ++ t2 ++ t3 ++ t4 ++ t5) t6
    (puts_both w0 w4 w5 g0 g4 g5 (t1 ++ t2 ++ t3 ++ t4) t5
    (puts_both w0 w3 w4 g0 g3 g4 (t1 ++ t2 ++ t3) t4
    (puts_both w0 w2 w3 g0 g2 g3 (t1 ++ t2) t3
    (puts_both w0 w1 w2 g0 g1 g2 (t1) t2
    c.put.ensures.puts
    (subst (λ (x : List ℕ). Puts w1 w2 g1 g2 x) (c.as_bytes.ensures.value ∙ c.as_str.ensures.value) c.put-2.ensures.puts))
    (subst (λ (n : ℕ). Puts w2 w3 g2 g3 (field (codes " SUBPOOL") n)) c.from.ensures c.put_field.ensures))
    (subst (λ (n : ℕ). Puts w3 w4 g3 g4 (field (codes " OWNER") n)) c.from-2.ensures c.put_field-2.ensures))
    (subst (λ (n : ℕ). Puts w4 w5 g4 g5 (field (codes " SIZE") n)) c.from-3.ensures c.put_field-3.ensures))
    (subst (λ (n : ℕ). Puts w5 w6 g5 g6 (field (codes " PRIMARY") n)) c.from-4.ensures c.put_field-4.ensures))
    (subst (λ (n : ℕ). Puts w6 w7 g6 g7 (field (codes " SECONDARY") n)) c.from-5.ensures c.put_field-5.ensures))
    c.put_location.ensures)
    c.put_header.ensures)
    c.put-3.ensures.puts
