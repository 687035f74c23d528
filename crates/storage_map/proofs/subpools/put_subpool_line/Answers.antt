use Rattle.std.proofs.Common.{ℕ, [], ◌∷◌, ◌++◌, codes, subst}
use Rattle.text_output.specs.Writing.{Puts}
use Rattle.text_output.proofs.Gathering.{puts_both}
use Rattle.vsm_model.specs.Map.{field, listed, sharers}
use Rattle.storage_core.specs.Meaning.{state_of}
use Rattle.storage_map.proofs.subpools.put_subpool_line.Goals as goal

pub returns : goal.returns
returns g c =
    let w0 = g.W.Write.contents c.args.writer.now in
    let g0 = c.args.gathered.now in
    let w1 = g.W.Write.contents c.put_field.new.writer in
    let g1 = c.put_field.new.gathered in
    let w2 = g.W.Write.contents c.put_field-2.new.writer in
    let g2 = c.put_field-2.new.gathered in
    let w3 = g.W.Write.contents c.put.new.writer in
    let g3 = c.put.new.self in
    let w4 = g.W.Write.contents c.put_sharers.new.writer in
    let g4 = c.put_sharers.new.gathered in
    let w5 = g.W.Write.contents c.put-2.new.writer in
    let g5 = c.put-2.new.self in
    let t1 = field (codes " SUBPOOL") c.args.found.subpool.number in
    let t2 = field (codes " OWNER") c.args.found.subpool.owner in
    let t3 = codes " SHARERS " in
    let t4 = listed (sharers (state_of c.args.storage.now) c.args.found.subpool.number c.args.found.subpool.owner) in
    let t5 = (10 ∷ []) in
    puts_both w0 w4 w5 g0 g4 g5 (t1 ++ t2 ++ t3 ++ t4) t5
    (puts_both w0 w3 w4 g0 g3 g4 (t1 ++ t2 ++ t3) t4
    (puts_both w0 w2 w3 g0 g2 g3 (t1 ++ t2) t3
    (puts_both w0 w1 w2 g0 g1 g2 (t1) t2
    (subst (λ (n : ℕ). Puts w0 w1 g0 g1 (field (codes " SUBPOOL") n)) c.from.ensures c.put_field.ensures)
    (subst (λ (n : ℕ). Puts w1 w2 g1 g2 (field (codes " OWNER") n)) c.from-2.ensures c.put_field-2.ensures))
    c.put.ensures.puts)
    c.put_sharers.ensures)
    c.put-2.ensures.puts
