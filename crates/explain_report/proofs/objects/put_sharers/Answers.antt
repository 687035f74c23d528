use Rattle.std.proofs.Common.{ℕ, List, [], ◌++◌, codes}
use Rattle.text_output.proofs.Gathering.{puts_both}
use Rattle.explain_text.specs.Json.{json_name}
use Rattle.explain_report.specs.Texts.{tasks_text}
use Rattle.vsm_model.specs.Map.{sharers}
use Rattle.storage_core.specs.Meaning.{state_of}
use Rattle.explain_report.proofs.objects.put_sharers.Goals as goal

pub returns : goal.returns
returns g c =
    let w0 = g.W.Write.contents c.args.writer.now in
    let g0 = c.args.gathered.now in
    let w1 = g.W.Write.contents c.put_name.new.writer in
    let g1 = c.put_name.new.gathered in
    let w2 = g.W.Write.contents c.put.new.writer in
    let g2 = c.put.new.self in
    let w3 = g.W.Write.contents c.put_tasks.new.writer in
    let g3 = c.put_tasks.new.gathered in
    let w4 = g.W.Write.contents c.put-2.new.writer in
    let g4 = c.put-2.new.self in
    let p = c.args.subpool in
    let t1 : List ℕ = json_name (codes "sharers") in
    let t2 : List ℕ = codes "[" in
    let t3 : List ℕ = tasks_text [] (sharers (state_of c.args.storage.now) p.number p.owner) in
    let t4 : List ℕ = codes "]" in
    (puts_both w0 w3 w4 g0 g3 g4 (t1 ++ t2 ++ t3) t4
    (puts_both w0 w2 w3 g0 g2 g3 (t1 ++ t2) t3
    (puts_both w0 w1 w2 g0 g1 g2 (t1) t2
    (c.put_name.ensures)
    (c.put.ensures.puts))
    (c.put_tasks.ensures))
    (c.put-2.ensures.puts))
