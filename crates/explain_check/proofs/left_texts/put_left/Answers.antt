use Rattle.std.proofs.Common.{◌++◌, codes, option_map, subst}
use Rattle.std.specs.Fmt.{decimal}
use Rattle.text_output.specs.Writing.{Puts}
use Rattle.text_output.proofs.Gathering.{puts_both}
use Rattle.explain_who.specs.LineTexts.{counted}
use Rattle.explain_who.specs.TakenTexts.{subpool_text}
use Rattle.explain_check.specs.LeftTexts.{cell_text, ended_text, start_text}
use Rattle.explain_check.proofs.left_texts.put_left.Goals as goal

pub returns : goal.returns
returns g c =
    let l = c.args.left.now in
    let count = counted l.bytes (codes "byte") in
    let start = start_text l.areas l.address in
    let cell = cell_text c.args.form (option_map (λ pool. pool.items) l.pool) in
    let pool = subpool_text l.subpool in
    let ended = ended_text l.ended in
    subst (Puts (g.W.Write.contents c.args.writer.now) (g.W.Write.contents c.put_ended.new.writer) c.args.gathered.now c.put_ended.new.gathered) (λ i. codes "LEFT: " ++ count ++ start ++ cell ++ codes ", " ++ pool ++ codes ", obtained by task " ++ decimal (c.from.ensures i) ++ ended)
    (puts_both _ _ _ _ _ _ (codes "LEFT: " ++ count ++ start ++ cell ++ codes ", " ++ pool ++ codes ", obtained by task " ++ decimal c.from.result) (ended)
    (puts_both _ _ _ _ _ _ (codes "LEFT: " ++ count ++ start ++ cell ++ codes ", " ++ pool ++ codes ", obtained by task ") (decimal c.from.result)
    (puts_both _ _ _ _ _ _ (codes "LEFT: " ++ count ++ start ++ cell ++ codes ", " ++ pool) (codes ", obtained by task ")
    (puts_both _ _ _ _ _ _ (codes "LEFT: " ++ count ++ start ++ cell ++ codes ", ") (pool)
    (puts_both _ _ _ _ _ _ (codes "LEFT: " ++ count ++ start ++ cell) (codes ", ")
    (puts_both _ _ _ _ _ _ (codes "LEFT: " ++ count ++ start) (cell)
    (puts_both _ _ _ _ _ _ (codes "LEFT: " ++ count) (start)
    (puts_both _ _ _ _ _ _ (codes "LEFT: ") (count)
    c.put.ensures.puts
    c.put_count.ensures)
    c.put_start.ensures)
    c.put_cell.ensures)
    c.put-2.ensures.puts)
    c.put_subpool.ensures)
    c.put-3.ensures.puts)
    c.put_decimal.ensures)
    c.put_ended.ensures)
