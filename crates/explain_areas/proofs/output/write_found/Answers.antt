use Rattle.std.proofs.Common.{Ok, Err, map, refl}
use Rattle.text_output.proofs.Known.{appends_nothing}
use Rattle.explain_who.proofs.Written.{all_written}
use Rattle.explain_areas.specs.Keeps.{page_of}
use Rattle.explain_areas.specs.RowTexts.{listed_text}
use Rattle.explain_areas.proofs.output.write_found.Goals as goal

pub returns-in-Ok-hand_out : goal.returns-in-Ok-hand_out
returns-in-Ok-hand_out g c =
    let asked = c.args.asked.now in
    let found = c.args.found.now in
    let text = listed_text asked.form asked.listed c.args.script.now (map page_of found.pages.items) found.rows.items in
    all_written (g.W.Write.contents c.args.out.now) (g.W.Write.contents c.put_found.new.writer) (g.W.Write.contents c.hand_out.new.writer) c.new-gathered.result c.put_found.new.gathered text (Ok tt)
    c.new-gathered.ensures c.put_found.ensures c.in-Ok-hand_out.ensures.writes

pub returns-in-Err-hand_out : goal.returns-in-Err-hand_out
returns-in-Err-hand_out g c =
    let asked = c.args.asked.now in
    let found = c.args.found.now in
    let text = listed_text asked.form asked.listed c.args.script.now (map page_of found.pages.items) found.rows.items in
    all_written (g.W.Write.contents c.args.out.now) (g.W.Write.contents c.put_found.new.writer) (g.W.Write.contents c.hand_out.new.writer) c.new-gathered.result c.put_found.new.gathered text (Err c.in-Err-hand_out.field-0)
    c.new-gathered.ensures c.put_found.ensures c.in-Err-hand_out.ensures.writes

pub returns-in-Err : goal.returns-in-Err
returns-in-Err g c = (refl, appends_nothing (g.W.Write.contents c.args.out.now))
