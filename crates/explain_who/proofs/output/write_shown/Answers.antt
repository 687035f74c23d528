use Rattle.std.proofs.Common.{map, length, Ok, Err}
use Rattle.explain_who.specs.Code.{difference_in}
use Rattle.explain_who.specs.Forms.{shown_in}
use Rattle.explain_who.proofs.Written.{all_written}
use Rattle.explain_who.proofs.output.write_shown.Goals as goal

pub returns-in-Ok : goal.returns-in-Ok
returns-in-Ok g c =
    let text = shown_in c.args.form c.args.settings c.args.script.now c.args.asked.now (map difference_in c.args.shown.now) (length c.args.traced.now.entries.items) in
    all_written (g.W.Write.contents c.args.out.now) (g.W.Write.contents c.put_shown.new.writer) (g.W.Write.contents c.hand_out.new.writer) c.new-gathered.result c.put_shown.new.gathered text
    (Ok tt) c.new-gathered.ensures c.put_shown.ensures c.in-Ok.ensures.writes

pub returns-in-Err : goal.returns-in-Err
returns-in-Err g c =
    let text = shown_in c.args.form c.args.settings c.args.script.now c.args.asked.now (map difference_in c.args.shown.now) (length c.args.traced.now.entries.items) in
    all_written (g.W.Write.contents c.args.out.now) (g.W.Write.contents c.put_shown.new.writer) (g.W.Write.contents c.hand_out.new.writer) c.new-gathered.result c.put_shown.new.gathered text
    (Err c.in-Err.field-0) c.new-gathered.ensures c.put_shown.ensures c.in-Err.ensures.writes
