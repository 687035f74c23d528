use Rattle.std.proofs.Common.{append-nil, inr, subst, sym}
use Rattle.text_output.specs.Writing.{Holds}
use Rattle.explain_check.specs.Checked.{rows_text}
use Rattle.explain_check.proofs.checking.stop.Goals as goal

pub returns-in-Ok : goal.returns-in-Ok
returns-in-Ok g c = λ settings script manner found sum first h.
    let pages = h.4.0 in
    let held = subst (Holds first (g.W.Write.contents c.args.writer.now) c.args.gathered.now) (sym (append-nil (rows_text manner pages))) h.4.2 in
    (h.0, h.1, h.2, h.3, (pages, h.4.1, c.in-Ok.ensures.writes first _ held))

pub returns-in-Err : goal.returns-in-Err
returns-in-Err g c = λ settings script manner found sum first h.
    let pages = h.4.0 in
    let held = subst (Holds first (g.W.Write.contents c.args.writer.now) c.args.gathered.now) (sym (append-nil (rows_text manner pages))) h.4.2 in
    c.write_fault.ensures settings script manner found sum first _ (h.0, h.1, inr h.2, inr (h.3, (pages, h.4.1, c.in-Err.ensures.writes first _ held)))
