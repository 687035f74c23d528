use Rattle.std.proofs.Common.{◌≤◌, ◌<◌, Bool, false, [], ◌∷◌, ◌+◌, ◌++◌, length, take, get_or, is_some, Option, sym, subst, arith}
use Rattle.std.proofs.lemmas.List.{take_all, take_more}
use Rattle.macro_operands.specs.declared.faults.FaultKind.{FaultKind}
use Rattle.explain_faults.specs.declared.carets.Caret.{Caret}
use Rattle.explain_list.specs.Rows.{PutsRows, marks_on}
use Rattle.explain_list.proofs.Each.{rows_no, rows_both}
use Rattle.explain_list.specs.Pages.{ends_lost, fault_at, lost_by, marks_in}
use Rattle.explain_list.proofs.Marked.{length_lost, lost_at, marks_next, marks_none, shown_either, shown_line}
use Rattle.explain_list.proofs.page_texts.put_rows.Goals as goal

pub loop-index-init : goal.loop-index-init
loop-index-init g c = λ kind page whole.
    let now = g.W.Write.contents c.args.writer.now in
    subst (λ ms. PutsRows c.args.form c.args.script.now [] [] ms now now c.args.gathered.now c.args.gathered.now) (marks_none c.args.page.now.fault) (rows_no c.args.form c.args.script.now _ _)

pub loop-index-preserved : goal.loop-index-preserved
loop-index-preserved g c = λ kind page whole.
    let form = c.args.form in
    let script = c.args.script.now in
    let its = c.args.page.now in
    let shown = c.lines-lines.result.now in
    let i = c.loop-index.index in
    let line = get_or shown i _ in
    let either = shown_either its shown c.lines-lines.ensures in
    let gone = lost_by (ends_lost its.last) shown in
    let inside : i < length gone = omega (arith, c.loop-index-test.true, length_lost (ends_lost its.last) shown) in
    let now = g.W.Write.contents c.args.writer.now in
    let new = g.W.Write.contents c.put_line_rows.new.writer in
    let own = c.put_line_rows.ensures (shown_line script kind its shown i _ page either c.loop-index-test.true) (c.lost.ensures.line script page.lines) in
    let loss = lost_at script kind its shown i _ c.lost.result whole c.lines-lines.ensures c.loop-index-test.true c.lost.ensures.last c.lost.ensures.other in
    subst (λ ls. PutsRows form script ls (take (i + 1) gone) (marks_in (take (i + 1) shown) its.fault) now new c.args.gathered.now c.put_line_rows.new.gathered)
    (sym (take_more shown i _ c.loop-index-test.true))
    (subst (λ bs. PutsRows form script (take i shown ++ line ∷ []) bs (marks_in (take (i + 1) shown) its.fault) now new c.args.gathered.now c.put_line_rows.new.gathered)
    (sym (take_more gone i false inside))
    (subst (λ ms. PutsRows form script (take i shown ++ line ∷ []) (take i gone ++ get_or gone i false ∷ []) ms now new c.args.gathered.now c.put_line_rows.new.gathered)
    (marks_next shown _ i its.fault c.loop-index-test.true)
    (rows_both form script (take i shown) (line ∷ []) (take i gone) _ _ _ _ _ _ _ _ _ (c.loop-index.invariant kind page whole)
    (subst (λ (b : Bool). PutsRows form script (line ∷ []) (b ∷ []) (marks_on line (fault_at its.fault i)) (g.W.Write.contents c.loop-index.writer) new c.loop-index.gathered c.put_line_rows.new.gathered)
    loss
    (subst (λ (f : Option (Caret × FaultKind)). PutsRows form script (line ∷ []) (is_some c.lost.result ∷ []) (marks_on line f) (g.W.Write.contents c.loop-index.writer) new c.loop-index.gathered c.put_line_rows.new.gathered)
    c.fault_on.ensures own)))))

pub returns : goal.returns
returns g c = λ kind page whole.
    let gone = lost_by (ends_lost c.args.page.now.last) c.lines-lines.result.now in
    let past : length gone ≤ c.loop-index.index = omega (arith, c.loop-index-test.false, length_lost (ends_lost c.args.page.now.last) c.lines-lines.result.now) in
    subst (λ ls. PutsRows c.args.form c.args.script.now ls (lost_by (ends_lost c.args.page.now.last) ls) (marks_in ls c.args.page.now.fault) (g.W.Write.contents c.args.writer.now) (g.W.Write.contents c.loop-index.writer) c.args.gathered.now c.loop-index.gathered)
    c.lines-lines.ensures
    (subst (λ bs. PutsRows c.args.form c.args.script.now c.lines-lines.result.now bs (marks_in c.lines-lines.result.now c.args.page.now.fault) (g.W.Write.contents c.args.writer.now) (g.W.Write.contents c.loop-index.writer) c.args.gathered.now c.loop-index.gathered)
    (take_all c.loop-index.index gone past)
    (subst (λ ls. PutsRows c.args.form c.args.script.now ls (take c.loop-index.index gone) (marks_in ls c.args.page.now.fault) (g.W.Write.contents c.args.writer.now) (g.W.Write.contents c.loop-index.writer) c.args.gathered.now c.loop-index.gathered)
    (take_all c.loop-index.index c.lines-lines.result.now c.loop-index-test.false) (c.loop-index.invariant kind page whole)))
