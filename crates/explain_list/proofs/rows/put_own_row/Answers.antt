use Rattle.std.proofs.Common.{[], ◌∷◌, is_some, sym, subst}
use Rattle.explain_text.specs.declared.json.Form.{Form}
use Rattle.explain_list.specs.Rows.{PutsRows}
use Rattle.explain_list.proofs.rows.put_own_row.Goals as goal

pub returns-in-Text : goal.returns-in-Text
returns-in-Text g c = λ line before.
    subst (λ (f : Form). PutsRows f c.args.script.now (c.args.line.now ∷ []) (is_some c.args.lost ∷ []) [] (g.W.Write.contents c.args.writer.now) (g.W.Write.contents c.put_own_text.new.writer) c.args.gathered.now c.put_own_text.new.gathered)
    (sym c.in-Text.is) (c.put_own_text.ensures line before)

pub returns-in-Json : goal.returns-in-Json
returns-in-Json g c = λ line before.
    subst (λ (f : Form). PutsRows f c.args.script.now (c.args.line.now ∷ []) (is_some c.args.lost ∷ []) [] (g.W.Write.contents c.args.writer.now) (g.W.Write.contents c.put_own_object.new.writer) c.args.gathered.now c.put_own_object.new.gathered)
    (sym c.in-Json.is) (c.put_own_object.ensures line before)
