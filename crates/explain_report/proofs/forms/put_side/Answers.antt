use Rattle.std.proofs.Common.{sym, subst}
use Rattle.storage_core.specs.Meaning.{state_of}
use Rattle.text_output.specs.Writing.{Puts}
use Rattle.vsm_model.specs.Map.{sharers}
use Rattle.explain_report.specs.Forms.{side_in}
use Rattle.explain_report.proofs.forms.put_side.Goals as goal

pub returns-in-Json : goal.returns-in-Json
returns-in-Json g c =
    let row = c.args.row.now in
    subst (λ f. Puts (g.W.Write.contents c.args.writer.now) (g.W.Write.contents c.put_side_object.new.writer) c.args.gathered.now c.put_side_object.new.gathered
    (side_in f row c.args.side.now c.args.share.now (sharers (state_of c.args.storage.now) row.subpool.number row.subpool.owner))) (sym c.in-Json.is) c.put_side_object.ensures
