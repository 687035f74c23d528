use Rattle.std.proofs.Common.{subst}
use Rattle.std.specs.List.{flat_map}
use Rattle.text_output.specs.Writing.{Puts}
use Rattle.text_output.proofs.Gathering.{puts_both, puts_none}
use Rattle.explain_text.specs.Json.{escaped}
use Rattle.explain_text.specs.Letters.{shown_to}
use Rattle.explain_text.proofs.Strings.{escaped_next}
use Rattle.explain_text.proofs.json.put_content.Goals as goal

pub loop-at-init : goal.loop-at-init
loop-at-init g c = puts_none _ _

pub loop-at-preserved : goal.loop-at-preserved
loop-at-preserved g c =
    let l = c.loop-at in
    let old = g.W.Write.contents c.args.writer.now in
    let now = g.W.Write.contents l.writer in
    let new = g.W.Write.contents c.put_escaped.new.writer in
    let line = c.args.bytes.now in
    subst (Puts old new c.args.gathered.now c.put_escaped.new.gathered)
    (escaped_next line l.at c.shown_at.result c.shown_at.ensures)
    (puts_both old now new c.args.gathered.now l.gathered c.put_escaped.new.gathered
    (flat_map escaped (shown_to line l.at)) (escaped c.shown_at.result) l.invariant c.put_escaped.ensures)
