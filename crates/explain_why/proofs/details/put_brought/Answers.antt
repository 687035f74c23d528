use Rattle.std.proofs.Common.{subst, sym}
use Rattle.text_output.specs.Writing.{Puts}
use Rattle.explain_why.specs.Obstacles.{brought_text}
use Rattle.explain_why.proofs.details.put_brought.Goals as goal

pub returns-in-Taken : goal.returns-in-Taken
returns-in-Taken g c =
    subst (λ o. Puts (g.W.Write.contents c.args.writer.now) (g.W.Write.contents c.put_did.new.writer) c.args.gathered.now c.put_did.new.gathered (brought_text c.args.line o))
    (sym c.in-Taken.is) c.put_did.ensures

pub returns-in-Untaken : goal.returns-in-Untaken
returns-in-Untaken g c =
    subst (λ o. Puts (g.W.Write.contents c.args.writer.now) (g.W.Write.contents c.put_did-in-Untaken.new.writer) c.args.gathered.now c.put_did-in-Untaken.new.gathered (brought_text c.args.line o))
    (sym c.in-Untaken.is) c.put_did-in-Untaken.ensures

pub returns-in-UsedCell : goal.returns-in-UsedCell
returns-in-UsedCell g c =
    subst (λ o. Puts (g.W.Write.contents c.args.writer.now) (g.W.Write.contents c.put_did-in-UsedCell.new.writer) c.args.gathered.now c.put_did-in-UsedCell.new.gathered (brought_text c.args.line o))
    (sym c.in-UsedCell.is) c.put_did-in-UsedCell.ensures

pub returns-in-FreeCell : goal.returns-in-FreeCell
returns-in-FreeCell g c =
    subst (λ o. Puts (g.W.Write.contents c.args.writer.now) (g.W.Write.contents c.put_did-in-FreeCell.new.writer) c.args.gathered.now c.put_did-in-FreeCell.new.gathered (brought_text c.args.line o))
    (sym c.in-FreeCell.is) c.put_did-in-FreeCell.ensures
