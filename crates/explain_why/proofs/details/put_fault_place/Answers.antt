use Rattle.std.proofs.Common.{List, subst}
use Rattle.explain_faults.specs.Places.{MarksOperand, first_card, further_cards}
use Rattle.explain_faults.specs.declared.lines.SourceLine.{SourceLine}
use Rattle.text_output.proofs.Gathering.{puts_both}
use Rattle.explain_why.specs.Details.{at_text}
use Rattle.explain_why.proofs.details.put_fault_place.Goals as goal

pub returns : goal.returns
returns g c =
    let text = c.args.text.now in
    let caret = c.caret_of-caret.result in
    let words = c.as_slice-2.result.now in (
      caret,
      subst (λ (lines : List SourceLine). MarksOperand (first_card text lines) (further_cards text lines) c.args.kind caret) c.as_slice.ensures.value c.caret_of-caret.ensures,
      (
        words,
        puts_both (g.W.Write.contents c.args.writer.now) (g.W.Write.contents c.put_at.new.writer) (g.W.Write.contents c.put.new.writer)
            c.args.gathered.now c.put_at.new.gathered c.put.new.self (at_text c.args.first caret.place) words c.put_at.ensures c.put.ensures.puts,
      ),
    )
