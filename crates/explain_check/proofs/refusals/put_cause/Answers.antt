use Rattle.std.proofs.Common.{List, ℕ, ap, subst, ◌∙◌}
use Rattle.text_output.specs.Writing.{Puts}
use Rattle.explain_check.specs.Lines.{refused, row_at}
use Rattle.explain_check.specs.Reasons.{first_line}
use Rattle.explain_check.proofs.refusals.put_cause.Goals as goal

pub fail-requires : goal.fail-requires
fail-requires g c = c.in-Err.ensures.failed.1

pub returns-in-Ok : goal.returns-in-Ok
returns-in-Ok g c = (
  c.in-Ok.text.items,
  c.in-Ok.ensures.text,
  subst (λ (t : List ℕ). Puts (g.W.Write.contents c.args.writer.now) (g.W.Write.contents c.put_words.new.writer) c.args.gathered.now c.put_words.new.gathered (row_at c.args.spot.now (refused c.args.answer t)))
      (c.first_line.ensures.line ∙ ap first_line c.as_slice.ensures.value) c.put_words.ensures,
)

pub returns-in-Err : goal.returns-in-Err
returns-in-Err g c =
    let e = c.in-Err.ensures.failed in
    (e.0, e.2, c.fail.ensures (row_at c.args.spot.now (refused c.args.answer (first_line e.0))))
