use Rattle.std.proofs.Common.{List, ℕ, subst}
use Rattle.text_output.specs.Writing.{Puts}
use Rattle.explain_list.specs.Causes.{cause_field}
use Rattle.explain_list.proofs.causes.put_why.Goals as goal

pub fail-requires : goal.fail-requires
fail-requires g c = c.in-Err.ensures.failed.1

pub returns-in-Ok : goal.returns-in-Ok
returns-in-Ok g c = (
  c.in-Ok.text.items,
  c.in-Ok.ensures.text,
  subst (λ (t : List ℕ). Puts (g.W.Write.contents c.args.writer.now) (g.W.Write.contents c.put_cause_field.new.writer) c.args.gathered.now c.put_cause_field.new.gathered (cause_field t))
      c.as_slice.ensures.value c.put_cause_field.ensures,
)

pub returns-in-Err : goal.returns-in-Err
returns-in-Err g c =
    let e = c.in-Err.ensures.failed in
    (e.0, e.2, c.fail.ensures (cause_field e.0))
