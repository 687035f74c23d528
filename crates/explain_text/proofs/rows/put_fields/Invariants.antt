use Rattle.std.proofs.Common.{take}
use Rattle.text_output.specs.Writing.{Puts}
use Rattle.explain_text.proofs.FieldRows.{fields_in}
use Rattle.explain_text.proofs.rows.put_fields.Given as goal

abbrev pub invariant-loop-field : goal.invariant-loop-field
invariant-loop-field g l =
    Puts (g.W.Write.contents l.fn.writer) (g.W.Write.contents l.writer) l.fn.gathered l.gathered
    (fields_in l.form (take l.field-index l.fields))
