use Rattle.std.proofs.Common.{subst}
use Rattle.std.proofs.lemmas.List.{take_all}
use Rattle.text_output.specs.Writing.{Puts}
use Rattle.text_output.proofs.Gathering.{puts_none}
use Rattle.explain_text.proofs.FieldRows.{fields_in, next_put}
use Rattle.explain_text.proofs.rows.put_fields.Goals as goal

pub loop-field-init : goal.loop-field-init
loop-field-init g c = puts_none (g.W.Write.contents c.args.writer.now) c.args.gathered.now

pub loop-field-preserved : goal.loop-field-preserved
loop-field-preserved g c =
    next_put c.args.form (g.W.Write.contents c.args.writer.now) (g.W.Write.contents c.loop-field.writer) (g.W.Write.contents c.put_field.new.writer)
    c.args.gathered.now c.loop-field.gathered c.put_field.new.gathered c.args.fields.now c.loop-field.field-index _ c.loop-field-test.true c.loop-field.invariant
    c.put_field.ensures

pub returns : goal.returns
returns g c =
    subst (λ fs. Puts (g.W.Write.contents c.args.writer.now) (g.W.Write.contents c.loop-field.writer) c.args.gathered.now c.loop-field.gathered (fields_in c.args.form fs))
    (take_all c.loop-field.field-index c.args.fields.now c.loop-field-test.false) c.loop-field.invariant
